-- The register of classes: what it has, and what registering and setting do to it.
use Rattle.std.specs.Prelude.{◌≡◌, ℕ, ◌+◌, ◌<◌, ◌≤◌, Bool, false, ◌||◌, ◌==◌, nat_lt, if◌then◌else◌, List, [], ◌∷◌, ◌++◌, length, Option, Some, MatchOption, ◌⊎◌, Contains, count_by, slice_get, slice_index_or, slice_set, unwrap_or}
use Rattle.std.specs.Ordering.{nat_cmp}
use Rattle.std.specs.List.{list_any}
use Rattle.std.specs.BTreeMap.{BTreeMap, get}
use Rattle.pfs_rows.specs.declared.limits.Limits.{Limits}
use Rattle.pfs_rows.specs.Limits.{AreInRange}
use Rattle.pfs_classes.specs.declared.kind.Kind.{Kind}
use Rattle.pfs_classes.specs.declared.classes.Class.{Class}
use Rattle.pfs_classes.specs.declared.classes.LostClass.{LostClass}
use Rattle.pfs_classes.specs.declared.classes.ClassRef.{ClassRef}
use Rattle.pfs_classes.specs.declared.classes.ClassRef.TheVariants as refs
use Rattle.pfs_classes.specs.declared.classes.Registered.{Registered}
use Rattle.pfs_classes.specs.declared.classes.Registered.TheVariants as told
use Rattle.pfs_classes.specs.Kinds.{same_kind, room_of}

-- the classes by id, `transaction`, which has an id of its own, and the names that found no room, in their order
pub record Registry : Type 0 where
  pub limits : Limits
  pub classes : List Class
  pub transaction : Class
  pub lost : List LostClass

-- an id that was given: one below the number of classes, or that of `transaction`
abbrev pub IsId : Registry → ℕ → Type 0
IsId r id = (id < length r.classes) ⊎ (id ≡ 62)

-- the class of an id
abbrev pub class_at : Registry → ℕ → Option Class
class_at r id = if id == 62 then Some r.transaction else slice_get r.classes id

-- the name was registered or lost
abbrev pub is_given : Registry → ℕ → Bool
is_given r name = (r.transaction.name == name)
    || (list_any (λ class. class.name == name) r.classes || list_any (λ lost. lost.name == name) r.lost)

-- what became of a name: it is a class's, or no room was left for it in its kind
abbrev pub RefersTo : Registry → ℕ → ClassRef → Type 0
RefersTo r name (refs.Class id) = IsId r id × ((class : Class) × (class_at r id ≡ Some class) × (class.name ≡ name))
RefersTo r name (refs.Lost kind) = Contains r.lost (record { name = name; kind = kind })

-- how many classes of the kind there are, and how many names of it are lost
abbrev pub count_of : Kind → List Class → ℕ
count_of kind classes = count_by (λ class. same_kind class.kind kind) classes

abbrev pub lost_of : Registry → Kind → ℕ
lost_of r kind = count_by (λ lost. same_kind lost.kind kind) r.lost

abbrev pub has_room : Registry → Kind → Bool
has_room r kind = nat_lt (count_of kind r.classes) (room_of r.limits kind)

-- with one more class, or, where its kind stands at its limit, with one more lost name
unfoldable pub registered : Registry → Class → Registry
registered r class =
    if has_room r class.kind
    then record r { classes = r.classes ++ class ∷ [] }
    else record r { lost = r.lost ++ record { name = class.name; kind = class.kind } ∷ [] }

-- what is told of it: the next id, or the kind's new count of lost names
abbrev pub outcome_of : Registry → Kind → Registered
outcome_of r kind = if has_room r kind then told.Class (length r.classes) else told.Lost kind (lost_of r kind + 1)

-- the class is registered or lost, and that is told
abbrev pub Registers : Registry → Registry → Class → Registered → Type 0
Registers before after class told = (told ≡ outcome_of before class.kind) × (after ≡ registered before class)

-- the text of a name's id
abbrev pub text_of : List (List ℕ) → ℕ → List ℕ
text_of texts id = unwrap_or (slice_get texts id) []

-- with this class's flags set
abbrev pub with_flags : Registry → ℕ → Bool → Bool → Registry
with_flags r id enabled timed =
    if id == 62
    then record r { transaction = record r.transaction { enabled = enabled; timed = timed } }
    else record r {
      classes = slice_set r.classes id
          (record (slice_index_or r.classes id r.transaction) { enabled = enabled; timed = timed });
    }

-- a look-up that agrees with the register, whose kinds are within their limits
pub record Keeps (r : Registry) (found : BTreeMap ℕ ClassRef) : Type 0 where
  pub agrees : (name : ℕ) → MatchOption (get nat_cmp found name) (is_given r name ≡ false) (λ ref. RefersTo r name ref)
  pub in_range : AreInRange r.limits
  pub within : (kind : Kind) → count_of kind r.classes ≤ room_of r.limits kind
