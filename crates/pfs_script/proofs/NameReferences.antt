-- What names stand for behind lines: whether they stand for something, and which classes.
use Rattle.std.proofs.Common.{◌≡◌, ℕ, zero, suc, ◌<◌, Bool, true, false, cond, eqb, List, [], ◌∷◌, ◌++◌, length, get_or, map, Option, Some, None, inl, inr, refl, sym, ap, ◌∙◌, arith}
use Rattle.std.specs.Prelude.{codes, fold, nat_lt, slice_get, position, is_some}
use Rattle.std.specs.List.{position_or_len, find, list_any}
use Rattle.std.specs.Str.{bytes_eq}
use Rattle.std.proofs.lemmas.Bool.{false≢true, eqb-true, ltb-true}
use Rattle.std.proofs.lemmas.List.Sums.{passes_at_first}
use Rattle.std.proofs.lemmas.Option.{same_Some, slice_get-get_or, slice_get_within}
use Rattle.std.proofs.lemmas.Slice.Eq.{bytes_eq-Decides}
use Rattle.pfs_rows.specs.declared.limits.Limits.{Limits}
use Rattle.pfs_names.specs.InternedTexts.{Interns, id_of, interned}
use Rattle.pfs_classes.specs.declared.kind.Kind.{Kind}
use Rattle.pfs_classes.specs.declared.classes.Class.{Class}
use Rattle.pfs_classes.specs.declared.classes.LostClass.{LostClass}
use Rattle.pfs_classes.specs.declared.classes.ClassRef.{ClassRef}
use Rattle.pfs_classes.specs.declared.classes.ClassRef.TheVariants as refs
use Rattle.pfs_classes.specs.Registry.{Registry, has_room, registered}
use Rattle.pfs_classes.specs.Builtins.{builtins, class_of, start_of, builtin_of}
use Rattle.pfs_script.specs.declared.forms.Form.{Form}
use Rattle.pfs_script.specs.declared.forms.Form.TheVariants as form
use Rattle.pfs_script.specs.Headings.{Naming, naming_behind, naming_under, naming_of, limits_of, with_class, head_of, is_known, ref_of, lost_ref, class_ref, resolved}
use Rattle.pfs_script.proofs.NameIds.{interns}
use Rattle.pfs_script.proofs.BuiltinNames.{builtin_names, names-builtin}
use Rattle.pfs_script.proofs.HeadLemmas.{knows_resolved}

there : (o : Option ClassRef) → is_some o ≡ true → (ref : ClassRef) × (o ≡ Some ref)
there None e = absurd (false≢true e)
there (Some ref) e = (ref, refl)

pub known_resolved : (lines : List Form) (name : List ℕ) → is_known lines name ≡ true → (ref : ClassRef) × (resolved (head_of lines) name ≡ Some ref)
known_resolved lines name known = there (resolved (head_of lines) name) (knows_resolved lines name ∙ known)

-- `transaction` has the last of the built-in names
record HasLast (naming : Naming) : Type 0 where
  pub transaction : naming.classes.transaction.name ≡ 24
  pub named : slice_get naming.names 24 ≡ Some (codes "transaction")

same_by : (r : Registry) (class : Class) (room : Bool) → (cond room (record r { classes = r.classes ++ class ∷ [] }) (record r { lost = r.lost ++ record { name = class.name; kind = class.kind } ∷ [] })).transaction ≡ r.transaction
same_by r class true = refl
same_by r class false = refl

same_transaction : (r : Registry) (class : Class) → (registered r class).transaction ≡ r.transaction
unfolding registered
same_transaction r class = same_by r class (has_room r class.kind)

same_behind : (classes : List Class) (r : Registry) → (fold registered r classes).transaction ≡ r.transaction
same_behind [] r = refl
same_behind (class ∷ classes) r = same_behind classes (registered r class) ∙ same_transaction r class

get_old : (texts : List (List ℕ)) (text old : List ℕ) (i : ℕ) → slice_get texts i ≡ Some old → slice_get (texts ++ text ∷ []) i ≡ Some old
get_old [] text old i at = absurd (cc)
get_old (first ∷ texts) text old zero at = at
get_old (first ∷ texts) text old (suc i) at = get_old texts text old i at

named_after : (before after : List (List ℕ)) (text old : List ℕ) (i : ℕ) → Interns before after text → slice_get before i ≡ Some old → slice_get after i ≡ Some old
named_after before after text old i (inl (has, same)) at = ap (λ (all : List (List ℕ)). slice_get all i) same ∙ at
named_after before after text old i (inr (absent, more)) at = ap (λ (all : List (List ℕ)). slice_get all i) more ∙ get_old before text old i at

last_builtin : (limits : Limits) → HasLast (naming_under limits)
unfolding naming_under
last_builtin limits = record {
  transaction =
      ap (λ (texts : List (List ℕ)). (builtin_of texts limits).transaction.name) names-builtin
      ∙ ap (λ (class : Class). class.name) (same_behind (map (class_of builtin_names) builtins) (start_of builtin_names limits));
  named = ap (λ (texts : List (List ℕ)). slice_get texts 24) names-builtin;
}

last_class : (naming : Naming) (name : List ℕ) (kind : Kind) (enabled timed : Bool) → HasLast naming → HasLast (with_class naming name kind enabled timed)
unfolding with_class
last_class naming name kind enabled timed has = record {
  transaction = ap (λ (class : Class). class.name) (same_transaction naming.classes (record { name = id_of (interned naming.names name) name; kind = kind; enabled = enabled; timed = timed })) ∙ has.transaction;
  named = named_after naming.names (interned naming.names name) name (codes "transaction") 24 (interns naming.names name (list_any (λ one. bytes_eq one name) naming.names) refl) has.named;
}

named_by : (class : Class) (enabled timed b : Bool) → (cond b (record class { enabled = enabled; timed = timed }) class).name ≡ class.name
named_by class enabled timed true = refl
named_by class enabled timed false = refl

last_step : (naming : Naming) (line : Form) → HasLast naming → HasLast (naming_behind naming line)
last_step naming (form.Class name kind enabled timed) has = last_class naming name kind enabled timed has
last_step naming (form.Instrument pattern enabled timed) has = record { transaction = named_by naming.classes.transaction enabled timed _ ∙ has.transaction; named = has.named }
last_step naming form.Silent has = has
last_step naming _ has = has

last_fold : (naming : Naming) (lines : List Form) → HasLast naming → HasLast (fold naming_behind naming lines)
last_fold naming [] has = has
last_fold naming (line ∷ lines) has = last_fold (naming_behind naming line) lines (last_step naming line has)

last_of : (lines : List Form) → HasLast (naming_of lines)
unfolding naming_of
last_of lines = last_fold (naming_under (limits_of lines)) lines (last_builtin (limits_of lines))

-- the id of a text is a place at which it stands
text_at : (texts : List (List ℕ)) (text : List ℕ) → id_of texts text < length texts → slice_get texts (id_of texts text) ≡ Some text
text_at texts text within =
    slice_get-get_or texts (id_of texts text) text within
    ∙ ap Some ((bytes_eq-Decides (get_or texts (id_of texts text) text) text).0 (passes_at_first (λ (one : List ℕ). bytes_eq one text) texts text within))

-- a name with the id of `transaction` is that name
last_named : (naming : Naming) (name : List ℕ) → HasLast naming → naming.classes.transaction.name ≡ id_of naming.names name → name ≡ codes "transaction"
last_named naming name has same =
    let here : id_of naming.names name ≡ 24 = sym same ∙ has.transaction in
    let within : 24 < length naming.names = slice_get_within naming.names 24 (codes "transaction") has.named in
    let at : slice_get naming.names 24 ≡ Some name = ap (slice_get naming.names) (sym here) ∙ text_at naming.names name (omega arith) in
    same_Some name (codes "transaction") (sym at ∙ has.named)

not_lost : (o : Option LostClass) (id : ℕ) → lost_ref o ≡ Some (refs.Class id) → ⊥
not_lost None id e = cc
not_lost (Some one) id e = cc

class_id : (a b : ℕ) → Some (refs.Class a) ≡ Some (refs.Class b) → a ≡ b
class_id a b e = cc

place_within : (place n id : ℕ) (lost : Option LostClass) (within : Bool) → nat_lt place n ≡ within → class_ref (cond within (Some place) None) (lost_ref lost) ≡ Some (refs.Class id) → id < n
place_within place n id lost true e is = let lt = ltb-true place n e in let same = class_id place id is in omega arith
place_within place n id lost false e is = absurd (not_lost lost id is)

wait_by : (r : Registry) (id place : ℕ) (last : Bool) → eqb r.transaction.name id ≡ last → (r.transaction.name ≡ id → ⊥)
    → cond last (Some (refs.Class 62)) (class_ref (position (λ class. eqb class.name id) r.classes) (lost_ref (find (λ lost. eqb lost.name id) r.lost))) ≡ Some (refs.Class place) → place < length r.classes
wait_by r id place true e other is = absurd (other (eqb-true r.transaction.name id e))
wait_by r id place false e other is =
    let first : ℕ = position_or_len (λ (class : Class). eqb class.name id) r.classes in
    place_within first (length r.classes) place (find (λ (lost : LostClass). eqb lost.name id) r.lost) (nat_lt first (length r.classes)) refl is

-- a name but `transaction` stands for a class below their number, or for a lost one
pub resolved_within : (lines : List Form) (name : List ℕ) (id : ℕ) → bytes_eq name (codes "transaction") ≡ false → resolved (head_of lines) name ≡ Some (refs.Class id) → id < length (head_of lines).classes.classes
unfolding resolved ref_of head_of
resolved_within lines name id differs is =
    let naming : Naming = naming_of lines in
    let other : naming.classes.transaction.name ≡ id_of naming.names name → ⊥ = λ same.
    false≢true (sym differs ∙ (bytes_eq-Decides name (codes "transaction")).1 (last_named naming name (last_of lines) same)) in
    wait_by naming.classes (id_of naming.names name) id (eqb naming.classes.transaction.name (id_of naming.names name)) refl other is
