-- A register that a script can make has at most 62 classes.
use Rattle.std.proofs.Common.{ℕ, ◌≡◌, ◌+◌, ◌<◌, ◌≤◌, Bool, true, false, cond, eqb, List, [], ◌∷◌, ◌++◌, length, map, Some, get_or, refl, ap, sym, ◌∙◌, subst, inl, inr, arith}
use Rattle.std.specs.Prelude.{nat_lt, count_by, fold, slice_get, slice_set, if◌then◌else◌}
use Rattle.std.proofs.lemmas.Bool.{cases_lt, false≢true}
use Rattle.std.proofs.lemmas.Bool.Decides.{Decides-eqb, nat_tests}
use Rattle.std.proofs.lemmas.Grind.{not_there}
use Rattle.std.proofs.lemmas.List.Sums.{sum_by-set, sum_by_push}
use Rattle.std.proofs.lemmas.Option.{same_Some}
use Rattle.pfs_classes.proofs.RegistryLemmas.{few_within}
use Rattle.pfs_classes.specs.Builtins.{builtins, class_of, start_of}
use Rattle.pfs_classes.specs.Kinds.{kind_order, same_kind, room_of}
use Rattle.pfs_classes.specs.Registry.{Registry, IsId, count_of, has_room, registered, with_flags}
use Rattle.pfs_classes.specs.Settings.{ComesFrom, builtin, register, set}
use Rattle.pfs_classes.specs.declared.classes.Class.{Class}
use Rattle.pfs_classes.specs.declared.kind.Kind.{Kind}
use Rattle.pfs_classes.specs.declared.kind.Kind.TheVariants.{Mutex, Rwlock, Cond, File, Socket, TableIo, TableLock, Stage, Statement, Transaction}
use Rattle.pfs_classes.specs.declared.setting.Setting.{Setting}
use Rattle.pfs_rows.specs.Limits.{AreInRange}
use Rattle.pfs_rows.specs.declared.limits.Limits.{Limits}

-- each kind stands within its limit
record IsWithin (r : Registry) : Type 0 where
  pub in_range : AreInRange r.limits
  pub within : (kind : Kind) → count_of kind r.classes ≤ room_of r.limits kind

kinds : List Kind
kinds = Mutex ∷ Rwlock ∷ Cond ∷ File ∷ Socket ∷ TableIo ∷ TableLock ∷ Stage ∷ Statement ∷ Transaction ∷ []

kind_in_order : (kind : Kind) → slice_get kinds (kind_order kind) ≡ Some kind
unfolding kinds
kind_in_order Mutex = refl
kind_in_order _ = refl

from_same : (a b : Kind) → same_kind a b ≡ true → a ≡ b
from_same a b h =
    same_Some a b (sym (kind_in_order a) ∙ (ap (slice_get kinds) ((Decides-eqb (kind_order a) (kind_order b)).0 h) ∙ kind_in_order b))

room_left : (count room : ℕ) → nat_lt count room ≡ true → count + 1 ≤ room
room_left count room h = grind (arith, nat_tests)

one_more : (limits : Limits) (classes : List Class) (class : Class) (kind : Kind) (same : Bool) → same_kind class.kind kind ≡ same → nat_lt (count_of class.kind classes) (room_of limits class.kind) ≡ true
    → count_of kind classes ≤ room_of limits kind → count_of kind (classes ++ class ∷ []) ≤ room_of limits kind
one_more limits classes class kind true e room within =
    let one : nat_lt (count_of kind classes) (room_of limits kind) ≡ true = ap (λ k. nat_lt (count_of k classes) (room_of limits k)) (sym (from_same class.kind kind e)) ∙ room in
    omega (arith, sum_by_push (λ (x : Class). cond (same_kind x.kind kind) 1 0) classes class, room_left (count_of kind classes) (room_of limits kind) one, ap {B = ℕ} (λ b. cond b 1 0) e)
one_more limits classes class kind false e room within =
    omega (arith, sum_by_push (λ (x : Class). cond (same_kind x.kind kind) 1 0) classes class, ap {B = ℕ} (λ b. cond b 1 0) e)

still_within : (r : Registry) (class : Class) → IsWithin r → IsWithin (registered r class)
unfolding registered
still_within r class is = by_room (has_room r class.kind) refl where
  by_room : (b : Bool) → has_room r class.kind ≡ b → IsWithin (if b then record r { classes = r.classes ++ class ∷ [] } else record r { lost = r.lost ++ record { name = class.name; kind = class.kind } ∷ [] })
  by_room true e = record { in_range = is.in_range; within = λ kind. one_more r.limits r.classes class kind (same_kind class.kind kind) refl e (is.within kind) }
  by_room false e = record { in_range = is.in_range; within = is.within }

all_within : (r : Registry) (classes : List Class) → IsWithin r → IsWithin (fold registered r classes)
all_within r [] is = is
all_within r (class ∷ classes) is = all_within (registered r class) classes (still_within r class is)

same_count : (p : Class → Bool) (xs : List Class) (i : ℕ) (y d : Class) → i < length xs → p y ≡ p (get_or xs i d) → count_by p (slice_set xs i y) ≡ count_by p xs
same_count p xs i y d lt e = omega (arith, sum_by-set (λ x. cond (p x) 1 0) xs i y d lt, ap {B = ℕ} (λ b. cond b 1 0) e)

below : (r : Registry) (id : ℕ) → IsId r id → eqb id 62 ≡ false → id < length r.classes
below r id (inl low) e = low
below r id (inr last) e = absurd (false≢true (sym e ∙ (Decides-eqb id 62).1 last))

set_within : (r : Registry) (id : ℕ) (enabled timed : Bool) → IsId r id → IsWithin r → IsWithin (with_flags r id enabled timed)
set_within r id enabled timed given is = by_test (eqb id 62) refl where
  by_test : (b : Bool) → eqb id 62 ≡ b
      → IsWithin (if b then record r { transaction = record r.transaction { enabled = enabled; timed = timed } }
      else record r { classes = slice_set r.classes id (record (get_or r.classes id r.transaction) { enabled = enabled; timed = timed }) })
  by_test true e = record { in_range = is.in_range; within = is.within }
  by_test false e = record {
    in_range = is.in_range;
    within = λ kind. subst (λ (n : ℕ). n ≤ room_of r.limits kind)
        (sym (same_count (λ one. same_kind one.kind kind) r.classes id (record (get_or r.classes id r.transaction) { enabled = enabled; timed = timed }) r.transaction (below r id given e) refl)) (is.within kind);
  }

comes_within : (texts : List (List ℕ)) (r : Registry) → ComesFrom texts r → IsWithin r
comes_within texts r (builtin limits range has) =
    all_within (start_of texts limits) (map (class_of texts) builtins) (record { in_range = range; within = λ kind. omega arith })
comes_within texts r (register before class comes known fits ordinary fresh) = still_within before class (comes_within texts before comes)
comes_within texts r (set before id enabled timed comes given) = set_within before id enabled timed given (comes_within texts before comes)

comes_few : (texts : List (List ℕ)) (r : Registry) → ComesFrom texts r → length r.classes ≤ 62
comes_few texts r comes = let is : IsWithin r = comes_within texts r comes in few_within r.limits r.classes is.in_range is.within

pub few_classes : (setting : Setting) → length setting.classes.classes ≤ 62
few_classes setting = elim (cases_lt 62 (length setting.classes.classes)) [
  | inl many ↦ absurd (not_there setting.come (λ comes. absurd (omega (arith, many, comes_few setting.names setting.classes comes))))
  | inr few ↦ few
]
