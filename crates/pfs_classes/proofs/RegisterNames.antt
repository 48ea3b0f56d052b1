-- The names of a register are of the names that it comes from.
use Rattle.std.proofs.Common.{◌≡◌, ℕ, zero, suc, ◌<◌, Bool, true, false, cond, eqb, List, [], ◌∷◌, ◌++◌, length, get_or, Some, Contains, inl, inr, refl, sym, ◌∙◌, subst, arith}
use Rattle.std.specs.Prelude.{codes, slice_get, slice_set, slice_index_or}
use Rattle.std.proofs.lemmas.List.Elements.{Contains-push_cases, Contains-get_or}
use Rattle.std.proofs.lemmas.Bool.{false≢true}
use Rattle.std.proofs.lemmas.Bool.Decides.{Decides-eqb}
use Rattle.std.proofs.lemmas.Option.{same_Some, slice_get_within, get_or_from_slice_get}
use Rattle.pfs_classes.specs.declared.classes.Class.{Class}
use Rattle.pfs_classes.specs.declared.classes.LostClass.{LostClass}
use Rattle.pfs_classes.specs.Registry.{Registry, IsId, class_at, has_room, registered}
use Rattle.pfs_classes.specs.Builtins.{Row, builtins, class_of, after_rows, start_of, HasRows}
use Rattle.pfs_classes.specs.Settings.{ComesFrom, builtin, register, set, HasNames}
use Rattle.pfs_classes.proofs.RowTexts.{id_within}

known_pushed : (texts : List (List ℕ)) (r : Registry) (class : Class) → HasNames texts r → class.name < length texts → HasNames texts (record r { classes = r.classes ++ class ∷ [] })
known_pushed texts r class has known = record {
  classes = λ one there. elim (Contains-push_cases r.classes class one there) [ inl old ↦ has.classes one old | inr e ↦ subst (λ (c : Class). c.name < length texts) e known ];
  transaction = has.transaction;
  lost = has.lost;
}

known_lost : (texts : List (List ℕ)) (r : Registry) (lost : LostClass) → HasNames texts r → lost.name < length texts → HasNames texts (record r { lost = r.lost ++ lost ∷ [] })
known_lost texts r lost has known = record {
  classes = has.classes;
  transaction = has.transaction;
  lost = λ one there. elim (Contains-push_cases r.lost lost one there) [ inl old ↦ has.lost one old | inr e ↦ subst (λ (c : LostClass). c.name < length texts) e known ];
}

known_by : (texts : List (List ℕ)) (r : Registry) (class : Class) (room : Bool) → HasNames texts r → class.name < length texts
    → HasNames texts (cond room (record r { classes = r.classes ++ class ∷ [] }) (record r { lost = r.lost ++ record { name = class.name; kind = class.kind } ∷ [] }))
known_by texts r class true has known = known_pushed texts r class has known
known_by texts r class false has known = known_lost texts r (record { name = class.name; kind = class.kind }) has known

known_registered : (texts : List (List ℕ)) (r : Registry) (class : Class) → HasNames texts r → class.name < length texts → HasNames texts (registered r class)
unfolding registered
known_registered texts r class has known = known_by texts r class (has_room r class.kind) has known

known_rows : (texts : List (List ℕ)) (rows : List Row) (r : Registry) → HasRows texts rows → HasNames texts r → HasNames texts (after_rows r texts rows)
known_rows texts [] r rows has = has
known_rows texts (row ∷ rows) r all has =
    known_rows texts rows (registered r (class_of texts row)) (λ one (k, within, is). all one (suc k, omega arith, is))
    (known_registered texts r (class_of texts row) has (id_within texts row.name (all row (0, omega arith, refl))))

after_first : (x : Class) (xs : List Class) (n : ℕ) → ((one : Class) → Contains (x ∷ xs) one → one.name < n) → (one : Class) → Contains xs one → one.name < n
after_first x xs n all one (k, within, is) = all one (suc k, omega arith, is)

set_known : (xs : List Class) (i k n : ℕ) (y one : Class) → ((c : Class) → Contains xs c → c.name < n) → y.name < n → k < length (slice_set xs i y) → get_or (slice_set xs i y) k one ≡ one → one.name < n
set_known [] i k n y one all known within is = absurd (omega arith)
set_known (x ∷ xs) zero zero n y one all known within is = subst (λ (c : Class). c.name < n) is known
set_known (x ∷ xs) zero (suc k) n y one all known within is = all one (suc k, within, is)
set_known (x ∷ xs) (suc i) zero n y one all known within is = all one (zero, omega arith, is)
set_known (x ∷ xs) (suc i) (suc k) n y one all known within is = set_known xs i k n y one (after_first x xs n all) known (omega arith) is

known_set : (texts : List (List ℕ)) (r : Registry) (id : ℕ) (enabled timed : Bool) (last : Bool) → (last ≡ false → id < length r.classes) → HasNames texts r
    → HasNames texts (cond last (record r { transaction = record r.transaction { enabled = enabled; timed = timed } }) (record r { classes = slice_set r.classes id (record (slice_index_or r.classes id r.transaction) { enabled = enabled; timed = timed }) }))
known_set texts r id enabled timed true below has = record { classes = has.classes; transaction = has.transaction; lost = has.lost }
known_set texts r id enabled timed false below has = record {
  classes = λ one (k, within, is). set_known r.classes id k (length texts) (record (slice_index_or r.classes id r.transaction) { enabled = enabled; timed = timed }) one has.classes (has.classes (get_or r.classes id r.transaction) (Contains-get_or r.classes id r.transaction (below refl))) within is;
  transaction = has.transaction;
  lost = has.lost;
}

given_below : (r : Registry) (id : ℕ) → IsId r id → eqb id 62 ≡ false → id < length r.classes
given_below r id (inl lt) differs = lt
given_below r id (inr last) differs = absurd (false≢true (sym differs ∙ (Decides-eqb id 62).1 last))

-- a register that comes from the built-in list over some names has names of theirs
pub known_from : (texts : List (List ℕ)) (r : Registry) → ComesFrom texts r → HasNames texts r
known_from texts r (builtin limits range has) =
    known_rows texts builtins (start_of texts limits) has.rows (record {
      classes = λ one (k, within, is). absurd (omega arith);
      transaction = id_within texts (codes "transaction") has.transaction;
      lost = λ one (k, within, is). absurd (omega arith);
    })
known_from texts r (register before class comes known fits ordinary fresh) = known_registered texts before class (known_from texts before comes) known
known_from texts r (set before id enabled timed comes given) = known_set texts before id enabled timed (eqb id 62) (given_below before id given) (known_from texts before comes)

known_by_test : (texts : List (List ℕ)) (r : Registry) (id : ℕ) (class : Class) (last : Bool) → HasNames texts r → cond last (Some r.transaction) (slice_get r.classes id) ≡ Some class → class.name < length texts
known_by_test texts r id class true has at = subst (λ (c : Class). c.name < length texts) (same_Some r.transaction class at) has.transaction
known_by_test texts r id class false has at = has.classes class (id, slice_get_within r.classes id class at, get_or_from_slice_get r.classes id class class at)

-- the name of the class of an id
pub known_at : (texts : List (List ℕ)) (r : Registry) (id : ℕ) (class : Class) → HasNames texts r → class_at r id ≡ Some class → class.name < length texts
known_at texts r id class has at = known_by_test texts r id class (eqb id 62) has at
