-- What an insertion answers.
use Rattle.std.proofs.Common.{◌≡◌, ◌≢◌, ◌↔◌, ℕ, true, false, List, length, map, eqb, Contains, Result, Ok, Err, OnOk, OnErr, inl, inr, refl, sym, subst}
use Rattle.std.proofs.lemmas.Bool.{cases_Bool, ne_eqb}
use Rattle.pfs_lemmas.proofs.Numbers.{eq_self}
use Rattle.pfs_matching.specs.declared.faults.MatchFault.{MatchFault}
use Rattle.pfs_matching.specs.declared.faults.MatchFault.TheVariants.{Duplicate, Full}
use Rattle.pfs_matching.specs.KeyedRows.{with_row}
use Rattle.pfs_matching.proofs.KeyedRows.{Contains-from_any, any-from_Contains}
use Rattle.pfs_matching.specs.ActorRules.{actor_key}
use Rattle.pfs_matching.specs.ObjectRules.{object_key}
use Rattle.pfs_setups.specs.ChangeLaws.{KeysDecide}
use Rattle.pfs_setups.specs.Inserts.{has_key, answer_of, answer_on, added}

module _ {R : Type 0} (key : R → List (List ℕ)) where
  absent : (rows : List R) (row : R) → ¬ Contains (map key rows) (key row) → has_key key rows row ≡ false
  absent rows row none = elim (cases_Bool (has_key key rows row)) [
    | inl there ↦ absurd (none (Contains-from_any key rows (key row) there))
    | inr gone ↦ gone
  ]

  pub answers : (rows : List R) (row : R) (result : Result (Unit {0}) MatchFault) → ((result ≡ Err Duplicate) ↔ Contains (map key rows) (key row)) → ((result ≡ Err Full) ↔ ((¬ Contains (map key rows) (key row)) × (length rows ≡ 100)))
      → answer_of result ≡ answer_on key rows row
  answers rows row (Ok done) duplicate full =
      let none : ¬ Contains (map key rows) (key row) = λ has. absurd (cc (duplicate.1 has)) in
      let few : length rows ≢ 100 = λ is. absurd (cc (full.1 (none, is))) in
      rw (absent rows row none, ne_eqb (length rows) 100 few) refl
  answers rows row (Err Duplicate) duplicate full = rw (any-from_Contains key rows (key row) (duplicate.0 refl)) refl
  answers rows row (Err Full) duplicate full =
      let parts = full.0 refl in
      let many : eqb (length rows) 100 ≡ true = subst (λ n. eqb n 100 ≡ true) (sym parts.1) (eq_self 100) in
      rw (absent rows row parts.0, many) refl

  pub adds : (rows new : List R) (row : R) (result : Result (Unit {0}) MatchFault) → OnOk result (new ≡ with_row key row rows) → OnErr result (new ≡ rows) → answer_of result ≡ answer_on key rows row → new ≡ added key rows row
  adds rows new row (Ok done) ok err is = rw (sym is) ok
  adds rows new row (Err fault) ok err is = rw (sym is) err

  keys_decide : (rows : List R) (row : R) → (has_key key rows row ≡ true) ↔ Contains (map key rows) (key row)
  keys_decide rows row = (Contains-from_any key rows (key row), any-from_Contains key rows (key row))

pub decide : KeysDecide
decide = record { actors = keys_decide actor_key; objects = keys_decide object_key }
