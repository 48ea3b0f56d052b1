-- What is owed to a row, cell by cell, and what waits for it.
use Rattle.std.proofs.Common.{ℕ, zero, suc, ◌≡◌, ◌<◌, ◌+◌, Bool, true, false, cond, List, [], ◌∷◌, ◌++◌, Option, Some, None, length, map, slice_set, eq-eqb, ne_eqb, refl, ap, sym, ◌∙◌, arith}
use Rattle.std.specs.Prelude.{◌==◌, if◌then◌else◌}
use Rattle.std.specs.List.{slice_index_or}
use Rattle.std.proofs.lemmas.Bool.{eqb-true}
use Rattle.std.proofs.lemmas.List.{length-set, get_or-set_same}
use Rattle.pfs_model.specs.Contexts.{Waiting, held_for, held_else}
use Rattle.pfs_model.specs.declared.lines.Opened.{Opened}
use Rattle.pfs_session.specs.Settlements.{owed_from, owed_in}
use Rattle.pfs_session.specs.SessionStates.{Owed, owed_of, held_row, held_at}
use Rattle.pfs_stat.specs.declared.Stat.{Stat}
use Rattle.pfs_law_session.proofs.OwedRows.{Above, row_mono, rows_above}
use Rattle.pfs_law_session.specs.Agreement.{row_owed}
use Rattle.pfs_law_session.specs.Amounts.{owed_to}

-- each row is below those behind it
abbrev pub Ascend : List Owed → Type 0
Ascend [] = Unit {0}
Ascend (one ∷ others) = Above one.row (map row_owed others) × Ascend others

pub ascending : (slot cell : ℕ) (held : List (Option Stat)) → slot < 32 → Ascend (owed_from slot cell held)
unfolding owed_from
ascending slot cell [] s = tt
ascending slot cell (None ∷ held) s = ascending slot (cell + 1) held s
ascending slot cell (Some amount ∷ held) s = (rows_above slot cell (cell + 1) held s (omega arith), ascending slot (cell + 1) held s)

-- nothing is owed to a row below all others
pub above_none : (row : ℕ) (owed : List Owed) → Above row (map row_owed owed) → owed_to row owed ≡ None
above_none row [] a = refl
above_none row (one ∷ others) a =
    ap (λ b. if b then Some one.amount else owed_to row others) (ne_eqb one.row row (λ e. absurd (omega (arith, e, a.0)))) ∙ above_none row others a.1

same_row : (row : ℕ) (amount : Stat) (others : List Owed) → owed_to row (record { row = row; amount = amount } ∷ others) ≡ Some amount
same_row row amount others = ap (λ b. if b then Some amount else owed_to row others) (eq-eqb row row refl)

pub head_owed : (one : Owed) (others : List Owed) → owed_to one.row (one ∷ others) ≡ Some one.amount
head_owed one others = ap (λ b. if b then Some one.amount else owed_to one.row others) (eq-eqb one.row one.row refl)

pub ascend_back : (xs ys : List Owed) → Ascend (xs ++ ys) → Ascend ys
ascend_back [] ys a = a
ascend_back (x ∷ xs) ys a = ascend_back xs ys a.1

-- what is owed to a cell's row is what is held for the cell
pub owed_at : (slot cell n : ℕ) (held : List (Option Stat)) → slot < 32 → n < length held → owed_to (held_row slot (cell + n)) (owed_from slot cell held) ≡ slice_index_or held n None
unfolding owed_from
owed_at slot cell n [] s lt = absurd (omega (arith, lt))
owed_at slot cell zero (None ∷ held) s lt =
    ap (λ z. owed_to (held_row slot z) (owed_from slot (cell + 1) held)) (omega arith)
    ∙ above_none (held_row slot cell) (owed_from slot (cell + 1) held) (rows_above slot cell (cell + 1) held s (omega arith))
owed_at slot cell zero (Some amount ∷ held) s lt =
    ap (λ z. owed_to (held_row slot z) (record { row = held_row slot cell; amount = amount } ∷ owed_from slot (cell + 1) held)) (omega arith)
    ∙ same_row (held_row slot cell) amount (owed_from slot (cell + 1) held)
owed_at slot cell (suc n) (None ∷ held) s lt =
    ap (λ z. owed_to (held_row slot z) (owed_from slot (cell + 1) held)) (omega arith) ∙ owed_at slot (cell + 1) n held s (omega (arith, lt))
owed_at slot cell (suc n) (Some amount ∷ held) s lt =
    let low : held_row slot cell < held_row slot (cell + suc n) = row_mono slot cell (cell + suc n) s (omega arith) in
    ap (λ b. if b then Some amount else owed_to (held_row slot (cell + suc n)) (owed_from slot (cell + 1) held))
    (ne_eqb (held_row slot cell) (held_row slot (cell + suc n)) (λ e. absurd (omega (arith, e, low))))
    ∙ ap (λ z. owed_to (held_row slot z) (owed_from slot (cell + 1) held)) (omega arith) ∙ owed_at slot (cell + 1) n held s (omega (arith, lt))

pub owed_cell : (slot cell : ℕ) (held : List (Option Stat)) → slot < 32 → cell < length held → owed_to (held_row slot cell) (owed_in (Some slot) held) ≡ held_at held cell
owed_cell slot cell held s lt = ap (λ z. owed_to (held_row slot z) (owed_from slot 0 held)) (omega arith) ∙ owed_at slot 0 cell held s lt

-- behind a change of one cell
pub owed_same : (slot cell : ℕ) (held : List (Option Stat)) (one : Option Stat) → slot < 32 → cell < length held
    → owed_to (held_row slot cell) (owed_in (Some slot) (slice_set held cell one)) ≡ one
owed_same slot cell held one s lt =
    owed_cell slot cell (slice_set held cell one) s (omega (arith, lt, length-set held cell one)) ∙ get_or-set_same held cell one None lt

skip : (row slot cell : ℕ) (one : Option Stat) (others : List Owed) → (held_row slot cell == row) ≡ false → owed_to row (owed_of slot cell one ++ others) ≡ owed_to row others
skip row slot cell None others e = refl
skip row slot cell (Some amount) others e = ap (λ b. if b then Some amount else owed_to row others) e

keep : (row slot cell : ℕ) (one : Option Stat) (xs ys : List Owed) → owed_to row xs ≡ owed_to row ys → owed_to row (owed_of slot cell one ++ xs) ≡ owed_to row (owed_of slot cell one ++ ys)
keep row slot cell None xs ys e = e
keep row slot cell (Some amount) xs ys e = ap (λ z. if held_row slot cell == row then Some amount else z) e

other_from : (row slot cell n : ℕ) (held : List (Option Stat)) (one : Option Stat) → (held_row slot (cell + n) == row) ≡ false
    → owed_to row (owed_from slot cell (slice_set held n one)) ≡ owed_to row (owed_from slot cell held)
unfolding owed_from
other_from row slot cell n [] one e = refl
other_from row slot cell zero (x ∷ held) one e =
    let f : (held_row slot cell == row) ≡ false = ap (λ z. held_row slot z == row) (omega arith) ∙ e in
    skip row slot cell one (owed_from slot (cell + 1) held) f ∙ sym (skip row slot cell x (owed_from slot (cell + 1) held) f)
other_from row slot cell (suc n) (x ∷ held) one e =
    keep row slot cell x _ _ (other_from row slot (cell + 1) n held one (ap (λ z. held_row slot z == row) (omega arith) ∙ e))

pub owed_other : (row slot cell : ℕ) (held : List (Option Stat)) (one : Option Stat) → (held_row slot cell == row) ≡ false
    → owed_to row (owed_in (Some slot) (slice_set held cell one)) ≡ owed_to row (owed_in (Some slot) held)
owed_other row slot cell held one e = other_from row slot 0 cell held one (ap (λ z. held_row slot z == row) (omega arith) ∙ e)

-- what waits for a row, once one more waits, and once a row was added to
pub wait_same : (row : ℕ) (event : Opened) (waiting : List Waiting) → held_for row (record { row = row; event = event } ∷ waiting) ≡ event ∷ held_for row waiting
wait_same row event waiting = ap (λ b. cond b (event ∷ []) [] ++ held_for row waiting) (eq-eqb row row refl)

pub wait_other : (row at : ℕ) (event : Opened) (waiting : List Waiting) → (at == row) ≡ false → held_for row (record { row = at; event = event } ∷ waiting) ≡ held_for row waiting
wait_other row at event waiting e = ap (λ b. cond b (event ∷ []) [] ++ held_for row waiting) e

pub else_same : (row : ℕ) (waiting : List Waiting) → held_for row (held_else row waiting) ≡ []
else_same row [] = refl
else_same row (one ∷ others) = by_test (one.row == row) refl (else_same row others) where
  by_test : (b : Bool) → (one.row == row) ≡ b → held_for row (held_else row others) ≡ [] → held_for row (cond b [] (one ∷ []) ++ held_else row others) ≡ []
  by_test true e q = q
  by_test false e q = ap (λ b. cond b (one.event ∷ []) [] ++ held_for row (held_else row others)) e ∙ q

pub else_other : (row at : ℕ) (waiting : List Waiting) → (at == row) ≡ false → held_for row (held_else at waiting) ≡ held_for row waiting
else_other row at [] e = refl
else_other row at (one ∷ others) e = by_test (one.row == at) refl (else_other row at others e) where
  by_test : (b : Bool) → (one.row == at) ≡ b → held_for row (held_else at others) ≡ held_for row others
      → held_for row (cond b [] (one ∷ []) ++ held_else at others) ≡ cond (one.row == row) (one.event ∷ []) [] ++ held_for row others
  by_test true f q =
      let g : (one.row == row) ≡ false = ap (λ z. z == row) (eqb-true one.row at f) ∙ e in
      q ∙ sym (ap (λ b. cond b (one.event ∷ []) [] ++ held_for row others) g)
  by_test false f q = ap (λ z. cond (one.row == row) (one.event ∷ []) [] ++ z) q
