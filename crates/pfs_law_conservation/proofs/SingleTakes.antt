-- No action takes a row twice.
use Rattle.std.proofs.Common.{◌≡◌, refl, ℕ, zero, suc, ◌+◌, ◌<◌, ◌≤◌, ◌==◌, ◌&&◌, Bool, true, false, cond, nat_le, List, [], ◌∷◌, ◌++◌, Option, Some, None, ap, ◌∙◌, inl, inr, arith}
use Rattle.std.proofs.lemmas.Bool.{eqb-true}
use Rattle.pfs_lemmas.proofs.Numbers.{eq_self}
use Rattle.pfs_conservation.specs.ActionMoves.{moved_by, moves_of}
use Rattle.pfs_conservation.specs.RowChains.{Change, Added, Taken, Given}
use Rattle.pfs_conservation.specs.PrintedChanges.{Kind, Adds, Takes, Gives, Tagged, as_change, change_of, is_at, standing, Stands}
use Rattle.pfs_conservation.specs.RowMoves.{Move}
use Rattle.pfs_conservation.specs.Prints.{Print, gives_of, prints_of, prints_all, is_move, printed_by}
use Rattle.pfs_conservation.specs.Tenures.{Owner}
use Rattle.pfs_model.specs.Chains.{Each, times}
use Rattle.pfs_model.proofs.ChainGrowth.{times_append}
use Rattle.pfs_law_conservation.specs.KindRows.{is_kind_row, kind_rows_from, kind_rows}
use Rattle.pfs_law_conservation.proofs.RowLines.{bit_yes, bit_most}

abbrev pub takes_number : ℕ → Change → Bool
takes_number action (Taken number) = number == action
takes_number action (Added events) = false
takes_number action (Given number from) = false

-- a line is the action's take of the row
abbrev pub is_take : ℕ → ℕ → Tagged → Bool
is_take action row line = (line.row == row) && takes_number action (change_of line)

-- at a version
abbrev pub is_take_at : ℕ → ℕ → ℕ → Tagged → Bool
is_take_at action row version line = is_at line row version && takes_number action (change_of line)

-- takes at two versions are two
pub two_takes : (action row low high : ℕ) (lines : List Tagged) → low < high → times (is_take_at action row low) lines + times (is_take_at action row high) lines ≤ times (is_take action row) lines
two_takes action row low high [] l = omega arith
two_takes action row low high (line ∷ lines) l = let ih : times (is_take_at action row low) lines + times (is_take_at action row high) lines ≤ times (is_take action row) lines = two_takes action row low high lines l in omega (arith, ih, one (line.row == row) (line.version == low) refl (line.version == high) refl (takes_number action (change_of line))) where
  one : (r a : Bool) → (line.version == low) ≡ a → (b : Bool) → (line.version == high) ≡ b → (t : Bool) → cond {A = ℕ} ((r && a) && t) 1 0 + cond {A = ℕ} ((r && b) && t) 1 0 ≤ cond {A = ℕ} (r && t) 1 0
  one true true q true s t = let e : line.version ≡ low = eqb-true line.version low q in let f : line.version ≡ high = eqb-true line.version high s in absurd (omega (arith, e, f, l))
  one true true q false s t = omega (arith, bit_most t)
  one true false q true s t = omega (arith, bit_most t)
  one true false q false s t = omega (arith, bit_most t)
  one false a q b s t = omega arith

pub take_stands : (action row version : ℕ) (lines : List Tagged) → Stands lines row version (Taken action) → 1 ≤ times (is_take_at action row version) lines
take_stands action row version [] s = absurd s
take_stands action row version (line ∷ lines) (inl s) = let y : cond {A = ℕ} (is_take_at action row version line) 1 0 ≡ 1 = bit_yes (is_take_at action row version line) (ap (λ b. b && takes_number action (change_of line)) s.0 ∙ (ap (takes_number action) s.1 ∙ eq_self action)) in omega (arith, y)
take_stands action row version (line ∷ lines) (inr s) = let l : 1 ≤ times (is_take_at action row version) lines = take_stands action row version lines s in omega (arith, l)

pub none_takes : (action row version : ℕ) (lines : List Tagged) → times (is_take_at action row version) lines ≡ 0 → Each (λ c. takes_number action c ≡ false) (standing lines row version)
none_takes action row version [] n = tt
none_takes action row version (line ∷ lines) n = at (is_at line row version) refl (takes_number action (change_of line)) refl (none_takes action row version lines (omega (arith, n))) where
  at : (b : Bool) → is_at line row version ≡ b → (t : Bool) → takes_number action (change_of line) ≡ t → Each (λ c. takes_number action c ≡ false) (standing lines row version) → Each (λ c. takes_number action c ≡ false) (cond b (change_of line ∷ []) [] ++ standing lines row version)
  at true q true s r = let y : cond {A = ℕ} (is_take_at action row version line) 1 0 ≡ 1 = bit_yes (is_take_at action row version line) (ap (λ b. b && takes_number action (change_of line)) q ∙ s) in absurd (omega (arith, y, n))
  at true q false s r = (s, r)
  at false q t s r = r

-- takes among what is printed
abbrev pub is_taken : ℕ → ℕ → Print → Bool
is_taken action row x = (x.row == row) && takes_number action x.change

pub takes_printed : (action row : ℕ) (lines : List Tagged) → times (is_take action row) lines ≤ times (is_taken action row) (printed_by lines action)
takes_printed action row [] = omega arith
takes_printed action row (line ∷ lines) = by line.kind (takes_printed action row lines) where
  Few : Type 0
  Few = times (is_take action row) lines ≤ times (is_taken action row) (printed_by lines action)

  took : (b : Bool) → (line.action == action) ≡ b → Few → cond {A = ℕ} ((line.row == row) && b) 1 0 + times (is_take action row) lines ≤ times (is_taken action row) (cond b (record { row = line.row; change = Taken line.action } ∷ []) [] ++ printed_by lines action)
  took true q ih = let e : cond {A = ℕ} ((line.row == row) && (line.action == action)) 1 0 ≡ cond {A = ℕ} ((line.row == row) && true) 1 0 = ap (λ b. cond {A = ℕ} ((line.row == row) && b) 1 0) q in omega (arith, ih, e)
  took false q ih = omega (arith, ih, none (line.row == row)) where
    none : (r : Bool) → cond {A = ℕ} (r && false) 1 0 ≡ 0
    none true = refl
    none false = refl

  none : (r : Bool) → cond {A = ℕ} (r && false) 1 0 ≡ 0
  none true = refl
  none false = refl

  gave : (from : ℕ) (b : Bool) → Few → times (is_take action row) lines ≤ times (is_taken action row) (cond b (record { row = line.row; change = Given line.action from } ∷ []) [] ++ printed_by lines action)
  gave from true ih = omega (arith, ih)
  gave from false ih = ih

  by : (kind : Kind) → Few → cond {A = ℕ} ((line.row == row) && takes_number action (as_change line.action kind)) 1 0 + times (is_take action row) lines
      ≤ times (is_taken action row) (cond (is_move kind && (line.action == action)) (record { row = line.row; change = as_change line.action kind } ∷ []) [] ++ printed_by lines action)
  by (Adds events) ih = omega (arith, ih, none (line.row == row))
  by Takes ih = took (line.action == action) refl ih
  by (Gives from) ih = omega (arith, gave from (line.action == action) ih, none (line.row == row))

-- and among what is to be printed: as often as a move takes the row
pub takes_moved : (kept : ℕ → ℕ → Bool) (action row : ℕ) (moves : List Move) → times (is_taken action row) (prints_all kept moves) ≤ times (λ (m : Move). m.from == row) moves
takes_moved kept action row [] = omega arith
takes_moved kept action row (m ∷ ms) =
    let ih : times (is_taken action row) (prints_all kept ms) ≤ times (λ (m : Move). m.from == row) ms = takes_moved kept action row ms in
    let a : times (is_taken action row) (prints_of kept m ++ prints_all kept ms) ≡ times (is_taken action row) (prints_of kept m) + times (is_taken action row) (prints_all kept ms) = times_append (is_taken action row) (prints_of kept m) (prints_all kept ms) in
    omega (arith, ih, a, gives m.to, own (m.from == row) (m.action == action)) where
      own : (r t : Bool) → cond {A = ℕ} (r && t) 1 0 ≤ cond {A = ℕ} r 1 0
      own true t = bit_most t
      own false t = omega arith

      gives : (to : List ℕ) → times (is_taken action row) (gives_of kept m to) ≡ 0
      gives [] = refl
      gives (r ∷ to) = at (kept m.action m.from) (gives to) where
        none : (b : Bool) → cond {A = ℕ} (b && false) 1 0 ≡ 0
        none true = refl
        none false = refl

        at : (b : Bool) → times (is_taken action row) (gives_of kept m to) ≡ 0 → times (is_taken action row) (cond b (record { row = r; change = Given m.action m.from } ∷ []) [] ++ gives_of kept m to) ≡ 0
        at true e = omega (arith, e, none (r == row))
        at false e = e

module _ (holder : ℕ → ℕ → Option Owner) (takes : ℕ → ℕ → Bool) (action row : ℕ) where
  pub moves_few : (rows : List ℕ) → times (λ (m : Move). m.from == row) (moves_of holder takes action rows) ≤ times (λ r. r == row) rows
  moves_few [] = omega arith
  moves_few (r ∷ rows) = at (takes action r) (holder action r) (moves_few rows) where
    at : (b : Bool) (o : Option Owner) → times (λ (m : Move). m.from == row) (moves_of holder takes action rows) ≤ times (λ r. r == row) rows
        → times (λ (m : Move). m.from == row) (cond b (moved_by o action r) [] ++ moves_of holder takes action rows) ≤ cond {A = ℕ} (r == row) 1 0 + times (λ r. r == row) rows
    at true None l = omega (arith, l)
    at true (Some owner) l = omega (arith, l)
    at false o l = omega (arith, l)

  rows_once : (is_cell : ℕ → Bool) (first more : ℕ) → times (λ r. r == row) (kind_rows_from is_cell first more) ≤ cond {A = ℕ} (nat_le first row) 1 0
  rows_once is_cell first zero = omega arith
  rows_once is_cell first (suc more) = at (is_kind_row is_cell first) (rows_once is_cell (suc first) more) where
    step : (f r : ℕ) → cond {A = ℕ} (f == r) 1 0 + cond {A = ℕ} (nat_le (suc f) r) 1 0 ≤ cond {A = ℕ} (nat_le f r) 1 0
    step f r = grind arith

    at : (b : Bool) → times (λ r. r == row) (kind_rows_from is_cell (suc first) more) ≤ cond {A = ℕ} (nat_le (suc first) row) 1 0
        → times (λ r. r == row) (cond b (first ∷ []) [] ++ kind_rows_from is_cell (suc first) more) ≤ cond {A = ℕ} (nat_le first row) 1 0
    at true l = omega (arith, l, step first row)
    at false l = omega (arith, l, step first row)

  pub moved_once : (is_cell : ℕ → Bool) → times (λ (m : Move). m.from == row) (moves_of holder takes action (kind_rows is_cell)) ≤ 1
  unfolding kind_rows
  moved_once is_cell = omega (arith, moves_few (kind_rows_from is_cell 129 8256), rows_once is_cell 129 8256, bit_most (nat_le 129 row))
