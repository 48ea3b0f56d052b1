-- Two actors that set word 1, each in an action of its own, keep to the words of their labels. The second doesn't where
-- it meets the writer at the version before the first one's set, and the first doesn't where it ends its action without
-- that set.
use Rattle.std.proofs.Common.{ℕ, zero, suc, ◌≡◌, ◌+◌, ◌==◌, Bool, true, false, cond, ne_eqb, List, [], ◌∷◌, slice_index, refl, arith}
use Rattle.pfs_board.specs.declared.view.Label.{Label}
use Rattle.pfs_levels.specs.Calls.{Call, Sets, Enters, Leaves, Meets}
use Rattle.pfs_board_admin.specs.LabelWords.{AllKeepWords}

abbrev a : Label
a = record { session = 1; line = 1 }

abbrev b : Label
b = record { session = 2; line = 1 }

-- word 1 is set by each action
abbrev counts : List Label → ℕ
counts [] = 0
counts (x ∷ labels) = counts labels + 1

abbrev versions : List Label → ℕ → ℕ
versions labels at = cond (1 == at) (counts labels) 0

abbrev first : List Call
first = Leaves ∷ Sets 1 3 1 ∷ Meets [] ∷ Enters a [] ∷ []

abbrev second : List ℕ → List Call
second seen = Leaves ∷ Sets 1 0 2 ∷ Meets seen ∷ Enters b (a ∷ []) ∷ []

none : (at : ℕ) → slice_index [] at ≡ versions [] at + 0
none at = same (1 == at) where
  same : (c : Bool) → (let zero : ℕ = 0 in zero ≡ cond c 0 0 + 0)
  same true = refl
  same false = refl

one : (at : ℕ) → slice_index (0 ∷ 1 ∷ []) at ≡ versions (a ∷ []) at + 0
one zero = refl
one (suc zero) = refl
one (suc (suc n)) = rw (ne_eqb 1 (suc (suc n)) (λ e. omega (arith, e))) refl

left_first : (at : ℕ) → versions [] at + cond (1 == at) 1 0 ≡ versions (a ∷ []) at
left_first at = more (1 == at) where
  more : (c : Bool) → cond {A = ℕ} c 0 0 + cond c 1 0 ≡ cond c 1 0
  more true = refl
  more false = refl

left_second : (at : ℕ) → versions (a ∷ []) at + cond (1 == at) 1 0 ≡ versions (a ∷ b ∷ []) at
left_second at = more (1 == at) where
  more : (c : Bool) → cond {A = ℕ} c 1 0 + cond c 1 0 ≡ cond c 2 0
  more true = refl
  more false = refl

pub example_first : AllKeepWords versions first
example_first = ((λ at low. left_first at), ((omega arith, refl, refl), (((λ some at low. none at), (λ e. refl)), (refl, tt))))

pub example_second : AllKeepWords versions (second (0 ∷ 1 ∷ []))
example_second = ((λ at low. left_second at), ((omega arith, refl, refl), (((λ some at low. one at), (λ e. absurd (omega (arith, e)))), (refl, tt))))

pub example_met_before : ¬ (AllKeepWords versions (second (0 ∷ 0 ∷ [])))
example_met_before k = let e : slice_index (0 ∷ 0 ∷ []) 1 ≡ 1 = k.1.1.0.0 (omega arith) 1 (omega arith) in absurd (omega (arith, e))

pub example_not_set : ¬ (AllKeepWords versions (Leaves ∷ Meets [] ∷ Enters a [] ∷ []))
example_not_set k = let e : (let zero : ℕ = 0 in zero ≡ 1) = k.0 1 (omega arith) in absurd (omega (arith, e))
