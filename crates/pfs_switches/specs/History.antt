-- The history of the setup words: the writer's sets in the order of time, newest first.
use Rattle.std.specs.Prelude.{◌≡◌, ℕ, ◌+◌, ◌==◌, if◌then◌else◌, List, [], ◌∷◌, slice_index, refl}
use Rattle.pfs_switches.specs.declared.view.Setting.{Setting}

abbrev pub Each : {A : Type 0} → (A → Type 0) → List A → Type 0
Each P [] = Unit {0}
Each P (x ∷ xs) = P x × Each P xs

-- how often a word was set
abbrev pub version : List Setting → ℕ → ℕ
version [] r = 0
version (p ∷ ps) r = if p.word == r then version ps r + 1 else version ps r

-- the flags of a word at the version k; at version 0 they are the opening ones
abbrev pub flags_at : List ℕ → List Setting → ℕ → ℕ → ℕ
flags_at start [] r k = slice_index start r
flags_at start (p ∷ ps) r k = if p.word == r then (if p.version == k then p.flags else flags_at start ps r k)
    else flags_at start ps r k

-- each set has the next version of its word
abbrev pub IsChain : List Setting → Type 0
IsChain [] = Unit {0}
IsChain (p ∷ ps) = (p.version ≡ version ps p.word + 1) × IsChain ps

-- Two sets of word 1, and one that does not raise the version
abbrev pub setting : ℕ → ℕ → ℕ → Setting
setting r k flags = record { word = r; version = k; flags = flags }

one_not_two : (let one : ℕ = 1 in one ≡ 2) → ⊥
one_not_two e = cc

pub example_version : (version (setting 1 2 3 ∷ setting 1 1 0 ∷ []) 1 ≡ 2)
    × (version (setting 1 2 3 ∷ setting 1 1 0 ∷ []) 0 ≡ 0)
example_version = (refl, refl)

pub example_flags : (flags_at (5 ∷ 7 ∷ []) (setting 1 2 3 ∷ setting 1 1 0 ∷ []) 1 1 ≡ 0)
    × (flags_at (5 ∷ 7 ∷ []) (setting 1 2 3 ∷ setting 1 1 0 ∷ []) 1 0 ≡ 7)
example_flags = (refl, refl)

pub example_not_raised : ¬ (IsChain (setting 1 1 3 ∷ setting 1 1 0 ∷ []))
example_not_raised c = one_not_two c.0
