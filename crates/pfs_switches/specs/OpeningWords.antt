-- The words of a new table, and what a word says.
use Rattle.std.specs.Prelude.{◌≡◌, ℕ, ◌/◌, ◌%◌, ◌<◌, List, [], ◌∷◌, ◌++◌, length, slice_index, refl}

-- version 0 above the flags, and one word more that no call names
abbrev pub opening_words : List ℕ → List ℕ
opening_words flags = flags ++ 0 ∷ []

pub record IsOpening (start : List ℕ) : Type 0 where
  pub small : (r : ℕ) → slice_index start r < 65536
  pub some_word : 0 < length start

-- the version and the flags of a word
abbrev pub parts : ℕ → ℕ × ℕ
parts n = (n / 65536, n % 65536)

pub example_parts : parts 65537 ≡ (1, 1)
example_parts = refl
