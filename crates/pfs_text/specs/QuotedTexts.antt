-- Quoted texts.
use Rattle.std.specs.Prelude.{◌≡◌, ◌≢◌, ℕ, ◌==◌, List, [], ◌∷◌, ◌++◌, length, if◌then◌else◌}
use Rattle.std.specs.List.{flat_map}

-- a byte inside a quoted text: `'` is doubled
abbrev pub doubled : ℕ → List ℕ
doubled b = if b == 39 then b ∷ b ∷ [] else b ∷ []

-- a text between `'`, each `'` in it doubled
abbrev pub quoted : List ℕ → List ℕ
quoted text = 39 ∷ (flat_map doubled text ++ 39 ∷ [])

-- no `'` stands at the front
abbrev pub BeginsPlain : List ℕ → Type 0
BeginsPlain [] = Unit {0}
BeginsPlain (b ∷ bytes) = b ≢ 39

-- the first n bytes are a quoted text, and no further `'` follows them
abbrev pub IsQuotedFront : List ℕ → ℕ → Type 0
IsQuotedFront bytes n = (text : List ℕ) × (rest : List ℕ) × (bytes ≡ quoted text ++ rest) × (n ≡ length (quoted text))
    × BeginsPlain rest

-- what was there stands at the front
abbrev pub Extends : List ℕ → List ℕ → Type 0
Extends old new = (added : List ℕ) × (new ≡ old ++ added)

-- a quoted text is found at its whole length, at most one length is found, and the text can be told from it
pub record QuotesAreExact : Type 0 where
  pub found : (text rest : List ℕ) → BeginsPlain rest → IsQuotedFront (quoted text ++ rest) (length (quoted text))
  pub one_length : (bytes : List ℕ) (m n : ℕ) → IsQuotedFront bytes m → IsQuotedFront bytes n → m ≡ n
  pub one_text : (a b rest more : List ℕ) → BeginsPlain rest → BeginsPlain more → quoted a ++ rest ≡ quoted b ++ more
      → (a ≡ b) × (rest ≡ more)
