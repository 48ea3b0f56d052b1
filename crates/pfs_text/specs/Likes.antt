-- Whether a text is like a pattern, as a test.
use Rattle.std.specs.Prelude.{ℕ, ◌==◌, ◌&&◌, ◌||◌, Bool, true, false, if◌then◌else◌, List, [], ◌∷◌}

-- the test holds of the text, or of what is left of it behind some of its bytes
abbrev pub passes_somewhere : (List ℕ → Bool) → List ℕ → Bool
passes_somewhere test [] = test []
passes_somewhere test (byte ∷ text) = test (byte ∷ text) || passes_somewhere test text

-- one byte stands first, and the test holds of what is left
abbrev pub passes_behind_any : (List ℕ → Bool) → List ℕ → Bool
passes_behind_any test [] = false
passes_behind_any test (byte ∷ text) = test text

-- this byte stands first, and the test holds of what is left
abbrev pub passes_behind : ℕ → (List ℕ → Bool) → List ℕ → Bool
passes_behind due test [] = false
passes_behind due test (byte ∷ text) = (byte == due) && test text

-- `%` stands for any bytes, `_` for one byte, and another byte for itself
abbrev pub stands_first : ℕ → (List ℕ → Bool) → List ℕ → Bool
stands_first b rest text =
    if b == 37 then passes_somewhere rest text
    else if b == 95 then passes_behind_any rest text
    else passes_behind b rest text

abbrev pub is_empty : List ℕ → Bool
is_empty [] = true
is_empty (byte ∷ text) = false

-- the text is like the pattern: `\` makes the byte after it stand for itself, and a last `\` stands for itself
abbrev pub is_like : List ℕ → List ℕ → Bool
is_like [] text = is_empty text
is_like (b ∷ []) text = stands_first b is_empty text
is_like (b ∷ next ∷ pattern) text =
    if b == 92 then passes_behind next (is_like pattern) text
    else stands_first b (is_like (next ∷ pattern)) text
