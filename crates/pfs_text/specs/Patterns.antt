-- When a text is like a pattern.
use Rattle.std.specs.Prelude.{◌≡◌, ℕ, ◌==◌, List, [], ◌∷◌, drop, if◌then◌else◌}
use Rattle.pfs_text.specs.declared.pattern.Part.{Part}
use Rattle.pfs_text.specs.declared.pattern.Part.TheVariants.{AnyBytes, OneByte, Byte}

-- `%` stands for any bytes, `_` for one byte, and another byte for itself
abbrev pub part_of : ℕ → Part
part_of b = if b == 37 then AnyBytes else if b == 95 then OneByte else Byte b

-- `\` makes the byte after it stand for itself, and a last `\` stands for itself
abbrev pub parts_of : List ℕ → List Part
parts_of [] = []
parts_of (b ∷ []) = part_of b ∷ []
parts_of (b ∷ next ∷ pattern) = if b == 92 then Byte next ∷ parts_of pattern else part_of b ∷ parts_of (next ∷ pattern)

-- the parts stand for the whole text, one after another
abbrev pub StandFor : List Part → List ℕ → Type 0
StandFor [] [] = Unit {0}
StandFor [] (x ∷ text) = ⊥
StandFor (AnyBytes ∷ parts) text = (n : ℕ) × StandFor parts (drop n text)
StandFor (OneByte ∷ parts) [] = ⊥
StandFor (OneByte ∷ parts) (x ∷ text) = StandFor parts text
StandFor (Byte b ∷ parts) [] = ⊥
StandFor (Byte b ∷ parts) (x ∷ text) = (x ≡ b) × StandFor parts text

-- the text is like the pattern
abbrev pub IsLike : List ℕ → List ℕ → Type 0
IsLike pattern text = StandFor (parts_of pattern) text
