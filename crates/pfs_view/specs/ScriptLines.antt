-- A line of a script, as it is quoted.
use Rattle.std.specs.Prelude.{ℕ, zero, suc, ◌-◌, ◌==◌, ◌&&◌, nat_le, if◌then◌else◌, List, [], ◌∷◌, ◌++◌, codes, decimal}
use Rattle.std.specs.List.{flat_map}

-- what stands behind so many line feeds
abbrev pub behind_lines : ℕ → List ℕ → List ℕ
behind_lines zero text = text
behind_lines (suc n) [] = []
behind_lines (suc n) (byte ∷ rest) = if byte == 10 then behind_lines n rest else behind_lines (suc n) rest

-- what stands before the first line feed
abbrev pub first_line : List ℕ → List ℕ
first_line [] = []
first_line (byte ∷ rest) = if byte == 10 then [] else byte ∷ first_line rest

-- the line of this number, counted from 1; an empty one where there is none
abbrev pub line_at : List ℕ → ℕ → List ℕ
line_at text number = first_line (behind_lines (number - 1) text)

-- a byte that can be printed as it is, any other by its number
abbrev pub printed_byte : ℕ → List ℕ
printed_byte byte = if nat_le 32 byte && nat_le byte 126 then byte ∷ [] else codes "<" ++ decimal byte ++ codes ">"

unfoldable pub quoted_line : List ℕ → List ℕ
quoted_line [] = []
quoted_line (byte ∷ rest) = codes "    " ++ flat_map printed_byte (byte ∷ rest) ++ codes "\n"
