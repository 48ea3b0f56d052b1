-- Texts in a page.
use Rattle.std.specs.Prelude.{ℕ, ◌==◌, ◌||◌, not, Bool, if◌then◌else◌, List, [], ◌∷◌, ◌++◌, codes, Option, Some, None}
use Rattle.std.specs.List.{flat_map}
use Rattle.std.specs.Str.{bytes_eq}

-- a byte that has a meaning in a page is written as a reference to it
abbrev pub escaped_byte : ℕ → List ℕ
escaped_byte byte =
    if byte == 38 then codes "&amp;" else if byte == 60 then codes "&lt;" else if byte == 62 then codes "&gt;"
    else if byte == 34 then codes "&quot;" else if byte == 39 then codes "&#39;" else byte ∷ []

unfoldable pub escaped : List ℕ → List ℕ
escaped text = flat_map escaped_byte text

-- it can't end a cell or a value of a tag, nor begin a tag
abbrev pub is_plain : ℕ → Bool
is_plain byte = not (byte == 60 || byte == 62 || byte == 34 || byte == 39)

-- the byte that a reference of this name stands for
abbrev pub referred : List ℕ → List ℕ
referred name =
    if bytes_eq name (codes "amp") then 38 ∷ [] else if bytes_eq name (codes "lt") then 60 ∷ []
    else if bytes_eq name (codes "gt") then 62 ∷ [] else if bytes_eq name (codes "quot") then 34 ∷ []
    else if bytes_eq name (codes "#39") then 39 ∷ [] else []

-- what a reader of the page sees of its text: `&` begins a reference, whose name goes on up to `;`
abbrev pub read_on : Option (List ℕ) → List ℕ → List ℕ
read_on None [] = []
read_on (Some name) [] = []
read_on None (byte ∷ rest) = if byte == 38 then read_on (Some []) rest else byte ∷ read_on None rest
read_on (Some name) (byte ∷ rest) =
    if byte == 59 then referred name ++ read_on None rest else read_on (Some (name ++ byte ∷ [])) rest

abbrev pub seen : List ℕ → List ℕ
seen html = read_on None html
