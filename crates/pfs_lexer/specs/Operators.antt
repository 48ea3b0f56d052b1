-- Operators.
use Rattle.std.specs.Prelude.{ℕ, nat_eq, Bool, List, [], ◌∷◌, codes, if◌then◌else◌}
use Rattle.std.specs.List.{starts_with, list_any}

-- the operators by their length
abbrev pub triples : List (List ℕ)
triples = codes "<=>" ∷ []

abbrev pub doubles : List (List ℕ)
doubles =
    codes "<=" ∷ codes ">=" ∷ codes "<>" ∷ codes "!=" ∷ codes "||" ∷ codes "&&" ∷ codes ":="
    ∷ codes "<<" ∷ codes ">>" ∷ []

abbrev pub singles : List ℕ
singles = codes "(),.;+-*/%=<>!&|^~?:@{}"

-- the bytes begin with a spelling of the table
abbrev pub begins_with_one_of : List (List ℕ) → List ℕ → Bool
begins_with_one_of table bytes = list_any (λ spelling. starts_with nat_eq bytes spelling) table

-- the length of the longest operator at the front, 0 where there is none
unfoldable pub operator_len : List ℕ → ℕ
operator_len bytes =
    if begins_with_one_of triples bytes then 3
    else if begins_with_one_of doubles bytes then 2
    else if list_any (λ byte. starts_with nat_eq bytes (byte ∷ [])) singles then 1
    else 0
