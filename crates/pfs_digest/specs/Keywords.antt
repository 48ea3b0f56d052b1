-- The words that a digest text shows in upper case.
use Rattle.std.specs.Prelude.{ℕ, Bool, true, ◌&&◌, List, [], ◌∷◌, ◌++◌, Option, None, Some, map, codes}
use Rattle.std.specs.declared.cmp.Ordering.{Ordering}
use Rattle.std.specs.Cmp.Lexicographic.{slice_cmp}
use Rattle.std.specs.Ordering.{is_lt, nat_cmp}
use Rattle.std.specs.List.{find}
use Rattle.std.specs.Char.{to_ascii_lowercase}
use Rattle.std.specs.Str.{bytes_eq}

abbrev pub keywords : List (List ℕ)
keywords =
    codes "ALL" ∷ codes "ALTER" ∷ codes "AND" ∷ codes "AS" ∷ codes "ASC" ∷ codes "AVG" ∷ codes "BEGIN" ∷
    codes "BETWEEN" ∷ codes "BY" ∷ codes "CALL" ∷ codes "CASE" ∷ codes "COMMIT" ∷ codes "COUNT" ∷
    codes "CREATE" ∷ codes "DELETE" ∷ codes "DESC" ∷ codes "DISTINCT" ∷ codes "DROP" ∷ codes "ELSE" ∷
    codes "END" ∷ codes "EXISTS" ∷ codes "FOR" ∷ codes "FROM" ∷ codes "GROUP" ∷ codes "HAVING" ∷ codes "IN" ∷
    codes "INDEX" ∷ codes "INNER" ∷ codes "INSERT" ∷ codes "INTO" ∷ codes "IS" ∷ codes "JOIN" ∷ codes "KEY" ∷
    codes "LEFT" ∷ codes "LIKE" ∷ codes "LIMIT" ∷ codes "LOCK" ∷ codes "MAX" ∷ codes "MIN" ∷ codes "NOT" ∷
    codes "NULL" ∷ codes "ON" ∷ codes "OR" ∷ codes "ORDER" ∷ codes "OUTER" ∷ codes "REPLACE" ∷
    codes "RIGHT" ∷ codes "ROLLBACK" ∷ codes "SELECT" ∷ codes "SET" ∷ codes "SHOW" ∷ codes "START" ∷
    codes "SUM" ∷ codes "TABLE" ∷ codes "THEN" ∷ codes "TRANSACTION" ∷ codes "TRUNCATE" ∷ codes "UNION" ∷
    codes "UNLOCK" ∷ codes "UPDATE" ∷ codes "USE" ∷ codes "USING" ∷ codes "VALUES" ∷ codes "WHEN" ∷
    codes "WHERE" ∷ codes "WITH" ∷ []

-- the words are one but for the case of their letters
abbrev pub is_in_any_case : List ℕ → List ℕ → Bool
is_in_any_case word keyword = bytes_eq (map to_ascii_lowercase word) (map to_ascii_lowercase keyword)

-- how words stand to each other, whatever the case of their letters
abbrev pub any_case_cmp : List ℕ → List ℕ → Ordering
any_case_cmp a b = slice_cmp nat_cmp (map to_ascii_lowercase a) (map to_ascii_lowercase b)

-- the word is less than the first of the others
abbrev pub is_below : List ℕ → List (List ℕ) → Bool
is_below word [] = true
is_below word (next ∷ words) = is_lt (any_case_cmp word next)

-- each word is less than the next
abbrev pub ascend : List (List ℕ) → Bool
ascend [] = true
ascend (word ∷ words) = is_below word words && ascend words

-- the keyword that a word is
unfoldable pub keyword_of : List ℕ → Option (List ℕ)
keyword_of word = find (λ keyword. is_in_any_case word keyword) keywords

-- a keyword in upper case, and any other word in backquotes
abbrev pub keyword_or_name : List ℕ → Option (List ℕ) → List ℕ
keyword_or_name word None = codes "`" ++ (word ++ codes "`")
keyword_or_name word (Some keyword) = keyword

abbrev pub word_text : List ℕ → List ℕ
word_text word = keyword_or_name word (keyword_of word)
