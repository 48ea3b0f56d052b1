-- Worked examples of the definitions.
use Rattle.std.proofs.Common.{◌≡◌, ℕ, true, false, List, [], ◌∷◌, Some, None, refl, inl, inr, lit<}
use Rattle.std.specs.Prelude.{codes}
use Rattle.pfs_text.specs.declared.conditions.Comparison.TheVariants.{Less}
use Rattle.pfs_sql.specs.declared.token.Token.{Token}
use Rattle.pfs_sql.specs.declared.token.Token.TheVariants.{Word, Compares, Comma, Star, Semicolon}
use Rattle.pfs_sql.specs.declared.command.Command.TheVariants.{Select, Truncate}
use Rattle.pfs_sql.specs.Tokens.{AreTokens}
use Rattle.pfs_sql.specs.TokenWords.{is_key, name_of, table_of, number_of}
use Rattle.pfs_sql.specs.Grammar.{Fits, spelling, are_apart, counts_agree}
use Rattle.pfs_sql.specs.TextCuts.{token_of, inside_of}
use Rattle.pfs_sql.proofs.TokenCuts.{first_token}

-- `a <1` is three tokens
three_tokens : AreTokens (codes "a <1") (Word (codes "a") ∷ Compares Less ∷ Word (codes "1") ∷ [])
three_tokens = (
  [],
  codes "a <1",
  codes " <1",
  refl,
  refl,
  (codes "a", (refl, lit< tt, refl), refl, refl),
  (
    codes " ",
    codes "<1",
    codes "1",
    refl,
    refl,
    (codes "<", refl, refl, refl),
    ([], codes "1", [], refl, refl, (codes "1", (refl, lit< tt, refl), refl, tt), refl),
  ),
)

-- an open quote is no tokens
open_quote : (tokens : List Token) → ¬ AreTokens (codes "'a") tokens
unfolding token_of inside_of
open_quote [] h = absurd cc
open_quote (token ∷ tokens) h = let first = (first_token (codes "'a") token tokens h).1 in absurd cc

-- keywords in any case, numbers with leading zeros, names with and without the schema
any_case : is_key (codes "select") (Word (codes "SeLeCt")) ≡ true
any_case = refl

leading_zeros : number_of (codes "007") ≡ Some 7
leading_zeros = refl

too_large : number_of (codes "18446744073709551616") ≡ None
too_large = refl

with_schema : table_of (codes "Performance_Schema.Users") ≡ Some (codes "Users")
with_schema = refl

other_schema : table_of (codes "mysql.user") ≡ None
other_schema = refl

-- `TRUNCATE table` truncates the table of that name, and `TRUNCATE TABLE t ;` the table t
table_table : Fits (spelling (Truncate (record { table = codes "table" }))) (Word (codes "TRUNCATE") ∷ Word (codes "table") ∷ [])
table_table = (refl, inr (refl, tt))

table_t : Fits (spelling (Truncate (record { table = codes "t" }))) (Word (codes "TRUNCATE") ∷ Word (codes "TABLE") ∷ Word (codes "t") ∷ Semicolon ∷ [])
table_t = (refl, inl (refl, (refl, inl (refl, tt))))

-- two columns and a limit
two_columns : Fits (spelling (Select (record { columns = Some (codes "a" ∷ codes "b" ∷ []); table = codes "t"; tests = []; order = []; limit = Some 5 })))
    (Word (codes "SELECT") ∷ Word (codes "a") ∷ Comma ∷ Word (codes "b") ∷ Word (codes "from") ∷ Word (codes "t") ∷ Word (codes "LIMIT") ∷ Word (codes "05") ∷ [])
two_columns = (refl, (refl, (refl, (refl, (refl, (refl, (refl, (refl, tt))))))))

-- a column twice, in another case, and four values
same_column : are_apart (codes "a" ∷ codes "b" ∷ codes "A" ∷ []) ≡ false
same_column = refl

other_columns : are_apart (codes "a" ∷ codes "b" ∷ []) ≡ true
other_columns = refl

four_values : counts_agree None ([] ∷ [] ∷ [] ∷ [] ∷ []) ≡ false
four_values = refl
