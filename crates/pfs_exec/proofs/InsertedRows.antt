-- The texts of a new row are of bytes of the text that asks for it, and of `%`.
use Rattle.std.proofs.Common.{◌≡◌, ◌⊎◌, ℕ, ◌==◌, Bool, true, false, cond, List, [], ◌∷◌, ◌++◌, Option, Some, None, slice_get, unwrap_or, codes, refl, subst, inl, inr}
use Rattle.std.specs.Prelude.{All, Contains, flat_map}
use Rattle.std.specs.Option.{option_and_then}
use Rattle.std.proofs.lemmas.List.Elements.{All-nil, All-cons, All-head, All-tail, All-weaker, All-contains_itself}
use Rattle.std.proofs.lemmas.Option.{slice_get_within, get_or_from_slice_get}
use Rattle.pfs_exec.specs.declared.changes.Insert.{Insert as InsertChange}
use Rattle.pfs_exec.specs.Plans.{fault_of, insert_of, table_text, value_given, value_or}
use Rattle.pfs_exec.specs.declared.query.Select.{Select as Query}
use Rattle.pfs_rows.specs.declared.table.Table.{Table}
use Rattle.pfs_rows.specs.declared.table.Table.TheVariants as tables
use Rattle.pfs_sql.specs.Grammar.{Part, Piece, Passes, Quotes, One, May, Is, Fits, name, names, text, each_behind, separated, listed, optional, spelling, Says}
use Rattle.pfs_sql.specs.Tokens.{AreTokens, Begins, IsToken}
use Rattle.pfs_sql.specs.TokenWords.{is_comma, is_open, is_close}
use Rattle.pfs_sql.specs.declared.command.Command.{Command}
use Rattle.pfs_sql.specs.declared.command.Command.TheVariants.{Select, Update, Insert, Delete, Truncate}
use Rattle.pfs_sql.specs.declared.command.InsertCommand.{InsertCommand}
use Rattle.pfs_sql.specs.declared.faults.SqlError.{SqlError}
use Rattle.pfs_sql.specs.declared.token.Token.{Token}
use Rattle.pfs_sql.specs.declared.token.Token.TheVariants as tokens
use Rattle.pfs_text.specs.QuotedTexts.{doubled}
use Rattle.pfs_rows.specs.TruncationTables.{truncation_on}
use Rattle.pfs_rows.specs.declared.truncations.Truncation.{Truncation}
use Rattle.pfs_exec.specs.RequestLaws.{EachText, RowLaw}
use Rattle.pfs_exec.specs.Requests.{asks_for, asks_on, asks_rows, command_in, request_of, table_in, truncating, unless}
use Rattle.pfs_exec.specs.declared.requests.Request.TheVariants as requests
use Rattle.pfs_exec.proofs.CommandTexts.{command_read}

module _ (P : ℕ → Type 0) where
  left : (xs ys : List ℕ) → All P (xs ++ ys) → All P xs
  left [] ys h = All-nil P
  left (x ∷ xs) ys h = All-cons P x xs (All-head P x (xs ++ ys) h) (left xs ys (All-tail P x (xs ++ ys) h))

  right : (xs ys : List ℕ) → All P (xs ++ ys) → All P ys
  right [] ys h = h
  right (x ∷ xs) ys h = right xs ys (All-tail P x (xs ++ ys) h)

  -- a quoted text has no bytes but those between its quotes
  undoubled : (b : ℕ) (twice : Bool) (more : List ℕ) → All P (cond twice (b ∷ b ∷ []) (b ∷ []) ++ more) → P b × All P more
  undoubled b true more h = (All-head P b (b ∷ more) h, All-tail P b more (All-tail P b (b ∷ more) h))
  undoubled b false more h = (All-head P b more h, All-tail P b more h)

  inside : (bytes : List ℕ) → All P (flat_map doubled bytes) → All P bytes
  inside [] h = All-nil P
  inside (b ∷ bytes) h =
      let parts = undoubled b (b == 39) (flat_map doubled bytes) h in
      All-cons P b bytes parts.0 (inside bytes parts.1)

  -- what is said of a token: its bytes hold P, where it is a quoted text
  abbrev TokenHas : Token → Type 0
  TokenHas (tokens.Quoted bytes) = All P bytes
  TokenHas token = Unit {0}

  abbrev TokensHave : List Token → Type 0
  TokensHave [] = Unit {0}
  TokensHave (t ∷ ts) = TokenHas t × TokensHave ts

  token_has : (t : Token) (front : List ℕ) → IsToken t front → All P front → TokenHas t
  token_has (tokens.Quoted bytes) front e h =
      inside bytes (left (flat_map doubled bytes) (39 ∷ []) (All-tail P 39 (flat_map doubled bytes ++ 39 ∷ []) (subst (All P) e h)))
  token_has t front e h = tt

  tokens_have : (whole : List ℕ) (ts : List Token) → AreTokens whole ts → All P whole → TokensHave ts
  tokens_have whole [] are h = tt
  tokens_have whole (t ∷ ts) are h =
      let begins : Begins t are.1 are.2 = are.5 in
      let bytes : All P are.1 = right are.0 are.1 (subst (All P) are.4 h) in
      let parted : All P (begins.0 ++ are.2) = subst (All P) begins.2 bytes in
      (token_has t begins.0 begins.1 (left begins.0 are.2 parted), tokens_have are.2 ts are.6 (right begins.0 are.2 parted))

  -- and what is then said of the pieces that they fit
  abbrev PartHas : Part → Type 0
  PartHas (Quotes bytes) = All P bytes
  PartHas part = Unit {0}

  abbrev PiecesHave : List Piece → Type 0
  PiecesHave [] = Unit {0}
  PiecesHave (One part ∷ pieces) = PartHas part × PiecesHave pieces
  PiecesHave (May part ∷ pieces) = PiecesHave pieces

  part_has : (part : Part) (t : Token) → Is part t → TokenHas t → PartHas part
  part_has (Quotes bytes) (tokens.Quoted other) e h = let same : other ≡ bytes = cc in subst (All P) same h
  part_has (Quotes bytes) t e h = absurd cc
  part_has part t e h = tt

  pieces_have : (pieces : List Piece) (ts : List Token) → Fits pieces ts → TokensHave ts → PiecesHave pieces
  pieces_have [] ts f h = tt
  pieces_have (One part ∷ pieces) [] f h = absurd f
  pieces_have (One part ∷ pieces) (t ∷ ts) f h = (part_has part t f.0 h.0, pieces_have pieces ts f.1 h.1)
  pieces_have (May part ∷ pieces) [] f h = pieces_have pieces [] f h
  pieces_have (May part ∷ pieces) (t ∷ ts) (inl f) h = pieces_have pieces ts f.1 h.1
  pieces_have (May part ∷ pieces) (t ∷ ts) (inr f) h = pieces_have pieces (t ∷ ts) f h

  -- the values of an INSERT stand behind its columns
  past_more : (xs : List (List ℕ)) (tail : List Piece) → PiecesHave (each_behind is_comma name xs tail) → PiecesHave tail
  past_more [] tail h = h
  past_more (x ∷ xs) tail h = past_more xs tail h.1.1

  past_names : (xs : List (List ℕ)) (tail : List Piece) → PiecesHave (names xs tail) → PiecesHave tail
  past_names [] tail h = h.1
  past_names (x ∷ xs) tail h = past_more xs tail h.1

  past_columns : (columns : Option (List (List ℕ))) (tail : List Piece) → PiecesHave (optional is_open listed columns tail) → PiecesHave tail
  past_columns None tail h = h
  past_columns (Some xs) tail h = (past_names xs (One (Passes is_close) ∷ tail) h.1).1

  more_values : (xs : List (List ℕ)) (tail : List Piece) → PiecesHave (each_behind is_comma text xs tail) → All (All P) xs
  more_values [] tail h = All-nil (All P)
  more_values (x ∷ xs) tail h = All-cons (All P) x xs h.1.0 (more_values xs tail h.1.1)

  all_values : (xs : List (List ℕ)) (tail : List Piece) → PiecesHave (separated is_comma text xs tail) → All (All P) xs
  all_values [] tail h = All-nil (All P)
  all_values (x ∷ xs) tail h = All-cons (All P) x xs h.0 (more_values xs tail h.1)

  values_have : (whole : List ℕ) (c : InsertCommand) → Says whole (Insert c) → All P whole → All (All P) c.values
  values_have whole c s h =
      let pieces = pieces_have (spelling (Insert c)) s.0 s.2.0 (tokens_have whole s.0 s.1 h) in
      let behind = past_columns c.columns _ pieces.1.1.1 in
      all_values c.values _ behind.1.1

  -- a value that is given is one of them, and one that isn't is what a missing one is
  at_place : (values : List (List ℕ)) (place : ℕ) (value : List ℕ) → All (All P) values → slice_get values place ≡ Some value → All P value
  at_place values place value h e =
      subst (All P) (get_or_from_slice_get values place value value e) (h place value (slice_get_within values place value e))

  through : (values : List (List ℕ)) (place : Option ℕ) (value : List ℕ) → All (All P) values → option_and_then (slice_get values) place ≡ Some value → All P value
  through values None value h e = absurd cc
  through values (Some place) value h e = at_place values place value h e

  given_has : (table : Table) (columns : Option (List (List ℕ))) (values : List (List ℕ)) (place : ℕ) (value : List ℕ) → All (All P) values
      → value_given table columns values place ≡ Some value → All P value
  given_has table None values place value h e = at_place values place value h e
  given_has table (Some xs) values place value h e = through values _ value h e

  or_missing : (given : Option (List ℕ)) (missing : List ℕ) → ((value : List ℕ) → given ≡ Some value → All P value) → All P missing → All P (unwrap_or given missing)
  or_missing None missing h m = m
  or_missing (Some value) missing h m = h value refl

  percent : P 37 → All P (codes "%")
  percent h = All-cons P 37 [] h (All-nil P)

  value_has : (table : Table) (c : InsertCommand) (place : ℕ) → All (All P) c.values → P 37 → All P (value_or table c place (codes "%"))
  value_has table c place h p = or_missing (value_given table c.columns c.values place) (codes "%") (λ value. given_has table c.columns c.values place value h) (percent p)

  row_has : (table : Table) (c : InsertCommand) → All (All P) c.values → P 37 → EachText (All P) (insert_of table c).row
  row_has tables.SetupObjects c h p = (value_has tables.SetupObjects c 1 h p, value_has tables.SetupObjects c 2 h p)
  row_has table c h p = (value_has tables.SetupActors c 0 h p, value_has tables.SetupActors c 1 h p, value_has tables.SetupActors c 2 h p)

-- no other command asks for a new row
no_select : (table : Table) (select : Query) (insert : InsertChange) → asks_rows table select ≡ requests.Insert insert → ⊥
no_select tables.SetupActors select insert e = cc
no_select tables.SetupObjects select insert e = cc
no_select table select insert e = cc

no_truncation : (o : Option Truncation) (insert : InsertChange) → truncating o ≡ requests.Insert insert → ⊥
no_truncation None insert e = cc
no_truncation (Some what) insert e = cc

-- the text says an INSERT, of whose values the row is
record Inserts (whole : List ℕ) (insert : InsertChange) : Type 0 where
  table : Table
  command : InsertCommand
  said : Says whole (Insert command)
  same : insert_of table command ≡ insert

by_command : (whole : List ℕ) (insert : InsertChange) (table : Table) (command : Command) → Says whole command
    → unless None table command ≡ requests.Insert insert → Inserts whole insert
by_command whole insert table (Select c) s e = absurd (no_select table _ insert e)
by_command whole insert table (Update c) s e = absurd cc
by_command whole insert table (Insert c) s e = record { table = table; command = c; said = s; same = cc }
by_command whole insert table (Delete c) s e = absurd cc
by_command whole insert table (Truncate c) s e = absurd (no_truncation (truncation_on table) insert e)

by_fault : (whole : List ℕ) (insert : InsertChange) (table : Table) (command : Command) → Says whole command
    → (fault : Option SqlError) → unless fault table command ≡ requests.Insert insert → Inserts whole insert
by_fault whole insert table command s None e = by_command whole insert table command s e
by_fault whole insert table command s (Some error) e = absurd cc

by_table : (whole : List ℕ) (insert : InsertChange) (command : Command) → Says whole command
    → (table : Option Table) → asks_on table command ≡ requests.Insert insert → Inserts whole insert
by_table whole insert command s None e = absurd cc
by_table whole insert command s (Some table) e = by_fault whole insert table command s (fault_of table command) e

inserts : (whole : List ℕ) (insert : InsertChange) → request_of whole ≡ requests.Insert insert → Inserts whole insert
unfolding request_of
inserts whole insert asked = on (command_in whole) refl asked where
  on : (o : Option Command) → command_in whole ≡ o → asks_for o ≡ requests.Insert insert → Inserts whole insert
  on None read e = absurd cc
  on (Some command) read e = by_table whole insert command (command_read whole command read) (table_in (table_text command)) e

-- what holds of each byte of the text and of `%` holds of each byte of the row's texts
pub row_bytes : (P : ℕ → Type 0) (whole : List ℕ) (insert : InsertChange) → request_of whole ≡ requests.Insert insert → All P whole → P 37
    → EachText (All P) insert.row
row_bytes P whole insert asked h p =
    let i = inserts whole insert asked in
    subst (λ z. EachText (All P) z.row) i.same (row_has P i.table i.command (values_have P whole i.command i.said h) p)

pub of_the_text : RowLaw
of_the_text whole insert asked =
    row_bytes (λ b. Contains whole b ⊎ (b ≡ 37)) whole insert asked
    (All-weaker (Contains whole) (λ b. Contains whole b ⊎ (b ≡ 37)) (λ b here. inl here) whole (All-contains_itself whole)) (inr refl)
