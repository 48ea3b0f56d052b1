-- The tables and the digest texts of lines, in the order of their first appearance.
use Rattle.std.specs.Prelude.{ℕ, ◌&&◌, Bool, true, false, nat_lt, if◌then◌else◌, List, [], ◌∷◌, ◌++◌, length, position, is_some, Option, None, Result, Ok, Err}
use Rattle.std.specs.List.{list_any, fold}
use Rattle.std.specs.Result.{result_ok}
use Rattle.std.specs.Str.{bytes_eq}
use Rattle.pfs_lexer.specs.declared.tokens.LexFault.{LexFault}
use Rattle.pfs_lexer.specs.declared.tokens.Token.{Token}
use Rattle.pfs_lexer.specs.TextItems.{items_of}
use Rattle.pfs_digest.specs.Digest.{digest_text_of}
use Rattle.pfs_classes.specs.declared.setting.TableName.{TableName}
use Rattle.pfs_classes.specs.declared.setting.DigestText.{DigestText}
use Rattle.pfs_script.specs.declared.forms.Form.{Form}
use Rattle.pfs_script.specs.declared.forms.Form.TheVariants as form

abbrev pub is_fault : Result Token LexFault → Bool
is_fault (Ok token) = false
is_fault (Err fault) = true

-- the lexer finds a fault in the statement
abbrev pub is_refused : List ℕ → Bool
is_refused text = list_any is_fault (items_of text)

-- the digest text of a line's statement; none where the lexer refuses its text, and of any other line
abbrev pub shown_of : Form → Option (List ℕ)
shown_of (form.Statement class text) = result_ok (digest_text_of text)
shown_of _ = None

abbrev pub is_table : List ℕ → List ℕ → TableName → Bool
is_table schema name table = bytes_eq table.schema schema && bytes_eq table.name name

-- the number of a table
abbrev pub table_number : List TableName → List ℕ → List ℕ → Option ℕ
table_number tables schema name = position (is_table schema name) tables

-- the tables with that of one more line at the end, where it is new
abbrev pub with_table : List TableName → Form → List TableName
with_table tables (form.TableWait class schema name) =
    if is_some (table_number tables schema name) then tables else tables ++ record { schema = schema; name = name } ∷ []
with_table tables _ = tables

unfoldable pub tables_of : List Form → List TableName
tables_of lines = fold with_table [] lines

abbrev pub has_text : List ℕ → DigestText → Bool
has_text shown digest = bytes_eq digest.text shown

-- the place of a digest text, where it has one
abbrev pub place_of : List DigestText → Result (List ℕ) LexFault → Option ℕ
place_of digests (Ok shown) = position (has_text shown) digests
place_of digests (Err fault) = None

-- the place of a statement's digest text
abbrev pub digest_place : List DigestText → List ℕ → Option ℕ
digest_place digests text = place_of digests (digest_text_of text)

-- what is kept of a digest text
abbrev pub of_text : List ℕ → DigestText
of_text shown = record { text = shown }

-- with a digest text at the next place, where it is new and there are fewer than so many
abbrev pub add_digest : ℕ → List DigestText → Result (List ℕ) LexFault → List DigestText
add_digest most digests (Ok shown) =
    if is_some (position (has_text shown) digests) then digests
    else (if nat_lt (length digests) most then digests ++ of_text shown ∷ [] else digests)
add_digest most digests (Err fault) = digests

-- the digest texts with that of one more line
abbrev pub with_digest : ℕ → List DigestText → Form → List DigestText
with_digest most digests (form.Statement class text) = add_digest most digests (digest_text_of text)
with_digest most digests _ = digests

-- the first so many different digest texts of the lines' statements
unfoldable pub digests_of : ℕ → List Form → List DigestText
digests_of most lines = fold (with_digest most) [] lines
