-- Which values a report can have.
use Rattle.std.specs.Prelude.{ℕ, ◌≡◌, ◌≢◌, ◌==◌, Bool, true, ◌&&◌, ◌||◌, nat_le, List, [], length, map, Option, Some, None}
use Rattle.std.specs.List.{All, filter_map}
use Rattle.pfs_event.specs.declared.entry.Entry.{Entry}
use Rattle.pfs_event.specs.declared.entry.Entry.TheVariants as entry
use Rattle.pfs_text.specs.declared.values.RowValue.{RowValue}
use Rattle.pfs_text.specs.declared.values.RowValue.TheVariants.{Null, Number, Text}
use Rattle.pfs_journal.specs.declared.values.TableReport.{TableReport}
use Rattle.pfs_journal.specs.declared.values.LostReport.{LostReport}
use Rattle.pfs_journal.specs.declared.blocks.BlockReport.{BlockReport}
use Rattle.pfs_journal.specs.declared.report.PhaseParts.{PhaseParts}
use Rattle.pfs_journal.specs.declared.report.ReportParts.{ReportParts}

-- a byte of a text: a tab, or from space to `~`
abbrev pub is_text_byte : ℕ → Bool
is_text_byte b = (b == 9) || (nat_le 32 b && nat_le b 126)

-- a byte of a name: a letter, a digit or `_`
abbrev pub is_name_byte : ℕ → Bool
is_name_byte b = (nat_le 97 b && nat_le b 122) || (nat_le 65 b && nat_le b 90) || (nat_le 48 b && nat_le b 57)
    || (b == 95)

abbrev pub IsText : List ℕ → Type 0
IsText text = All (λ b. is_text_byte b ≡ true) text

-- a name has at least one byte
pub record IsName (name : List ℕ) : Type 0 where
  pub some : name ≢ []
  pub bytes : All (λ b. is_name_byte b ≡ true) name

abbrev pub IsValue : RowValue → Type 0
IsValue Null = Unit {0}
IsValue (Number number) = Unit {0}
IsValue (Text text) = IsText text

abbrev pub IsRow : List RowValue → Type 0
IsRow row = All IsValue row

-- a table has a row
pub record IsTable (table : TableReport) : Type 0 where
  pub name : IsName table.name
  pub some : table.rows ≢ []
  pub rows : All IsRow table.rows

abbrev pub IsLost : LostReport → Type 0
IsLost lost = IsName lost.name

-- how many rows the answer behind an entry has, where one is
abbrev pub rows_asked : Entry → Option ℕ
rows_asked (entry.Rows number) = Some number
rows_asked _ = None

-- how many rows each answer has
abbrev pub sizes_of : List (List (List RowValue)) → List ℕ
sizes_of answers = map (λ (answer : List (List RowValue)). length answer) answers

-- each answer has so many rows as its entry says
abbrev pub AreAnswered : List Entry → List (List (List RowValue)) → Type 0
AreAnswered entries answers = sizes_of answers ≡ filter_map rows_asked entries

pub record IsBlock (block : BlockReport) : Type 0 where
  pub answered : AreAnswered block.entries block.answers
  pub rows : All (All IsRow) block.answers

pub record IsPhase (phase : PhaseParts) : Type 0 where
  pub blocks : All IsBlock phase.blocks
  pub tables : All IsTable phase.tables
  pub lost : All IsLost phase.lost

-- there is one format
pub record IsReport (report : ReportParts) : Type 0 where
  pub format : report.format ≡ 1
  pub phases : All IsPhase report.phases
