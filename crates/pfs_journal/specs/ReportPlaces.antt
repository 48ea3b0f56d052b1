-- Where in a report a reader of its lines stands, and which lines may stand there.
use Rattle.std.specs.Prelude.{ℕ, zero, suc, ◌≡◌, ◌≢◌, ◌+◌, ◌-◌, ◌^◌, min, List, [], ◌∷◌, ◌++◌, length, Option, Some, None}
use Rattle.std.specs.List.{All, flat_map}
use Rattle.pfs_journal.specs.declared.line.Line.{Line}
use Rattle.pfs_journal.specs.declared.line.Line.TheVariants.{Head, Phase, Session, Entry, Row, Final, Table, Lost, End}
use Rattle.pfs_journal.specs.SingleLines.{line_text, IsGoodLine}
use Rattle.pfs_journal.specs.Reports.{rows_asked}

-- what stands in front
pub data Place : Type 0 where
  Start : Place  -- nothing
  Phases : Place  -- the first line
  Blocks : Place  -- a phase's line
  Journal : ℕ → Place  -- a session's line and its entries so far, where so many rows are due
  Results : Place  -- the line `final`
  Named : Place  -- a table's line
  Rows : Place  -- a row of a table
  Counters : Place  -- a counter
  Ended : Place  -- the line `end`

-- how many rows are due behind an entry that asks for so many
abbrev pub rows_due : Option ℕ → ℕ
rows_due None = 0
rows_due (Some number) = number

abbrev pub start_step : Line → Option Place
start_step (Head format) = Some Phases
start_step _ = None

-- where a phase is at its end
abbrev pub phase_step : Line → Option Place
phase_step (Phase number) = Some Blocks
phase_step End = Some Ended
phase_step _ = None

-- where a journal is at its end
abbrev pub block_step : Line → Option Place
block_step (Session number) = Some (Journal 0)
block_step Final = Some Results
block_step _ = None

-- where no row is due
abbrev pub entry_step : Line → Option Place
entry_step (Entry entry) = Some (Journal (rows_due (rows_asked entry)))
entry_step line = block_step line

-- where a row is due, and so many behind it
abbrev pub due_step : ℕ → Line → Option Place
due_step more (Row row) = Some (Journal more)
due_step more _ = None

abbrev pub counter_step : Line → Option Place
counter_step (Lost lost) = Some Counters
counter_step line = phase_step line

-- where a table is at its end
abbrev pub result_step : Line → Option Place
result_step (Table name) = Some Named
result_step line = counter_step line

-- where a table's first row is due
abbrev pub named_step : Line → Option Place
named_step (Row row) = Some Rows
named_step _ = None

abbrev pub row_step : Line → Option Place
row_step (Row row) = Some Rows
row_step line = result_step line

-- the place behind a line, where the line may stand here
abbrev pub step : Place → Line → Option Place
step Start line = start_step line
step Phases line = phase_step line
step Blocks line = block_step line
step (Journal zero) line = entry_step line
step (Journal (suc more)) line = due_step more line
step Results line = result_step line
step Named line = named_step line
step Rows line = row_step line
step Counters line = counter_step line
step Ended line = None

-- the place behind these lines, where each may stand in its place
abbrev pub run : Option Place → List Line → Option Place
run place [] = place
run None (line ∷ lines) = None
run (Some place) (line ∷ lines) = run (step place line) lines

-- the number of a line, which stays at the greatest
abbrev pub capped : ℕ → ℕ
capped number = min number (2 ^ 64 - 1)

-- where a reader stands here, these bytes are left and their first line has this number, the line `at` is the first
-- wrong one
pub record Stops (place : Place) (rest : List ℕ) (number at : ℕ) : Type 0 where
  pub lines : List Line
  pub good : All IsGoodLine lines
  pub behind : List ℕ
  pub text : rest ≡ flat_map line_text lines ++ behind
  pub there : Place
  pub ran : run (Some place) lines ≡ Some there
  pub stuck : (line : Line) (more : List ℕ) → IsGoodLine line → behind ≡ line_text line ++ more → step there line ≡ None
  pub unfinished : there ≡ Ended → behind ≢ []
  pub counted : at ≡ capped (number + length lines)

-- the same behind the line of this number, which leads to that place or is wrong itself
abbrev pub StopsAfter : Option Place → List ℕ → ℕ → ℕ → Type 0
StopsAfter None rest number at = at ≡ number
StopsAfter (Some place) rest number at = Stops place rest (number + 1) at

-- what was read leads from one place to another: where a reader stops behind the second, it stops so behind the first
abbrev pub Leads : Option Place → List ℕ → ℕ → Option Place → List ℕ → ℕ → Type 0
Leads from before number to after reached =
    (at : ℕ) → StopsAfter to after reached at → StopsAfter from before number at
