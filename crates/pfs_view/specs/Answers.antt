-- The texts of a session beside their answers.
use Rattle.std.specs.Prelude.{ℕ, ◌+◌, ◌==◌, nat_le, if◌then◌else◌, List, [], ◌∷◌, ◌++◌, length, take, slice_get, slice_index_or, codes, decimal}
use Rattle.std.specs.List.{flat_map}
use Rattle.std.specs.Option.{option_map_or}
use Rattle.pfs_journal.specs.declared.blocks.BlockReport.{BlockReport}
use Rattle.pfs_script.specs.declared.blocks.Block.{Block}
use Rattle.pfs_text.specs.declared.values.RowValue.{RowValue}
use Rattle.pfs_view.specs.AskedTexts.{bytes_of, texts_of}
use Rattle.pfs_view.specs.Grids.{first_of, grid_text}
use Rattle.pfs_view.specs.TextOutcomes.{outcomes_of}
use Rattle.pfs_view.specs.ScriptLines.{printed_byte}
use Rattle.pfs_view.specs.declared.answers.Dialogue.{Dialogue}
use Rattle.pfs_view.specs.declared.columns.Headings.TheVariants.{Numbered}
use Rattle.pfs_view.specs.declared.columns.Times.{Times}
use Rattle.pfs_view.specs.declared.replies.Outcome.{Outcome}
use Rattle.pfs_view.specs.declared.replies.Outcome.TheVariants as outcome

-- how much of a text is shown, as MySQL shows of it
abbrev pub most_shown : ℕ
most_shown = 1024

unfoldable pub short_text : List ℕ → List ℕ
short_text text = if nat_le (length text) most_shown then flat_map printed_byte text
    else flat_map printed_byte (take most_shown text) ++ codes "..."

unfoldable pub number_words : ℕ → List ℕ
number_words number = codes "\n" ++ decimal number ++ codes ": "

-- a text behind its number
unfoldable pub question_line : ℕ → List ℕ → List ℕ
question_line number text = number_words number ++ short_text text ++ codes "\n"

unfoldable pub change_line : ℕ → List ℕ
change_line rows = codes "done, rows: " ++ decimal rows ++ codes "\n"

-- what is wrong with a text
abbrev pub error_words : ℕ → List ℕ
error_words number =
    if number == 1064 then codes "this is no command that is known here, or a value is of another type than its column"
    else if number == 1146 then codes "there is no such table"
    else if number == 1142 then codes "the command is not allowed on this table"
    else if number == 1054 then codes "a column is not in the table"
    else if number == 1683 then codes "a column may not be changed, or may not have this value"
    else if number == 1062 then codes "such a row is there"
    else if number == 1114 then codes "the table is full"
    else codes "its number has no words here"

unfoldable pub error_number : ℕ → List ℕ
error_number number = codes "error " ++ decimal number ++ codes ": "

unfoldable pub error_line : ℕ → List ℕ
error_line number = error_number number ++ error_words number ++ codes "\n"

-- rows in numbered columns
unfoldable pub rows_text : Times → List (List RowValue) → List ℕ
rows_text times [] = codes "no rows\n"
rows_text times (row ∷ rows) = grid_text Numbered times (row ∷ rows)

-- what a session asked in a phase, and how that was answered
pub record Exchange : Type 0 where
  pub times : Times
  pub session : ℕ
  pub answers : List (List (List RowValue))
  pub texts : List (List ℕ)
  pub outcomes : List Outcome

abbrev pub exchange_of : Dialogue → Exchange
exchange_of dialogue = record {
  times = dialogue.times;
  session = dialogue.session;
  answers = dialogue.answers.now;
  texts = bytes_of dialogue.texts.now;
  outcomes = dialogue.outcomes.now;
}

-- an answer: its rows, how many rows a change met, or the error in words
abbrev pub outcome_text : Exchange → Outcome → List ℕ
outcome_text it (outcome.Rows place) = rows_text it.times (slice_index_or it.answers place [])
outcome_text it (outcome.Changed rows) = change_line rows
outcome_text it (outcome.Refused number) = error_line number

abbrev pub outcome_at : Exchange → ℕ → List ℕ
outcome_at it place = option_map_or (outcome_text it) (slice_get it.outcomes place) []

-- a text under the number of its place, and the answer at that place
unfoldable pub answered_with : Exchange → ℕ → List ℕ → List ℕ
answered_with it place text = question_line (place + 1) text ++ outcome_at it place

-- the text at a place
abbrev pub answered_text : Exchange → ℕ → List ℕ
answered_text it place = answered_with it place (slice_index_or it.texts place [])

-- each in its order
unfoldable pub answered_texts : Exchange → List ℕ
answered_texts it = flat_map (answered_text it) (first_of (λ (place : ℕ). place) (length it.outcomes))

unfoldable pub session_line : ℕ → List ℕ
session_line session = codes "\nsession " ++ decimal session ++ codes "\n"

unfoldable pub some_answers : Exchange → List ℕ
some_answers it = session_line it.session ++ answered_texts it

abbrev pub if_asked : Exchange → List Outcome → List ℕ
if_asked it [] = []
if_asked it (one ∷ outcomes) = some_answers it

-- it is left out where nothing was asked
unfoldable pub session_text : Exchange → List ℕ
session_text it = if_asked it it.outcomes

-- the texts of a script's block beside the answers that the report has for it
unfoldable pub block_text : Times → BlockReport → Block → List ℕ
block_text times report block = session_text (record {
  times = times;
  session = report.session;
  answers = report.answers;
  texts = texts_of block.lines;
  outcomes = outcomes_of report.entries;
})

-- with those of the script's block at its place, where there is one
unfoldable pub block_beside : Times → List Block → ℕ → BlockReport → List ℕ
block_beside times blocks place report = option_map_or (block_text times report) (slice_get blocks place) []

unfoldable pub block_at : Times → List Block → List BlockReport → ℕ → List ℕ
block_at times blocks reports place = option_map_or (block_beside times blocks place) (slice_get reports place) []

unfoldable pub blocks_text : Times → List Block → List BlockReport → List ℕ
blocks_text times blocks reports =
    flat_map (block_at times blocks reports) (first_of (λ (place : ℕ). place) (length reports))
