-- What the SELECTs of a run answer: what was read, at the versions that the journal names, or what the administration
-- holds at the action; listed, filtered, ordered, cut and projected.
use Rattle.std.specs.Prelude.{ℕ, ◌≡◌, List, [], ◌∷◌, ◌++◌, All, length, map, Option, Some, None}
use Rattle.pfs_admin.specs.AdministrationStates.{State}
use Rattle.pfs_classes.specs.declared.setting.Setting.{Setting}
use Rattle.pfs_event.specs.declared.entry.Entry.{Entry}
use Rattle.pfs_event.specs.declared.entry.Entry.TheVariants as says
use Rattle.pfs_exec.specs.Selections.{IsAnswer}
use Rattle.pfs_exec.specs.declared.query.Select.{Select}
use Rattle.pfs_matching.specs.declared.actor_rows.ActorRow.{ActorRow}
use Rattle.pfs_matching.specs.declared.object_rows.ObjectRow.{ObjectRow}
use Rattle.pfs_readsets.specs.TablePlaces.{scope_of}
use Rattle.pfs_readsets.specs.ReadSets.{IsReadSet}
use Rattle.pfs_exec.specs.Requests.{request_of}
use Rattle.pfs_exec.specs.declared.requests.Request.{Request}
use Rattle.pfs_exec.specs.declared.requests.Request.TheVariants as requests
use Rattle.pfs_rows.specs.declared.table.Reading.{Reading}
use Rattle.pfs_rows.specs.declared.table.Reading.TheVariants as readings
use Rattle.pfs_rows.specs.declared.table.Seen.TheVariants.{Whole, Free, Busy}
use Rattle.pfs_script.specs.declared.blocks.Block.{Block}
use Rattle.pfs_script.specs.declared.blocks.BlockLine.{BlockLine}
use Rattle.pfs_script.specs.declared.blocks.BlockLine.TheVariants as said
use Rattle.pfs_script.specs.declared.blocks.Connect.{Connect}
use Rattle.pfs_script.specs.Marks.{written_out}
use Rattle.pfs_session.specs.Inquiries.{reading_entry}
use Rattle.pfs_setups.specs.HeldRows.{held_rows}
use Rattle.pfs_tables.specs.ListedRows.{listed_rows}
use Rattle.pfs_text.specs.declared.values.RowValue.{RowValue}

-- the rows of an answer, each with a value for each column that it names
abbrev pub Answer : Type 0
Answer = List (List RowValue)

-- a SELECT whose rows are read of the store, and one on the administration's own tables, which is an action
pub data Selection : Type 0 where
  Stored : Select → Selection
  Held : Select → Selection

abbrev pub selection_in : Request → Option Selection
selection_in (requests.Query select) = Some (Stored select)
selection_in (requests.Show select) = Some (Held select)
selection_in (requests.Refused error) = None
selection_in (requests.Truncate what) = None
selection_in (requests.Update update) = None
selection_in (requests.Insert insert) = None
selection_in (requests.Delete delete) = None

abbrev pub selection_on : BlockLine → Option Selection
selection_on (said.Sql text) = selection_in (request_of text)
selection_on _ = None

-- neither its connect nor its end is one
abbrev pub connect_selections : Option Connect → List (Option Selection)
connect_selections None = []
connect_selections (Some names) = None ∷ []

-- of each line of a block, repeats written out
abbrev pub selections_in : Block → List (Option Selection)
selections_in block = connect_selections block.connect ++ (map selection_on (written_out block.lines) ++ None ∷ [])

-- each SELECT has the next answer, and no other line has one: a SELECT, what stands at its line and its answer belong
-- together as is asked
abbrev pub AreAnswers : {A : Type 0} → (Selection → A → Answer → Type 0) → List (Option Selection) → List A → List Answer
    → Type 0
AreAnswers answers [] [] given = given ≡ []
AreAnswers answers (None ∷ selections) (at ∷ others) given = AreAnswers answers selections others given
AreAnswers answers (Some selection ∷ selections) (at ∷ others) [] = ⊥
AreAnswers answers (Some selection ∷ selections) (at ∷ others) (answer ∷ given) =
    answers selection at answer × AreAnswers answers selections others given
AreAnswers answers [] (at ∷ others) given = ⊥
AreAnswers answers (selection ∷ selections) [] given = ⊥

-- the rows that a table lists by what was read of it, answer the query
abbrev pub AnswersRead : Setting → Select → List Reading → Answer → Type 0
AnswersRead setting select readings answer = IsAnswer select (listed_rows setting select.table readings) answer

-- those that the administration holds do
abbrev pub AnswersHeld : Select → List ActorRow → List ObjectRow → Answer → Type 0
AnswersHeld select actors objects answer = IsAnswer select (held_rows select.table actors objects) answer

-- a reading shows what stands in its row at its version, or a word's flags at its one; of a row that was free or busy it
-- shows nothing
abbrev pub IsShown : (ℕ → ℕ → List ℕ) → (ℕ → ℕ → ℕ) → Reading → Type 0
IsShown content flags (readings.Slot row (Whole version words)) = words ≡ content row version
IsShown content flags (readings.Slot row (Free word)) = Unit {0}
IsShown content flags (readings.Slot row (Busy first second)) = Unit {0}
IsShown content flags (readings.Word word version value) = value ≡ flags word version

-- at a query's line stand its readings, which are the table's read set, and how many rows answer it
pub record IsQueried (setting : Setting) (content : ℕ → ℕ → List ℕ) (flags : ℕ → ℕ → ℕ) (select : Select)
    (part : List Entry) (answer : Answer) : Type 0 where
  pub readings : List Reading
  pub whole : IsReadSet (scope_of setting) select.table readings
  pub shown : All (IsShown content flags) readings
  pub told : part ≡ says.Query ∷ (map reading_entry readings ++ says.Rows (length answer) ∷ [])
  pub answered : AnswersRead setting select readings answer

-- at the line of one on the administration's tables stand what is settled, its action and how many rows answer it: of
-- those that the administration holds before this action
pub record IsHeldShown (before : ℕ → State) (select : Select) (part : List Entry) (answer : Answer) : Type 0 where
  pub settled : List Entry
  pub number : ℕ
  pub told : part ≡ settled ++ says.Act number ∷ says.Rows (length answer) ∷ []
  pub answered : AnswersHeld select (before number).actors (before number).objects answer

abbrev pub IsAnswered : Setting → (ℕ → ℕ → List ℕ) → (ℕ → ℕ → ℕ) → (ℕ → State) → Selection → List Entry → Answer → Type 0
IsAnswered setting content flags before (Stored select) part answer =
    IsQueried setting content flags select part answer
IsAnswered setting content flags before (Held select) part answer = IsHeldShown before select part answer
