-- A SELECT on the administration's own table, worked: a block whose only line asks for the hosts of `setup_actors`, where
-- one row stands.
use Rattle.std.specs.Prelude.{ℕ, ◌≡◌, true, List, [], ◌∷◌, Some, None, codes}
use Rattle.pfs_admin.specs.AdministrationStates.{State}
use Rattle.pfs_classes.specs.declared.setting.Setting.{Setting}
use Rattle.pfs_event.specs.declared.entry.Entry.{Entry}
use Rattle.pfs_event.specs.declared.entry.Entry.TheVariants as says
use Rattle.pfs_exec.specs.declared.query.Select.{Select}
use Rattle.pfs_journal.specs.declared.report.PhaseParts.{PhaseParts}
use Rattle.pfs_matching.specs.declared.actor_rows.ActorRow.{ActorRow}
use Rattle.pfs_model.specs.EntryPlaces.{Block}
use Rattle.pfs_rows.specs.declared.table.Table.TheVariants.{SetupActors}
use Rattle.pfs_script.specs.declared.blocks.Block.{Block as Said}
use Rattle.pfs_script.specs.declared.blocks.BlockLine.TheVariants as said
use Rattle.pfs_script.specs.declared.blocks.Phase.{Phase}
use Rattle.pfs_text.specs.declared.values.RowValue.TheVariants.{Text}
use Rattle.pfs_runs.specs.SelectAnswers.{Answer, Selection, Held, IsAnswered, selections_in}
use Rattle.pfs_runs.specs.ScriptLines.{lines_in}
use Rattle.pfs_runs.specs.Runs.{ArePhasesAnswered}

abbrev pub showing : Said
showing = record { session = 1; connect = None; lines = said.Sql (codes "SELECT host FROM setup_actors") ∷ [] }

abbrev pub spending : Said
spending = record { session = 1; connect = None; lines = said.Spend 7 ∷ [] }

abbrev pub select : Select
select = record { table = SetupActors; columns = 0 ∷ []; tests = []; order = []; limit = None }

-- the row that stands there, and the answer, which is its host
abbrev pub actor : ActorRow
actor = record { host = codes "%"; user = codes "%"; role = codes "%"; enabled = true; history = true }

abbrev pub answer : Answer
answer = (Text (codes "%") ∷ []) ∷ []

-- what stands at the line: the second action, and that it showed so many rows
abbrev pub shown_rows : ℕ → List Entry
shown_rows count = says.Act 2 ∷ says.Rows count ∷ []

-- a phase of one block that is reported with these entries at its line, and these answers
abbrev pub phases : Said → List Phase
phases said = record { blocks = said ∷ [] } ∷ []

abbrev pub reports : List Entry → List Answer → List PhaseParts
reports part given = record {
  number = 1;
  blocks = record { session = 1; entries = part; answers = given } ∷ [];
  tables = [];
  lost = [];
} ∷ []

abbrev pub journals : Said → List Entry → List (List Block)
journals said part = (record { phase = 1; session = 1; lines = lines_in said; parts = part ∷ [] ∷ [] } ∷ []) ∷ []

abbrev pub AreReported : (Selection → List Entry → Answer → Type 0) → Said → List Entry → List Answer → Type 0
AreReported answers said part given =
    ArePhasesAnswered answers (phases said) (reports part given) (journals said part)

-- The line is a SELECT on what the administration holds, and the end of its block is none. Its answer is that row's host
-- where one row is told of, and not where two are; it isn't missing, nothing else is an answer beside it, and a line that
-- is no SELECT has none.
pub record WorkedAnswer (answers : Selection → List Entry → Answer → Type 0) : Type 0 where
  pub selects : selections_in showing ≡ Some (Held select) ∷ None ∷ []
  pub shown : AreReported answers showing (shown_rows 1) (answer ∷ [])
  pub miscounted : AreReported answers showing (shown_rows 2) (answer ∷ []) → ⊥
  pub missing : AreReported answers showing (shown_rows 1) [] → ⊥
  pub one_more : AreReported answers showing (shown_rows 1) (answer ∷ answer ∷ []) → ⊥
  pub elsewhere : AreReported answers spending [] (answer ∷ []) → ⊥

-- where that row is the only one before the action
abbrev pub WorkedAnswers : Type 0
WorkedAnswers = (setting : Setting) (content : ℕ → ℕ → List ℕ) (flags : ℕ → ℕ → ℕ) (before : ℕ → State)
    → (before 2).actors ≡ actor ∷ [] → WorkedAnswer (IsAnswered setting content flags before)
