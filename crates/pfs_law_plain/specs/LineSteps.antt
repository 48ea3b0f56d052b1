-- The steps that a line of a script asks of a session, by the kinds of the events that are open there. What an action
-- does besides starts and ends no event, and lets no time pass.
use Rattle.std.specs.Prelude.{List, [], ◌∷◌, ◌++◌, Some, None}
use Rattle.pfs_event.specs.declared.kind.EventKind.{EventKind}
use Rattle.pfs_event.specs.declared.kind.EventKind.TheVariants.{Wait, Stage, Statement, Transaction}
use Rattle.pfs_event.specs.declared.open.Open.{Open}
use Rattle.pfs_runs.specs.ScriptLines.{wait_on, statement_on, transaction_on, stage_on}
use Rattle.pfs_script.specs.declared.blocks.BlockLine.{BlockLine}
use Rattle.pfs_script.specs.declared.blocks.BlockLine.TheVariants as said
use Rattle.pfs_script.specs.declared.blocks.StatementNumbers.{StatementNumbers}
use Rattle.pfs_session.specs.Ends.{no_numbers}
use Rattle.pfs_session.specs.SessionStates.{State}
use Rattle.pfs_session.specs.Turns.{Step, StartsEvent, EndsEvent, Spends}
use Rattle.pfs_session.specs.declared.events.Numbers.{Numbers}

-- the kinds of a session's open events, the innermost first
abbrev pub kinds_in : List Open → List EventKind
kinds_in [] = []
kinds_in (what ∷ events) = what.kind ∷ kinds_in events

abbrev pub kinds_at : State → List EventKind
kinds_at s = kinds_in s.opened.events

-- the six numbers of a line, as a session is told them
abbrev pub numbers_in : StatementNumbers → Numbers
numbers_in numbers = record {
  lock = numbers.lock;
  errors = numbers.errors;
  warnings = numbers.warnings;
  affected = numbers.affected;
  sent = numbers.sent;
  examined = numbers.examined;
}

-- an open stage ends first
abbrev pub stage_ends_in : List EventKind → List Step
stage_ends_in [] = []
stage_ends_in (Stage ∷ kinds) = EndsEvent no_numbers ∷ []
stage_ends_in (Wait ∷ kinds) = []
stage_ends_in (Statement ∷ kinds) = []
stage_ends_in (Transaction ∷ kinds) = []

abbrev pub steps_on : List EventKind → BlockLine → List Step
steps_on kinds (said.Wait class) = StartsEvent (wait_on class None) ∷ []
steps_on kinds (said.TableWait class table) = StartsEvent (wait_on class (Some table)) ∷ []
steps_on kinds (said.Statement class digest) = StartsEvent (statement_on class digest) ∷ []
steps_on kinds (said.Transaction access) = StartsEvent (transaction_on access) ∷ []
steps_on kinds (said.Stage class) = stage_ends_in kinds ++ StartsEvent (stage_on class) ∷ []
steps_on kinds said.StageEnd = stage_ends_in kinds
steps_on kinds (said.Spend time) = Spends time ∷ []
steps_on kinds said.End = stage_ends_in kinds ++ EndsEvent no_numbers ∷ []
steps_on kinds (said.EndStatement numbers) = stage_ends_in kinds ++ EndsEvent (numbers_in numbers) ∷ []
steps_on kinds said.Quit = []
steps_on kinds (said.Sql text) = []
steps_on kinds (said.Repeat times) = []
steps_on kinds said.Done = []
