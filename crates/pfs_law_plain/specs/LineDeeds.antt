-- The deeds that a script's lines are to a session, and that a session's steps tell the facts of all its events.
use Rattle.std.specs.Prelude.{ℕ, ◌≡◌, List, [], ◌∷◌, None, Some, slice_get}
use Rattle.pfs_admin.specs.AdministrationStates.{State as Administration}
use Rattle.pfs_admin.specs.declared.changes.SetupStatement.TheVariants as statements
use Rattle.pfs_law_session.specs.Amounts.{at_first, AllFacts}
use Rattle.pfs_law_session.specs.Deeds.{Deed, Connecting, Starting, Staging, StageEnding, Ending, Spending, Quitting, Truncating, Changing, Showing, Querying, Refusing, Closing, Part}
use Rattle.pfs_law_session.specs.Stints.{Stint, AreStints, parts_by}
use Rattle.pfs_runs.specs.ScriptLines.{facts_if, wait_on, statement_on, transaction_on, stage_on}
use Rattle.pfs_script.specs.declared.blocks.BlockLine.{BlockLine}
use Rattle.pfs_script.specs.declared.blocks.BlockLine.TheVariants as said
use Rattle.pfs_script.specs.EventRules.{AreEvents}
use Rattle.pfs_script.specs.Events.{Event}
use Rattle.pfs_session.specs.Ends.{no_numbers}
use Rattle.pfs_exec.specs.Requests.{request_of}
use Rattle.pfs_exec.specs.declared.requests.Request.{Request}
use Rattle.pfs_exec.specs.declared.requests.Request.TheVariants as requests
use Rattle.pfs_law_plain.specs.LineSteps.{numbers_in}

-- a text that is refused is no action; what a SELECT reads and shows stands in no script
abbrev pub sql_deed : Administration → Request → Deed
sql_deed admin (requests.Refused error) = Refusing error
sql_deed admin (requests.Truncate what) = Truncating admin what
sql_deed admin (requests.Update update) = Changing admin (statements.Update update)
sql_deed admin (requests.Insert insert) = Changing admin (statements.Insert insert)
sql_deed admin (requests.Delete delete) = Changing admin (statements.Delete delete)
sql_deed admin (requests.Query select) = Querying [] 0
sql_deed admin (requests.Show select) = Showing admin 0

-- a line of a script, repeats written out, as a deed of its session, before this administration. No line that begins
-- or ends a repeat stands among lines that are written out: there no time passes
abbrev pub deed_on : Administration → BlockLine → Deed
deed_on admin (said.Wait class) = Starting (wait_on class None)
deed_on admin (said.TableWait class table) = Starting (wait_on class (Some table))
deed_on admin (said.Statement class digest) = Starting (statement_on class digest)
deed_on admin (said.Transaction access) = Starting (transaction_on access)
deed_on admin (said.Stage class) = Staging (stage_on class)
deed_on admin said.StageEnd = StageEnding
deed_on admin (said.Spend time) = Spending time
deed_on admin said.End = Ending no_numbers
deed_on admin (said.EndStatement numbers) = Ending (numbers_in numbers)
deed_on admin said.Quit = Quitting admin
deed_on admin (said.Sql text) = sql_deed admin (request_of text)
deed_on admin (said.Repeat times) = Spending 0
deed_on admin said.Done = Spending 0

-- a deed as a line asks for it: without what a SELECT read, and how many rows it showed
abbrev pub bare : Deed → Deed
bare (Showing admin count) = Showing admin 0
bare (Querying readings count) = Querying [] 0
bare (Connecting admin user host) = Connecting admin user host
bare (Starting subject) = Starting subject
bare (Staging subject) = Staging subject
bare StageEnding = StageEnding
bare (Ending numbers) = Ending numbers
bare (Spending time) = Spending time
bare (Quitting admin) = Quitting admin
bare (Truncating admin what) = Truncating admin what
bare (Changing admin what) = Changing admin what
bare (Refusing error) = Refusing error
bare Closing = Closing

-- it is the next of these lines
pub record IsLine (line : BlockLine) (deed : Deed) : Type 0 where
  pub admin : Administration
  pub is : bare deed ≡ deed_on admin line

-- a deed is the next line, and the rest holds of those behind it; a connect, and the end of a block, is none
abbrev pub IsNext : List BlockLine → Deed → (List BlockLine → Type 0) → Type 0
IsNext lines (Connecting admin user host) rest = rest lines
IsNext lines Closing rest = rest lines
IsNext [] deed rest = ⊥
IsNext (line ∷ lines) deed rest = IsLine line deed × rest lines

-- a session's parts do these lines, one after another
abbrev pub AreDeeds : List BlockLine → List Part → Type 0
AreDeeds lines [] = lines ≡ []
AreDeeds lines (p ∷ ps) = IsNext lines p.deed (λ rest. AreDeeds rest ps)

-- of each session among those that run, whatever its store: where its parts do the lines of which these are the events,
-- its steps tell just the facts of these
abbrev pub SessionLaw : Type 0
SessionLaw = (stack : ℕ) (depths : ℕ → ℕ) (session : ℕ) (stints : List Stint) (lines : List BlockLine)
    (events : List Event) → AreStints stack depths stints → AreEvents lines events
    → AreDeeds lines (parts_by session stints)
    → AllFacts (λ index. facts_if (slice_get events index)) at_first (parts_by session stints)
