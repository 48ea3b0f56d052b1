-- What the lines of a session make it do, and the parts of its journal that this gives.
use Rattle.std.specs.Prelude.{ℕ, ◌≡◌, ◌⊎◌, ◌<◌, Bool, true, false, ◌+◌, List, [], ◌∷◌, ◌++◌, Option, Some, None, IfSome}
use Rattle.pfs_admin.specs.ConnectionAsks.{placed_of}
use Rattle.pfs_admin.specs.AdministrationStates.{seat_at}
use Rattle.pfs_admin.specs.AdministrationStates.{State as Administration}
use Rattle.pfs_admin.specs.declared.changes.SetupStatement.{SetupStatement}
use Rattle.pfs_admin.specs.declared.changes.SetupStatement.TheVariants.{Update, Insert, Delete, Show}
use Rattle.pfs_reader.specs.Readings.{IsThere}
use Rattle.pfs_readsets.specs.ReadSets.{target_of}
use Rattle.pfs_rows.specs.declared.table.Reading.{Reading}
use Rattle.pfs_rows.specs.declared.truncations.Truncation.{Truncation}
use Rattle.pfs_event.specs.declared.entry.Entry.{Entry}
use Rattle.pfs_event.specs.declared.kind.EventKind.TheVariants.{Transaction}
use Rattle.pfs_levels.specs.Calls.{Call}
use Rattle.pfs_model.specs.declared.lines.Line.{Line}
use Rattle.pfs_model.specs.declared.lines.Line.TheVariants as lines
use Rattle.pfs_model.specs.declared.lines.Subject.{Subject}
use Rattle.pfs_session.specs.SessionStates.{State, nothing_held}
use Rattle.pfs_session.specs.Inquiries.{Looks, Remarks}
use Rattle.pfs_session.specs.declared.remarks.Remark.{Remark}
use Rattle.pfs_session.specs.declared.remarks.Remark.TheVariants.{Query, Rows, Refused}
use Rattle.pfs_session.specs.Turns.{Step, StartsEvent, EndsEvent, Spends, SettlesHeld, Connects, Quits, Truncates, Changes, Inquires, Turn, AreTurns, steps_of, turns_calls, turns_entries, stage_ends, stage_steps}
use Rattle.pfs_session.specs.declared.events.Numbers.{Numbers}

-- a line with what its session is told: of an action the administration as it stands before it, of an end a statement's
-- numbers, of a SELECT its readings and how many rows answer it, of a text that is refused its error
pub data Deed : Type 0 where
  Connecting : Administration → ℕ → ℕ → Deed
  Starting : Subject → Deed
  Staging : Subject → Deed
  StageEnding : Deed
  Ending : Numbers → Deed
  Spending : ℕ → Deed
  Quitting : Administration → Deed
  Truncating : Administration → Truncation → Deed
  Changing : Administration → SetupStatement → Deed
  Showing : Administration → ℕ → Deed
  Querying : List Reading → ℕ → Deed
  Refusing : ℕ → Deed
  Closing : Deed

-- the line as a journal goes by it
abbrev pub line_of : Deed → Line
line_of (Connecting admin user host) = lines.Connect
line_of (Starting subject) = lines.Start subject
line_of (Staging subject) = lines.Stage subject
line_of StageEnding = lines.StageEnd
line_of (Ending numbers) = lines.End
line_of (Spending time) = lines.Spend
line_of (Quitting admin) = lines.Quit
line_of (Truncating admin what) = lines.Change
line_of (Changing admin what) = lines.Change
line_of (Showing admin count) = lines.Show
line_of (Querying readings count) = lines.Query
line_of (Refusing error) = lines.Refused error
line_of Closing = lines.Close

-- the number of its action, by the administration; None of a line that is none
abbrev pub action_of : Deed → Option ℕ
action_of (Connecting admin user host) = Some (admin.actions + 1)
action_of (Quitting admin) = Some (admin.actions + 1)
action_of (Truncating admin what) = Some (admin.actions + 1)
action_of (Changing admin what) = Some (admin.actions + 1)
action_of (Showing admin count) = Some (admin.actions + 1)
action_of (Querying readings count) = None
action_of (Refusing error) = None
action_of (Starting subject) = None
action_of (Staging subject) = None
action_of StageEnding = None
action_of (Ending numbers) = None
action_of (Spending time) = None
action_of Closing = None

-- a reading after another; and a remark of the journal
abbrev pub looks : List Reading → List Step
looks [] = []
looks (reading ∷ readings) = Inquires (Looks reading) ∷ looks readings

abbrev pub remark : Remark → Step
remark what = Inquires (Remarks what)

-- the steps that a session does at it: a stage that is open ends before another starts, and before its statement ends;
-- what is held is settled before an action but a connect, and at the end of its block
abbrev pub steps_for : State → Deed → List Step
steps_for s (Connecting admin user host) = Connects admin user host ∷ []
steps_for s (Starting subject) = StartsEvent subject ∷ []
steps_for s (Staging subject) = stage_steps s.opened.events (Some subject)
steps_for s StageEnding = stage_steps s.opened.events None
steps_for s (Ending numbers) = stage_ends s.opened.events ++ EndsEvent numbers ∷ []
steps_for s (Spending time) = Spends time ∷ []
steps_for s (Quitting admin) = SettlesHeld ∷ Quits admin ∷ []
steps_for s (Truncating admin what) = SettlesHeld ∷ Truncates admin what ∷ []
steps_for s (Changing admin what) = SettlesHeld ∷ Changes admin what ∷ []
steps_for s (Showing admin count) = SettlesHeld ∷ Changes admin Show ∷ remark (Rows count) ∷ []
steps_for s (Querying readings count) = remark Query ∷ (looks readings ++ remark (Rows count) ∷ [])
steps_for s (Refusing error) = remark (Refused error) ∷ []
steps_for s Closing = SettlesHeld ∷ []

-- what a line did: its steps with their calls and entries
pub record Part : Type 0 where
  pub deed : Deed
  pub turns : List Turn

abbrev pub part_calls : Part → List Call
part_calls p = turns_calls p.turns

abbrev pub part_entries : Part → List Entry
part_entries p = turns_entries p.turns

-- newest first; parts stand in order
abbrev pub parts_calls : List Part → List Call
parts_calls [] = []
parts_calls (p ∷ ps) = parts_calls ps ++ part_calls p

pub record IsPart (s : State) (p : Part) : Type 0 where
  pub are_turns : AreTurns s p.turns
  pub steps_are : steps_of p.turns ≡ steps_for s p.deed

-- the cell of an event is that of its class, or, of a transaction, the last one
pub record IsSubject (subject : Subject) : Type 0 where
  pub cell : (class : ℕ) → subject.class ≡ Some class → (subject.cell ≡ class)
      ⊎ ((subject.cell ≡ 63) × (subject.kind ≡ Transaction))

-- a statement that is answered: any but a SELECT
abbrev pub IsReplied : SetupStatement → Type 0
IsReplied Show = ⊥
IsReplied (Update update) = Unit {0}
IsReplied (Insert insert) = Unit {0}
IsReplied (Delete delete) = Unit {0}

-- a reading is of a row or a word that is there
abbrev pub AreOfStore : List Reading → Type 0
AreOfStore [] = Unit {0}
AreOfStore (reading ∷ readings) = IsThere (target_of reading) × AreOfStore readings

-- what a line asks of its session. A session that connects has nothing open and holds nothing, and gets one of 32
-- slots; one that ends has nothing open; behind its end there is the end of its block alone
abbrev pub MayDo : Bool → State → Deed → Type 0
MayDo over s (Starting subject) = (over ≡ false) × IsSubject subject
MayDo over s (Staging subject) = (over ≡ false) × IsSubject subject
MayDo over s (Connecting admin user host) = (over ≡ false) × (s.opened.events ≡ []) × (s.held ≡ nothing_held)
    × IfSome (placed_of (seat_at admin s.number user host)).thread (λ n. n < 32)
MayDo over s StageEnding = over ≡ false
MayDo over s (Ending numbers) = over ≡ false
MayDo over s (Spending time) = over ≡ false
MayDo over s (Quitting admin) = (over ≡ false) × (s.opened.events ≡ [])
MayDo over s (Truncating admin what) = over ≡ false
MayDo over s (Changing admin what) = (over ≡ false) × IsReplied what
MayDo over s (Showing admin count) = over ≡ false
MayDo over s (Querying readings count) = (over ≡ false) × AreOfStore readings
MayDo over s (Refusing error) = over ≡ false
MayDo over s Closing = Unit {0}

-- a session is over once it has ended
abbrev pub is_over : Bool → Deed → Bool
is_over over (Quitting admin) = true
is_over over (Truncating admin what) = over
is_over over (Changing admin what) = over
is_over over (Showing admin count) = over
is_over over (Querying readings count) = over
is_over over (Refusing error) = over
is_over over (Connecting admin user host) = over
is_over over (Starting subject) = over
is_over over (Staging subject) = over
is_over over StageEnding = over
is_over over (Ending numbers) = over
is_over over (Spending time) = over
is_over over Closing = over
