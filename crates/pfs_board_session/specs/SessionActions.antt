-- A session's action over a board that keeps a desk, from its beginning to its end.
use Rattle.std.specs.Prelude.{ℕ, ◌≡◌, ◌≤◌, List, [], ◌∷◌, ◌++◌, None, Result, Ok, Err, IfOk, length}
use Rattle.pfs_admin.specs.declared.changes.Change.{Change}
use Rattle.pfs_admin.specs.declared.changes.SetupStatement.TheVariants.{Show}
use Rattle.pfs_admin.specs.Fold.{StandsFor}
use Rattle.pfs_admin.specs.AdministrationStates.{State as Administration}
use Rattle.pfs_law_plain.specs.Spells.{label_of}
use Rattle.pfs_board.specs.declared.view.Label.{Label}
use Rattle.pfs_classes.specs.declared.setting.Setting.{Setting}
use Rattle.pfs_board_admin.specs.LabelWords.{version_after, AllKeepWords}
use Rattle.pfs_exec.specs.Selections.{IsAnswer}
use Rattle.pfs_exec.specs.declared.query.Select.{Select}
use Rattle.pfs_levels.specs.Calls.{Call, Enters, Leaves, Meets, Opening, action_in}
use Rattle.pfs_levels.specs.Views.{Store}
use Rattle.pfs_session.specs.Inquiries.{Remarks}
use Rattle.pfs_session.specs.SessionStates.{Book}
use Rattle.pfs_session.specs.Turns.{Step, Turn, AreTurns, Changes, Inquires, SettlesHeld, state_after, turns_calls, turns_entries, steps_of}
use Rattle.pfs_session.specs.declared.remarks.Remark.TheVariants.{Rows}
use Rattle.pfs_setups.specs.HeldRows.{held_rows}
use Rattle.pfs_text.specs.declared.values.RowValue.{RowValue}

-- an actor that kept to the words of its labels, and had no action under way, does so still
abbrev pub KeepsToWords : Setting → (Label → Change) → List Call → List Call → Type 0
KeepsToWords setting change calls more = action_in calls ≡ 0 → AllKeepWords (version_after setting change) calls
    → AllKeepWords (version_after setting change) more

-- the calls of one action, newest first, with what its beginning and its meet tell, behind those before it
abbrev pub action_calls : Label → List Label → List ℕ → List Call → List Call → List Call
action_calls label labels seen its calls = Leaves ∷ (its ++ Meets seen ∷ Enters label labels ∷ calls)

-- These calls led to an actor, and one action more led on from there: it found the labels of those before it, for which
-- this administration stands, met the writer, made these calls and no other, and was ended
pub record HasLed (setting : Setting) (change : Label → Change) (label : Label) (admin : Administration)
    (its : List Call) (start : Opening) (calls : List Call) (now : Opening → List Call → Type 0) : Type 0 where
  pub labels : List Label
  pub stands : StandsFor setting change labels admin
  pub seen : List ℕ
  pub reached : now start (action_calls label labels seen its calls)
  pub keeps : KeepsToWords setting change calls (action_calls label labels seen its calls)

-- A session did an action of its next label, and nothing else: of the administration that it found it did these steps,
-- and it wrote just their entries. Whatever calls had led to its actor, those of the steps led on from there. Which
-- administration it was, and what was done, doesn't go by those calls
pub record HasActed (setting : Setting) (change : Label → Change) (steps : Administration → List Step) (old new : Book)
    (was now : Opening → List Call → Type 0) : Type 0 where
  pub admin : Administration
  pub turns : List Turn
  pub are_turns : AreTurns old.state turns
  pub steps_are : steps_of turns ≡ steps admin
  pub state_is : new.state ≡ state_after old.state turns
  pub entries_are : new.journal.entries ≡ old.journal.entries ++ turns_entries turns
  pub leads : (start : Opening) → (calls : List Call) → was start calls
      → HasLed setting change (label_of old.state) admin (turns_calls turns) start calls now

-- the steps of a SELECT on rows that the administration holds: how many answer is told where there was memory for them
abbrev pub shown_steps : {E : Type 0} → Result (List (List RowValue)) E → Administration → List Step
shown_steps (Ok answer) admin = SettlesHeld ∷ Changes admin Show ∷ Inquires (Remarks (Rows (length answer))) ∷ []
shown_steps (Err fault) admin = SettlesHeld ∷ Changes admin Show ∷ []

-- and what answers it is of the rows of that administration
pub record HasShown {E : Type 0} (setting : Setting) (change : Label → Change) (query : Select)
    (answer : Result (List (List RowValue)) E) (old new : Book) (was now : Opening → List Call → Type 0) : Type 0 where
  pub acted : HasActed setting change (shown_steps answer) old new was now
  pub answered : IfOk answer (IsAnswer query (held_rows query.table acted.admin.actors acted.admin.objects))

-- between two actions: no row is in hand, and so many publications and entries are there to be used
pub record IsIdle (spent entries : ℕ) (store : Store) (session : Book) : Type 0 where
  pub hand : (r : ℕ) → store.hand r ≡ None
  pub left : spent ≤ store.left
  pub room : entries ≤ session.journal.room
