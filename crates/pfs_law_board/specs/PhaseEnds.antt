-- What the root of a board that keeps a desk knows at the ends of a run's phases, and what that makes of the calls of
-- the phases' actors.
use Rattle.std.specs.Prelude.{ℕ, ◌≡◌, ◌⊎◌, ◌<◌, ◌≤◌, List, [], ◌∷◌, ◌++◌, length, slice_index}
use Rattle.atomic_table.specs.Seated.{TableId}
use Rattle.pfs_admin.specs.AdministrationStates.{State}
use Rattle.pfs_admin.specs.OpeningState.{opening_flags}
use Rattle.pfs_admin.specs.declared.changes.Change.{Change}
use Rattle.pfs_board.specs.History.{Each, labels_of}
use Rattle.pfs_board.specs.Knowledge.{held}
use Rattle.pfs_board.specs.WholeSeats.{History}
use Rattle.pfs_board.specs.declared.view.Label.{Label}
use Rattle.pfs_board.specs.declared.view.View.{View}
use Rattle.pfs_board_admin.specs.Desks.{IsDesk}
use Rattle.pfs_board_admin.specs.LabelWords.{version_after, AllKeepWords}
use Rattle.pfs_board_store.specs.RootActors.{AreGathered, Worked, calls_of_all}
use Rattle.pfs_board_store.specs.RootLaws.{IsRunsBoard}
use Rattle.pfs_classes.specs.declared.setting.Setting.{Setting}
use Rattle.pfs_law_joint.specs.Phases.{IsShared}
use Rattle.pfs_levels.specs.CallOrder.{AllCalls}
use Rattle.pfs_levels.specs.Calls.{Call, Reads, Loads, Meets, action_in}
use Rattle.pfs_matching.specs.ObjectRules.{opening_objects}
use Rattle.pfs_switches.specs.Knowledge.{met}
use Rattle.pfs_switches.specs.OpeningWords.{opening_words}
use Rattle.pfs_switches.specs.SeatViews.{Known}
use Rattle.pfs_switches.specs.SharedKnowledge.{IsTold}
use Rattle.pfs_switches.specs.declared.view.View.{View as WordView}
use Rattle.pfs_tickets.specs.WholeSeats.{IsComplete}
use Rattle.pfs_tickets.specs.declared.view.View.{View as TicketView}

-- The root is alone, holds no row, has taken in these actors, newest first, was lent the desk, has met its writer, and
-- has told the tickets. Each actor kept to the words of its labels. A root that has split off none is told so of none
pub record PhaseEnd (setting : Setting) (change : Label → Change) (switches : TableId) (start : List ℕ)
    (actors : List Worked) : Type 0 where
  pub words : List ℕ
  pub seat : View
  pub known : WordView
  pub draws : TicketView
  pub gathered : AreGathered actors seat known draws
  pub empty : held seat.rows ≡ 0
  pub history : History start words seat
  pub admin : State
  pub pen : Known
  pub desk : IsDesk setting change switches (labels_of history.t.log) admin pen
  pub told : IsTold (opening_words (opening_flags setting opening_objects)) (met known pen.view) pen.view
  pub complete : IsComplete draws
  pub keep : AllCalls (AllKeepWords (version_after setting change)) (calls_of_all actors)

-- An actor whose seats were split off behind that end: behind all changes that the root had, with no word below the
-- writer's. It met the writer inside its actions alone
pub record BeganBehind (made : ℕ) (seen : List ℕ) (a : Worked) : Type 0 where
  pub base : a.start.board.base ≡ made
  pub words : (at : ℕ) → at < 160 → slice_index seen at ≤ slice_index a.start.words at
  pub inside : (more earlier : List Call) → (versions : List ℕ) → a.calls ≡ more ++ Meets versions ∷ earlier
      → 0 < action_in earlier

-- An actor that changed nothing: it read rows, loaded words and met their writer. So is the root itself, which is an
-- actor too
abbrev pub IsQuiet : List Call → Type 0
IsQuiet [] = Unit {0}
IsQuiet (Reads row seen ∷ calls) = IsQuiet calls
IsQuiet (Loads at version flags ∷ calls) = IsQuiet calls
IsQuiet (Meets versions ∷ calls) = IsQuiet calls
IsQuiet _ = ⊥

-- A phase: the actors whose seats were split off at its beginning, newest first; and what the root did itself between
-- the end of the phase before and that beginning, as actors
pub record Phase : Type 0 where
  pub actors : List Worked
  pub own : List Worked

-- all actors of phases that have ended, newest first
abbrev pub all_of : List Phase → List Worked
all_of [] = []
all_of (phase ∷ phases) = phase.actors ++ (phase.own ++ all_of phases)

-- a phase began behind an end that the root was told of those before, and it was told its own end
pub record IsEnded (setting : Setting) (change : Label → Change) (switches : TableId) (start : List ℕ)
    (before : List Worked) (phase : Phase) : Type 0 where
  pub first : PhaseEnd setting change switches start before
  pub last : PhaseEnd setting change switches start (phase.actors ++ (phase.own ++ before))
  pub own : AllCalls IsQuiet (calls_of_all phase.own)
  pub began : Each (BeganBehind (length first.seat.made) first.pen.view.seen) phase.actors

abbrev pub AreEnded : Setting → (Label → Change) → TableId → List ℕ → List Phase → Type 0
AreEnded setting change switches start [] = Unit {0}
AreEnded setting change switches start (phase ∷ phases) =
    IsEnded setting change switches start (all_of phases) phase × AreEnded setting change switches start phases

-- these actors are all of those but some that changed nothing, in their order
abbrev pub AreAllBut : List (List Call) → List (List Call) → Type 0
AreAllBut some [] = some ≡ []
AreAllBut [] (calls ∷ actors) = IsQuiet calls × AreAllBut [] actors
AreAllBut (one ∷ some) (calls ∷ actors) = ((one ≡ calls) × AreAllBut some actors)
    ⊎ (IsQuiet calls × AreAllBut (one ∷ some) actors)

-- the actors of each phase have one order of all changes in common with all of those before them, with or without those
-- that changed nothing
abbrev pub AllShared : List ℕ → List Phase → Type 0
AllShared flags [] = Unit {0}
AllShared flags (phase ∷ phases) = ((before : List (List Call))
    → AreAllBut before (calls_of_all (phase.own ++ all_of phases)) → IsShared flags before (calls_of_all phase.actors))
    × AllShared flags phases

-- of one phase, behind any actors whose end the root was told
abbrev pub PhaseLaw : Type 0
PhaseLaw = (setting : Setting) (change : Label → Change) (switches : TableId) (start : List ℕ) (before : List Worked)
    (phase : Phase) (some : List (List Call)) → IsRunsBoard start
    → IsEnded setting change switches start before phase → AreAllBut some (calls_of_all (phase.own ++ before))
    → IsShared (opening_flags setting opening_objects) some (calls_of_all phase.actors)

-- of any number of phases whose ends a root was told
abbrev pub SharedLaw : Type 0
SharedLaw = (setting : Setting) (change : Label → Change) (switches : TableId) (start : List ℕ) (phases : List Phase)
    → IsRunsBoard start → AreEnded setting change switches start phases
    → AllShared (opening_flags setting opening_objects) phases
