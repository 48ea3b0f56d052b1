-- Actors of a later phase, whose seats were split off once the root had taken in those of the earlier ones.
use Rattle.std.specs.Prelude.{ℕ, ◌≡◌, ◌<◌, ◌≤◌, List, [], ◌∷◌, ◌++◌, length, slice_index}
use Rattle.pfs_board.specs.declared.view.View.{View}
use Rattle.pfs_board.specs.WholeSeats.{History}
use Rattle.pfs_levels.specs.Calls.{Call, Adds, Rings, Reads, Loads, Draws, Takes, Puts, Frees, Sets, Enters, Leaves, Meets}
use Rattle.pfs_levels.specs.JointCalls.{Setting, sets_of, word_version, all_calls}
use Rattle.pfs_levels.specs.CallOrder.{all_marks}
use Rattle.pfs_levels.specs.PhaseFloors.{AllSince}
use Rattle.pfs_board_store.specs.RootActors.{Worked, calls_of_all, AreGathered}
use Rattle.pfs_board_store.specs.RootLaws.{IsRunsBoard}
use Rattle.pfs_switches.specs.declared.view.View.{View as WordView}
use Rattle.pfs_switches.specs.SharedKnowledge.{IsTold}
use Rattle.pfs_switches.specs.Knowledge.{met}
use Rattle.pfs_switches.specs.OpeningWords.{opening_words}
use Rattle.pfs_tickets.specs.declared.view.View.{View as TicketView}

-- the writer was met at no versions below these sets, and each later set is above them: for the kept value to tell
abbrev pub IsMetSince : List Setting → Call → Type 0
IsMetSince sets (Meets versions) = (at : ℕ) → at < 160 → word_version sets at ≤ slice_index versions at
IsMetSince sets (Sets at flags version) = word_version sets at < version
IsMetSince sets (Adds row amount answer) = Unit {0}
IsMetSince sets (Rings row content answer) = Unit {0}
IsMetSince sets (Reads row seen) = Unit {0}
IsMetSince sets (Loads at version flags) = Unit {0}
IsMetSince sets (Draws kind ticket) = Unit {0}
IsMetSince sets (Takes row version found) = Unit {0}
IsMetSince sets (Puts row content version) = Unit {0}
IsMetSince sets (Frees row version) = Unit {0}
IsMetSince sets (Enters label labels) = Unit {0}
IsMetSince sets Leaves = Unit {0}

abbrev pub AllMetSince : List Setting → List Call → Type 0
AllMetSince sets [] = Unit {0}
AllMetSince sets (call ∷ calls) = IsMetSince sets call × AllMetSince sets calls

-- an actor that began behind all changes of these, and with no word below what they set
pub record IsLater (before : List (List Call)) (a : Worked) : Type 0 where
  pub base : a.start.board.base ≡ length (all_marks before)
  pub words : (at : ℕ) → word_version (sets_of (all_calls before)) at ≤ slice_index a.start.words at
  pub met : AllMetSince (sets_of (all_calls before)) a.calls

abbrev pub AllLater : List (List Call) → List Worked → Type 0
AllLater before [] = Unit {0}
AllLater before (a ∷ actors) = IsLater before a × AllLater before actors

-- what actors of a later phase named is not below what those of earlier ones left
abbrev pub SinceLaw : Type 0
SinceLaw = (flags start words : List ℕ) (v : View) (w pen : WordView) (t : TicketView) (before now : List Worked)
    → AreGathered (now ++ before) v w t → IsRunsBoard start → (h : History start words v)
    → IsTold (opening_words flags) (met w pen) pen → AllLater (calls_of_all before) now
    → AllSince (calls_of_all before) (calls_of_all now)
