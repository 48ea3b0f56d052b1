-- Floors: a call is above, or not below, all that its actor knew: what stood as its phase began, what its own calls
-- named before, and what the actions that it knew as ended gave and released. One rule for each kind of call.
use Rattle.std.specs.Prelude.{ℕ, ◌≡◌, ◌/◌, ◌<◌, ◌≤◌, List, ◌++◌, slice_index}
use Rattle.pfs_rows.specs.declared.table.Seen.TheVariants.{Whole, Free}
use Rattle.pfs_rows.specs.declared.table.Seen.TheVariants as sees
use Rattle.pfs_levels.specs.declared.answers.Added.TheVariants.{Counted, Held}
use Rattle.pfs_levels.specs.declared.answers.RingPut.TheVariants.{Done, Busy, Late}
use Rattle.pfs_levels.specs.Calls.{Call, Adds, Rings, Reads, Loads, Draws, Takes, Puts, Frees, Sets, Enters, Leaves, Meets}
use Rattle.pfs_levels.specs.JointCalls.{count, changes_of, sets_of, word_version, frees_at, all_calls}
use Rattle.pfs_levels.specs.CallOrder.{AllCalls, all_marks, all_word_marks, above, reaching, freed, top_in, top_word}
use Rattle.pfs_law_joint.specs.Phases.{IsShared, HaveEnded, AreWhole, Moment, phase_of, WereDone}

-- a change is above them, releases of ended actions among what they gave
pub record IsAbove (before : List (List Call)) (m : Moment) (done row version : ℕ) : Type 0 where
  pub began : count (changes_of (all_calls before)) row < version
  pub own : top_in m.earlier row < version
  pub given : reaching (all_marks (phase_of m ++ before)) row version done ≡ 0

pub record IsNotBelow (before : List (List Call)) (m : Moment) (done row version : ℕ) : Type 0 where
  pub began : count (changes_of (all_calls before)) row ≤ version
  pub own : top_in m.earlier row ≤ version
  pub given : above (all_marks (phase_of m ++ before)) row version done ≡ 0

-- what was read whole was not released there by an ended action, nor did it stand free there as the phase began
pub record IsUnreleased (before : List (List Call)) (m : Moment) (done row version : ℕ) : Type 0 where
  pub released : freed (all_marks (phase_of m ++ before)) row version done ≡ 0
  pub stood : 0 < frees_at (changes_of (all_calls before)) row version
      → version ≡ count (changes_of (all_calls before)) row → ⊥

-- nor is a row below them that was read free
pub record IsVacantAbove (before : List (List Call)) (m : Moment) (done row version : ℕ) : Type 0 where
  pub began : count (changes_of (all_calls before)) row ≤ version
  pub own : top_in m.earlier row ≤ version
  pub given : 0 < row → above (all_marks (phase_of m ++ before)) row version done ≡ 0

pub record IsSetAbove (before : List (List Call)) (m : Moment) (done word version : ℕ) : Type 0 where
  pub began : word_version (sets_of (all_calls before)) word < version
  pub own : top_word m.earlier word < version
  pub given : reaching (all_word_marks (phase_of m ++ before)) word version done ≡ 0

pub record IsLoadedAbove (before : List (List Call)) (m : Moment) (done word version : ℕ) : Type 0 where
  pub began : word_version (sets_of (all_calls before)) word ≤ version
  pub own : top_word m.earlier word ≤ version
  pub given : above (all_word_marks (phase_of m ++ before)) word version done ≡ 0

-- what was held back, busy or late has its floor in its cause
abbrev pub Keeps : List (List Call) → Moment → ℕ → Call → Type 0
Keeps before m done (Adds at amount (Counted row version)) = 0 < row → IsAbove before m done row version
Keeps before m done (Adds at amount (Held row first second)) = Unit {0}
Keeps before m done (Rings row content (Done version)) = 0 < row → IsAbove before m done row version
Keeps before m done (Rings row content (Busy first second)) = Unit {0}
Keeps before m done (Rings row content (Late ticket version)) = Unit {0}
Keeps before m done (Reads row (Whole version found)) =
    0 < row → IsNotBelow before m done row version × IsUnreleased before m done row version
Keeps before m done (Reads row (Free w)) = IsVacantAbove before m done row (w / 4)
Keeps before m done (Reads row (sees.Busy first second)) = Unit {0}
Keeps before m done (Loads word version flags) = IsLoadedAbove before m done word version
Keeps before m done (Draws kind ticket) = Unit {0}
Keeps before m done (Meets versions) =
    (word : ℕ) → word < 160 → IsLoadedAbove before m done word (slice_index versions word)
Keeps before m done (Takes row version found) = 0 < row → IsNotBelow before m done row version
Keeps before m done (Puts row content version) = 0 < row → IsAbove before m done row version
Keeps before m done (Frees row version) = 0 < row → IsNotBelow before m done row version
Keeps before m done (Sets word flags version) = IsSetAbove before m done word version
Keeps before m done (Enters label labels) = Unit {0}
Keeps before m done Leaves = Unit {0}

-- of each call of a phase, and of any actions that its actor knew as ended
abbrev pub FloorsLaw : Type 0
FloorsLaw = (flags : List ℕ) (before : List (List Call)) (m : Moment) (done : ℕ) → IsShared flags before (phase_of m)
    → HaveEnded before → AllCalls AreWhole (phase_of m) → WereDone before m.earlier done → Keeps before m done m.call
