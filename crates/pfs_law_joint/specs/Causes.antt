-- Causes: why a call was held back, busy or late, and that a row which was read free stood so.
use Rattle.std.specs.Prelude.{ℕ, ◌≡◌, ◌≢◌, ◌⊎◌, ◌+◌, ◌*◌, ◌/◌, ◌%◌, ◌<◌, ◌≤◌, List, ◌++◌, slice_index}
use Rattle.pfs_rows.specs.declared.table.Seen.TheVariants.{Whole, Free}
use Rattle.pfs_rows.specs.declared.table.Seen.TheVariants as sees
use Rattle.pfs_levels.specs.declared.answers.Added.TheVariants.{Counted, Held}
use Rattle.pfs_levels.specs.declared.answers.RingPut.TheVariants.{Done, Busy, Late}
use Rattle.pfs_levels.specs.Calls.{Call, Adds, Rings, Reads, Loads, Draws, Takes, Puts, Frees, Sets, Enters, Leaves, Meets, after_in}
use Rattle.pfs_levels.specs.JointCalls.{count, changes_of, frees_at, all_calls}
use Rattle.pfs_levels.specs.CallOrder.{AllCalls, marks_of, all_marks, above, published, released, top_in}
use Rattle.pfs_levels.specs.CallOrder.{IsOthers as IsAnothers}
use Rattle.pfs_law_joint.specs.Phases.{IsShared, HaveEnded, AreWhole, Moment, own_of, phase_of, others_of, WereDone}

-- another actor of the phase published the row next, or it was released there by whomever
abbrev pub IsOthers : List (List Call) → Moment → ℕ → ℕ → Type 0
IsOthers before m row version = (0 < published (all_marks (others_of m)) row (version + 1))
    ⊎ (0 < released (all_marks (phase_of m ++ before)) row version)

-- so it is where all marks, and those of the actor itself, say that it was another's
abbrev pub OthersLaw : Type 0
OthersLaw = (flags : List ℕ) (before : List (List Call)) (m : Moment) (row version : ℕ)
    → (shared : IsShared flags before (phase_of m)) → HaveEnded before → AllCalls AreWhole (phase_of m)
    → 0 < row → count (changes_of (all_calls before)) row ≤ version
    → IsAnothers shared.marks (marks_of (own_of m)) row version → IsOthers before m row version

-- Two lock words, in an order that one row can show, at versions that the row had by the phase's end and that are not
-- below what the actor knew. Each version above the first up to the second was made by another actor of the phase; a
-- dirty word was in another's hand; and a second that is free was released there
pub record WasOthers (before : List (List Call)) (m : Moment) (done row first second : ℕ) : Type 0 where
  pub states : (first % 4 < 3) × (second % 4 < 3)
  pub order : ((first % 4 ≡ 1) × (second ≡ first))
      ⊎ ((second ≢ first) × (first / 4 ≤ second / 4) × (first / 4 ≡ second / 4 → second % 4 ≢ 2))
  pub had : second / 4 ≤ count (changes_of (all_calls (phase_of m ++ before))) row
  pub began : count (changes_of (all_calls before)) row ≤ first / 4
  pub own : top_in m.earlier row ≤ first / 4
  pub given : above (all_marks (phase_of m ++ before)) row (first / 4) done ≡ 0
  pub between : (version : ℕ) → first / 4 < version → version ≤ second / 4
      → 0 < published (all_marks (others_of m)) row version
  pub first_dirty : first % 4 ≡ 1 → IsOthers before m row (first / 4)
  pub second_dirty : second % 4 ≡ 1 → IsOthers before m row (second / 4)
  pub second_free : second % 4 ≡ 0 → 0 < released (all_marks (phase_of m ++ before)) row (second / 4)

-- a place held a greater ticket at this version, which it had, not below what stood as the phase began, what the actor
-- named there and what the actions gave that it knew as ended
pub record WasLate (content : ℕ → ℕ → List ℕ) (before : List (List Call)) (m : Moment) (done row ticket version : ℕ)
    : Type 0 where
  pub had : version ≤ count (changes_of (all_calls (phase_of m ++ before))) row
  pub holds : slice_index (content row version) 15 ≡ ticket + 1
  pub began : count (changes_of (all_calls before)) row ≤ version
  pub own : top_in m.earlier row ≤ version
  pub given : above (all_marks (phase_of m ++ before)) row version done ≡ 0

-- a row that was read free was released at that version or opened free, not below what stood as the phase began, what
-- the actor named and what the actions gave that it knew as ended
pub record WasFree (before : List (List Call)) (m : Moment) (done row word : ℕ) : Type 0 where
  pub version : ℕ
  pub word_is : word ≡ 4 * version
  pub stood : 0 < frees_at (changes_of (all_calls (phase_of m ++ before))) row version
  pub began : count (changes_of (all_calls before)) row ≤ version
  pub own : top_in m.earlier row ≤ version
  pub given : 0 < row → above (all_marks (phase_of m ++ before)) row version done ≡ 0

abbrev pub HasCause : (ℕ → ℕ → List ℕ) → List (List Call) → Moment → ℕ → Call → Type 0
HasCause content before m done (Adds at amount (Held row first second)) =
    0 < row → WasOthers before m done row first second
HasCause content before m done (Adds at amount (Counted row version)) = Unit {0}
HasCause content before m done (Rings row put (Busy first second)) =
    0 < row → WasOthers before m done row first second
HasCause content before m done (Rings row put (Late ticket version)) =
    0 < row → WasLate content before m done row ticket version
HasCause content before m done (Rings row put (Done version)) = Unit {0}
HasCause content before m done (Reads row (sees.Busy first second)) =
    0 < row → WasOthers before m done row first second
HasCause content before m done (Reads row (Free word)) = WasFree before m done row word
HasCause content before m done (Reads row (Whole version found)) = Unit {0}
HasCause content before m done (Loads at version flags) = Unit {0}
HasCause content before m done (Draws kind ticket) = Unit {0}
HasCause content before m done (Meets versions) = Unit {0}
HasCause content before m done (Takes row version found) = Unit {0}
HasCause content before m done (Puts row put version) = Unit {0}
HasCause content before m done (Frees row version) = Unit {0}
HasCause content before m done (Sets at flags version) = Unit {0}
HasCause content before m done (Enters label labels) = Unit {0}
HasCause content before m done Leaves = Unit {0}

-- of each call of a phase
abbrev pub CausesLaw : Type 0
CausesLaw = (flags : List ℕ) (before : List (List Call)) (m : Moment) (done : ℕ)
    → (shared : IsShared flags before (phase_of m)) → HaveEnded before → AllCalls AreWhole (phase_of m)
    → WereDone before m.earlier done → HasCause shared.content before m done m.call
