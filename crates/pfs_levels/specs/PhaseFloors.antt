-- Floors of a phase's beginning: what the actors of earlier phases left is below what later ones name.
use Rattle.std.specs.Prelude.{ℕ, ◌≡◌, ◌/◌, ◌<◌, ◌≤◌, List, [], ◌∷◌, slice_index}
use Rattle.pfs_rows.specs.declared.table.Seen.TheVariants.{Whole, Free}
use Rattle.pfs_rows.specs.declared.table.Seen.TheVariants as sees
use Rattle.pfs_levels.specs.declared.answers.Added.TheVariants.{Counted, Held}
use Rattle.pfs_levels.specs.declared.answers.RingPut.TheVariants.{Done, Busy, Late}
use Rattle.pfs_levels.specs.Calls.{Call, Adds, Rings, Reads, Loads, Draws, Takes, Puts, Frees, Sets, Enters, Leaves, Meets}
use Rattle.pfs_levels.specs.JointCalls.{At, changes_of, count, Setting, sets_of, word_version, frees_at, all_calls}
use Rattle.pfs_levels.specs.CallOrder.{AllCalls}

-- a call names a version that its row or word had by then, and a change one above it; a row that stood free is read
-- at one above that
abbrev pub IsSince : List At → List Setting → Call → Type 0
IsSince log sets (Adds row amount (Counted r k)) = count log r < k
IsSince log sets (Adds row amount (Held r first second)) = count log r ≤ first / 4
IsSince log sets (Rings row put (Done k)) = count log row < k
IsSince log sets (Rings row put (Busy first second)) = count log row ≤ first / 4
IsSince log sets (Rings row put (Late ticket k)) = count log row ≤ k
IsSince log sets (Reads row (Whole k found)) =
    (count log row ≤ k) × (0 < frees_at log row k → k ≡ count log row → ⊥)
IsSince log sets (Reads row (Free w)) = count log row ≤ w / 4
IsSince log sets (Reads row (sees.Busy first second)) = count log row ≤ first / 4
IsSince log sets (Loads at k flags) = word_version sets at ≤ k
IsSince log sets (Draws kind ticket) = Unit {0}
IsSince log sets (Meets versions) =
    (at : ℕ) → at < 160 → word_version sets at ≤ slice_index versions at
IsSince log sets (Takes row k found) = count log row ≤ k
IsSince log sets (Puts row put k) = count log row < k
IsSince log sets (Frees row k) = count log row ≤ k
IsSince log sets (Sets at to k) = word_version sets at < k
IsSince log sets (Enters label labels) = Unit {0}
IsSince log sets Leaves = Unit {0}

abbrev pub AreSince : List At → List Setting → List Call → Type 0
AreSince log sets [] = Unit {0}
AreSince log sets (call ∷ calls) = IsSince log sets call × AreSince log sets calls

-- the actors of a phase after those of the phases before it
abbrev pub AllSince : List (List Call) → List (List Call) → Type 0
AllSince before now =
    AllCalls (AreSince (changes_of (all_calls before)) (sets_of (all_calls before))) now
