-- What a seat of the board has kept of its actor's looks at rows: the reads that it finished, and the words that it saw
-- besides. Each call has its own, newest first, and there are no others.
use Rattle.std.specs.Prelude.{ℕ, ◌≡◌, ◌+◌, ◌*◌, ◌/◌, ◌%◌, ◌<◌, ◌≤◌, ◌⊎◌, List, [], ◌∷◌, ◌++◌, slice_index}
use Rattle.pfs_board.specs.declared.view.Finished.{Finished}
use Rattle.pfs_board.specs.declared.view.Sight.{Sight}
use Rattle.pfs_board.specs.History.{Each}
use Rattle.pfs_levels.specs.Calls.{Call, Adds, Rings, Reads, Loads, Draws, Takes, Puts, Frees, Sets, Enters, Leaves, Meets, Start, action_in, after_in}
use Rattle.pfs_levels.specs.declared.answers.Added.TheVariants.{Counted, Held}
use Rattle.pfs_levels.specs.declared.answers.RingPut.TheVariants.{Done, Busy, Late}
use Rattle.pfs_rows.specs.declared.table.Seen.TheVariants.{Whole, Free}
use Rattle.pfs_rows.specs.declared.table.Seen.TheVariants as sees
use Rattle.pfs_board_store.specs.Ties.{IsSighted, IsFinished}

-- in the actor's action, or outside of one: these two words of the row, and nothing else
abbrev pub SawOnce : Start → List Call → ℕ → ℕ → ℕ → List Sight → Type 0
SawOnce start calls row first second sights =
    (x : Sight) × (sights ≡ x ∷ []) × IsSighted start row first second (action_in calls) (after_in calls) x

-- and the row whole, with such a content
abbrev pub ReadOnce : Start → List Call → ℕ → ℕ → (List ℕ → Type 0) → List Finished → Type 0
ReadOnce start calls row version P reads = (f : Finished) × (reads ≡ f ∷ [])
    × IsFinished start row version (action_in calls) (after_in calls) f × P f.content

-- what a read found from which an event is written on: the row free at this word, or whole with no greater ticket
abbrev pub HasFound : Start → List Call → ℕ → List ℕ → ℕ → List Finished → List Sight → Type 0
HasFound start calls row content word reads sights =
    ((word % 4 ≡ 0) × (reads ≡ []) × SawOnce start calls row word word sights)
    ⊎ ((version : ℕ) × (word ≡ 4 * version + 2)
    × ReadOnce start calls row version (λ found. slice_index found 15 ≤ slice_index content 15) reads
    × (sights ≡ []))

-- What a call looked at. What is held back or busy saw its two words in this call. An event for a place of the long
-- history reads the place first, and one that was written goes on from what it found; one that was busy then saw that
-- word and another. A take that waits saw words of the row any number of times
abbrev pub HasLooked : Start → List Call → Call → List Finished → List Sight → Type 0
HasLooked start calls (Adds row amount (Counted r version)) reads sights = (reads ≡ []) × (sights ≡ [])
HasLooked start calls (Adds row amount (Held r first second)) reads sights =
    (reads ≡ []) × SawOnce start calls r first second sights
HasLooked start calls (Rings row content (Done version)) reads sights =
    (row < 10242 → (reads ≡ []) × (sights ≡ []))
    × (10242 ≤ row → (word : ℕ) × (version ≡ word / 4 + 1) × HasFound start calls row content word reads sights)
HasLooked start calls (Rings row content (Busy first second)) reads sights = (x : Sight) × (before : List Sight)
    × (sights ≡ x ∷ before) × IsSighted start row first second (action_in calls) (after_in calls) x
    × (((reads ≡ []) × (before ≡ []))
    ⊎ ((10242 ≤ row) × HasFound start calls row content first reads before))
HasLooked start calls (Rings row content (Late ticket version)) reads sights =
    ReadOnce start calls row version (λ found. slice_index found 15 ≡ ticket + 1) reads × (sights ≡ [])
HasLooked start calls (Reads row (Whole version found)) reads sights =
    ReadOnce start calls row version (λ content. content ≡ found) reads × (sights ≡ [])
HasLooked start calls (Reads row (Free word)) reads sights = (reads ≡ []) × SawOnce start calls row word word sights
HasLooked start calls (Reads row (sees.Busy first second)) reads sights =
    (reads ≡ []) × SawOnce start calls row first second sights
HasLooked start calls (Takes row version found) reads sights = (reads ≡ [])
    × Each (λ (x : Sight). IsSighted start row x.first x.second (action_in calls) (after_in calls) x) sights
HasLooked start calls (Puts row content version) reads sights = (reads ≡ []) × (sights ≡ [])
HasLooked start calls (Frees row version) reads sights = (reads ≡ []) × (sights ≡ [])
HasLooked start calls (Loads at version flags) reads sights = (reads ≡ []) × (sights ≡ [])
HasLooked start calls (Draws kind ticket) reads sights = (reads ≡ []) × (sights ≡ [])
HasLooked start calls (Meets versions) reads sights = (reads ≡ []) × (sights ≡ [])
HasLooked start calls (Sets at flags version) reads sights = (reads ≡ []) × (sights ≡ [])
HasLooked start calls (Enters label labels) reads sights = (reads ≡ []) × (sights ≡ [])
HasLooked start calls Leaves reads sights = (reads ≡ []) × (sights ≡ [])

-- the lists of a seat that has made these calls
unfoldable pub AreLooked : Start → List Call → List Finished → List Sight → Type 0
AreLooked start [] reads sights = (reads ≡ []) × (sights ≡ [])
AreLooked start (call ∷ calls) reads sights = (mine : List Finished) × (rest : List Finished)
    × (reads ≡ mine ++ rest) × (seen : List Sight) × (others : List Sight) × (sights ≡ seen ++ others)
    × HasLooked start calls call mine seen × AreLooked start calls rest others

-- These are the lists of a seat that has made these calls, and has read the row since: it found what an event is
-- written on from
pub record HasReadOn (start : Start) (calls : List Call) (row : ℕ) (content : List ℕ) (word : ℕ)
    (reads : List Finished) (sights : List Sight) : Type 0 where
  pub mine : List Finished
  pub rest : List Finished
  pub reads_are : reads ≡ mine ++ rest
  pub seen : List Sight
  pub others : List Sight
  pub sights_are : sights ≡ seen ++ others
  pub found : HasFound start calls row content word mine seen
  pub looked : AreLooked start calls rest others
