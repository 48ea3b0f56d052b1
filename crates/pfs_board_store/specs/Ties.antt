-- The calls of an actor, and what its seats have kept of them, all newest first.
use Rattle.std.specs.Prelude.{ℕ, ◌≡◌, ◌+◌, ◌*◌, ◌/◌, ◌%◌, ◌≢◌, length, ◌<◌, ◌≤◌, ◌==◌, ◌⊎◌, Bool, true, false, if◌then◌else◌, List, [], ◌∷◌, Some, None, slice_index}
use Rattle.pfs_board.specs.declared.view.Change.{Change}
use Rattle.pfs_board.specs.declared.view.Entered.{Entered}
use Rattle.pfs_board.specs.declared.view.Finished.{Finished}
use Rattle.pfs_board.specs.declared.view.Sight.{Sight}
use Rattle.pfs_board.specs.History.{Some_of}
use Rattle.pfs_levels.specs.Calls.{Call, Adds, Rings, Reads, Loads, Draws, Takes, Puts, Frees, Sets, Enters, Leaves, Meets, Start, Opening, IsRow, action_in, after_in, label_in, hand_in}
use Rattle.pfs_levels.specs.RowWords.{merged}
use Rattle.pfs_levels.specs.declared.answers.Added.TheVariants.{Counted, Held}
use Rattle.pfs_levels.specs.declared.answers.RingPut.TheVariants.{Done, Busy, Late}
use Rattle.pfs_rows.specs.declared.table.Seen.TheVariants.{Whole, Free}
use Rattle.pfs_rows.specs.declared.table.Seen.TheVariants as sees
use Rattle.pfs_switches.specs.declared.view.Loaded.{Loaded}
use Rattle.pfs_switches.specs.declared.view.Met.{Met}
use Rattle.pfs_tickets.specs.declared.view.Drawn.{Drawn}

-- the change was made by the seat that began so, in this action or 0, and after these
pub record IsMade (start : Start) (action after row version : ℕ) (puts : Bool) (change : Change) : Type 0 where
  pub by_is : change.by ≡ start.number
  pub base_is : change.base ≡ start.base
  pub action_is : change.action ≡ action
  pub after_is : change.after ≡ after
  pub row_is : change.row ≡ row
  pub version_is : change.version ≡ version
  pub puts_is : change.puts ≡ puts

-- what the last take of a row found
abbrev pub last_found : List Call → ℕ → List ℕ
last_found [] row = []
last_found (Takes at version found ∷ calls) row = if at == row then found else last_found calls row
last_found (Adds at amount answer ∷ calls) row = last_found calls row
last_found (Rings at content answer ∷ calls) row = last_found calls row
last_found (Reads at seen ∷ calls) row = last_found calls row
last_found (Loads at version flags ∷ calls) row = last_found calls row
last_found (Draws kind ticket ∷ calls) row = last_found calls row
last_found (Meets versions ∷ calls) row = last_found calls row
last_found (Puts at content version ∷ calls) row = last_found calls row
last_found (Frees at version ∷ calls) row = last_found calls row
last_found (Sets at flags version ∷ calls) row = last_found calls row
last_found (Enters label labels ∷ calls) row = last_found calls row
last_found (Leaves ∷ calls) row = last_found calls row

-- The changes of the seat are the calls', in their order. An addition merges into what its take found; a put and a
-- release come of a row in hand, of which the change keeps what its take found; the end of an action publishes row 0
-- with its label
abbrev pub IsTied : Start → List Call → List Change → Type 0
IsTied start [] made = made ≡ []
IsTied start (Adds row amount (Counted r version) ∷ calls) [] = ⊥
IsTied start (Adds row amount (Counted r version) ∷ calls) (change ∷ made) = (0 < r)
    × IsMade start (action_in calls) (after_in calls) r version true change
    × (change.put ≡ merged change.found amount) × IsTied start calls made
IsTied start (Adds row amount (Held r first second) ∷ calls) made = IsTied start calls made
IsTied start (Rings row content (Done version) ∷ calls) [] = ⊥
IsTied start (Rings row content (Done version) ∷ calls) (change ∷ made) = (0 < row)
    × IsMade start (action_in calls) (after_in calls) row version true change
    × (change.put ≡ content) × IsTied start calls made
IsTied start (Rings row content (Busy first second) ∷ calls) made = IsTied start calls made
IsTied start (Rings row content (Late ticket version) ∷ calls) made = IsTied start calls made
IsTied start (Reads row seen ∷ calls) made = IsTied start calls made
IsTied start (Loads at version flags ∷ calls) made = IsTied start calls made
IsTied start (Draws kind ticket ∷ calls) made = IsTied start calls made
IsTied start (Meets versions ∷ calls) made = IsTied start calls made
IsTied start (Takes row version found ∷ calls) made = (0 < row) × (hand_in calls row ≡ None) × IsTied start calls made
IsTied start (Puts row content version ∷ calls) [] = ⊥
IsTied start (Puts row content version ∷ calls) (change ∷ made) = (0 < row)
    × IsMade start (action_in calls) (after_in calls) row version true change
    × ((change.put ≡ content) × (change.found ≡ last_found calls row))
    × ((k : ℕ) × (hand_in calls row ≡ Some k) × (version ≡ k + 1)) × IsTied start calls made
IsTied start (Frees row version ∷ calls) [] = ⊥
IsTied start (Frees row version ∷ calls) (change ∷ made) = (0 < row)
    × IsMade start (action_in calls) (after_in calls) row version false change
    × (change.found ≡ last_found calls row) × (hand_in calls row ≡ Some version) × IsTied start calls made
IsTied start (Sets at flags version ∷ calls) made = (0 < action_in calls) × IsTied start calls made
IsTied start (Enters label labels ∷ calls) made = IsTied start calls made
IsTied start (Leaves ∷ calls) [] = ⊥
IsTied start (Leaves ∷ calls) (change ∷ made) = (0 < action_in calls)
    × IsMade start (action_in calls) (after_in calls) 0 (action_in calls) true change
    × (change.label ≡ label_in calls) × IsTied start calls made

-- the seat's loads of words are those of the calls, in their order; behind each set stands a load of what it set
pub record IsLoad (start : Opening) (word version flags : ℕ) (load : Loaded) : Type 0 where
  pub by_is : load.by ≡ start.switches.number
  pub first_is : load.first ≡ slice_index start.words word
  pub word_is : load.word ≡ word
  pub version_is : load.version ≡ version
  pub flags_is : load.flags ≡ flags

abbrev pub AreLoaded : Opening → List Call → List Loaded → Type 0
AreLoaded start [] loads = loads ≡ []
AreLoaded start (Loads at version flags ∷ calls) [] = ⊥
AreLoaded start (Loads at version flags ∷ calls) (load ∷ loads) = IsLoad start at version flags load
    × AreLoaded start calls loads
AreLoaded start (Sets at flags version ∷ calls) [] = ⊥
AreLoaded start (Sets at flags version ∷ calls) (load ∷ loads) = IsLoad start at version flags load
    × AreLoaded start calls loads
AreLoaded start (Adds row amount answer ∷ calls) loads = AreLoaded start calls loads
AreLoaded start (Rings row content answer ∷ calls) loads = AreLoaded start calls loads
AreLoaded start (Reads row seen ∷ calls) loads = AreLoaded start calls loads
AreLoaded start (Draws kind ticket ∷ calls) loads = AreLoaded start calls loads
AreLoaded start (Meets versions ∷ calls) loads = AreLoaded start calls loads
AreLoaded start (Takes row version found ∷ calls) loads = AreLoaded start calls loads
AreLoaded start (Puts row content version ∷ calls) loads = AreLoaded start calls loads
AreLoaded start (Frees row version ∷ calls) loads = AreLoaded start calls loads
AreLoaded start (Enters label labels ∷ calls) loads = AreLoaded start calls loads
AreLoaded start (Leaves ∷ calls) loads = AreLoaded start calls loads

-- The seat's meets with the writer are those of the calls, in their order, each with the versions that it brought. A
-- set met the writer before, when the word was one version lower, and behind it
abbrev pub AreMet : Start → List Call → List Met → Type 0
AreMet start [] meets = meets ≡ []
AreMet start (Meets versions ∷ calls) [] = ⊥
AreMet start (Meets versions ∷ calls) (m ∷ meets) = (m.by ≡ start.number) × (m.versions ≡ versions)
    × AreMet start calls meets
AreMet start (Sets at flags version ∷ calls) [] = ⊥
AreMet start (Sets at flags version ∷ calls) (m ∷ []) = ⊥
AreMet start (Sets at flags version ∷ calls) (behind ∷ before ∷ meets) = (behind.by ≡ start.number)
    × (slice_index behind.versions at ≡ version) × (before.by ≡ start.number)
    × (slice_index before.versions at + 1 ≡ version) × AreMet start calls meets
AreMet start (Adds row amount answer ∷ calls) meets = AreMet start calls meets
AreMet start (Rings row content answer ∷ calls) meets = AreMet start calls meets
AreMet start (Reads row seen ∷ calls) meets = AreMet start calls meets
AreMet start (Loads at version flags ∷ calls) meets = AreMet start calls meets
AreMet start (Draws kind ticket ∷ calls) meets = AreMet start calls meets
AreMet start (Takes row version found ∷ calls) meets = AreMet start calls meets
AreMet start (Puts row content version ∷ calls) meets = AreMet start calls meets
AreMet start (Frees row version ∷ calls) meets = AreMet start calls meets
AreMet start (Enters label labels ∷ calls) meets = AreMet start calls meets
AreMet start (Leaves ∷ calls) meets = AreMet start calls meets

-- the seat's tickets are those of the calls, in their order
abbrev pub AreDrawn : Start → List Call → List Drawn → Type 0
AreDrawn start [] tickets = tickets ≡ []
AreDrawn start (Draws kind ticket ∷ calls) [] = ⊥
AreDrawn start (Draws kind ticket ∷ calls) (drawn ∷ tickets) = (drawn.by ≡ start.number) × (drawn.kind ≡ kind)
    × (drawn.ticket ≡ ticket) × AreDrawn start calls tickets
AreDrawn start (Meets versions ∷ calls) tickets = AreDrawn start calls tickets
AreDrawn start (Adds row amount answer ∷ calls) tickets = AreDrawn start calls tickets
AreDrawn start (Rings row content answer ∷ calls) tickets = AreDrawn start calls tickets
AreDrawn start (Reads row seen ∷ calls) tickets = AreDrawn start calls tickets
AreDrawn start (Loads at version flags ∷ calls) tickets = AreDrawn start calls tickets
AreDrawn start (Takes row version found ∷ calls) tickets = AreDrawn start calls tickets
AreDrawn start (Puts row content version ∷ calls) tickets = AreDrawn start calls tickets
AreDrawn start (Frees row version ∷ calls) tickets = AreDrawn start calls tickets
AreDrawn start (Sets at flags version ∷ calls) tickets = AreDrawn start calls tickets
AreDrawn start (Enters label labels ∷ calls) tickets = AreDrawn start calls tickets
AreDrawn start (Leaves ∷ calls) tickets = AreDrawn start calls tickets

-- the seat saw these two words of the row, in this action or 0, and after these
pub record IsSighted (start : Start) (row first second action after : ℕ) (x : Sight) : Type 0 where
  pub by_is : x.by ≡ start.number
  pub base_is : x.base ≡ start.base
  pub row_is : x.row ≡ row
  pub first_is : x.first ≡ first
  pub second_is : x.second ≡ second
  pub action_is : x.action ≡ action
  pub after_is : x.after ≡ after

-- the seat read the row whole at this version
pub record IsFinished (start : Start) (row version action after : ℕ) (f : Finished) : Type 0 where
  pub by_is : f.by ≡ start.number
  pub base_is : f.base ≡ start.base
  pub row_is : f.row ≡ row
  pub version_is : f.version ≡ version
  pub action_is : f.action ≡ action
  pub after_is : f.after ≡ after

-- what the seat found of a row that an event was written to in the long history, at the version before: free, or an
-- event with no greater ticket
abbrev pub WasOlder : Start → List Finished → List Sight → ℕ → ℕ → List ℕ → ℕ → ℕ → Type 0
WasOlder start reads sights row version content action after =
    Some_of (IsSighted start row (4 * version) (4 * version) action after) sights
    ⊎ Some_of (λ (f : Finished). IsFinished start row version action after f
    × (slice_index f.content 15 ≤ slice_index content 15)) reads

-- The two words show that the row was another's: a dirty one twice; or two that differ, of which the first was not
-- dirty. Both are lock words, the second at no lower version, and a row that was free isn't allocated again at its
-- version
abbrev pub AreAnothers : ℕ → ℕ → Type 0
AreAnothers first second = (((first % 4 ≡ 1) × (second ≡ first)) ⊎ ((first % 4 ≢ 1) × (second ≢ first)))
    × (first % 4 < 3) × (second % 4 < 3) × (first / 4 ≤ second / 4)
    × (first % 4 ≡ 0 → second % 4 ≡ 2 → first / 4 < second / 4)

-- the call named a row that it may, the two words show that it was another's, and the seat saw them
abbrev pub WasRefused : Start → List Sight → ℕ → ℕ → ℕ → ℕ → ℕ → Type 0
WasRefused start sights row first second action after = IsRow row × AreAnothers first second
    × Some_of (IsSighted start row first second action after) sights

-- what the seat has kept of a call that changed nothing, or of what let it change: a read, the words that it saw, or
-- the labels that an action found
abbrev pub IsShown : Start → List Finished → List Sight → List Entered → List Call → Call → Type 0
IsShown start reads sights entered calls (Adds row amount (Held r first second)) =
    WasRefused start sights r first second (action_in calls) (after_in calls)
IsShown start reads sights entered calls (Adds row amount (Counted r version)) = Unit {0}
IsShown start reads sights entered calls (Rings row content (Done version)) = 10242 ≤ row
    → (n : ℕ) × (version ≡ n + 1) × WasOlder start reads sights row n content (action_in calls) (after_in calls)
IsShown start reads sights entered calls (Rings row content (Busy first second)) =
    WasRefused start sights row first second (action_in calls) (after_in calls)
IsShown start reads sights entered calls (Rings row content (Late ticket version)) = (10242 ≤ row)
    × Some_of (λ (f : Finished). IsFinished start row version (action_in calls) (after_in calls) f
    × (slice_index f.content 15 ≡ ticket + 1)) reads
IsShown start reads sights entered calls (Reads row (Whole version found)) = IsRow row
    × Some_of (λ (f : Finished). IsFinished start row version (action_in calls) (after_in calls) f
    × (f.content ≡ found)) reads
IsShown start reads sights entered calls (Reads row (Free word)) = (0 < row) × (word % 4 ≡ 0)
    × Some_of (IsSighted start row word word (action_in calls) (after_in calls)) sights
IsShown start reads sights entered calls (Reads row (sees.Busy first second)) =
    WasRefused start sights row first second (action_in calls) (after_in calls)
IsShown start reads sights entered calls (Enters label labels) =
    Some_of (λ (e : Entered). (e.by ≡ start.number) × (e.action ≡ length labels + 1) × (e.labels ≡ labels)) entered
IsShown start reads sights entered calls (Loads at version flags) = Unit {0}
IsShown start reads sights entered calls (Draws kind ticket) = Unit {0}
IsShown start reads sights entered calls (Meets versions) = Unit {0}
IsShown start reads sights entered calls (Takes row version found) = Unit {0}
IsShown start reads sights entered calls (Puts row content version) = Unit {0}
IsShown start reads sights entered calls (Frees row version) = Unit {0}
IsShown start reads sights entered calls (Sets at flags version) = Unit {0}
IsShown start reads sights entered calls Leaves = Unit {0}

abbrev pub AreShown : Start → List Finished → List Sight → List Entered → List Call → Type 0
AreShown start reads sights entered [] = Unit {0}
AreShown start reads sights entered (call ∷ calls) = IsShown start reads sights entered calls call
    × AreShown start reads sights entered calls
