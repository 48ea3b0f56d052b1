-- The root's own readings, while it is alone: each is of what stands.
use Rattle.std.specs.Prelude.{ℕ, ◌≡◌, ◌*◌, ◌+◌, ◌%◌, ◌<◌, ◌≤◌, true, List, [], ◌∷◌, ◌++◌, Some, length, slice_index}
use Rattle.pfs_board.specs.Knowledge.{IsWhole, corner}
use Rattle.pfs_board.specs.WholeSeats.{History}
use Rattle.pfs_board.specs.declared.view.Finished.{Finished}
use Rattle.pfs_board.specs.declared.view.Sight.{Sight}
use Rattle.pfs_board.specs.declared.view.View.{View}
use Rattle.pfs_board_store.specs.Looks.{AreLooked}
use Rattle.pfs_board_store.specs.Ties.{AreLoaded}
use Rattle.pfs_law_board.specs.EndReadings.{AreOfEnd}
use Rattle.pfs_levels.specs.CallOrder.{AreRising, AreThere, top_in, top_word}
use Rattle.pfs_levels.specs.Calls.{Call, IsRow, Loads, Opening, Reads}
use Rattle.pfs_rows.specs.declared.table.Seen.TheVariants.{Whole, Free}
use Rattle.pfs_rows.specs.declared.table.Seen.TheVariants as sees
use Rattle.pfs_switches.specs.declared.view.Loaded.{Loaded}
use Rattle.pfs_board_root.specs.Roots.{RootView}
use Rattle.pfs_board_root.specs.Settlements.{own_opening}

-- the call read what the seat saw of the row last, and nobody else can have changed it since, nor was it in a hand; or
-- it loaded a word
abbrev pub IsAsSeen : View → Call → Type 0
IsAsSeen v (Reads row (Whole k found)) = IsRow row × ((corner v row).fresh ≡ true)
    × ((corner v row).last ≡ Some (4 * k + 2))
IsAsSeen v (Reads row (Free word)) = IsRow row × ((corner v row).fresh ≡ true) × ((corner v row).last ≡ Some word)
    × (word % 4 ≡ 0)
IsAsSeen v (Reads row (sees.Busy first second)) = ⊥
IsAsSeen v (Loads at version flags) = at < 160
IsAsSeen v _ = ⊥

abbrev pub AllAsSeen : View → List Call → Type 0
AllAsSeen v [] = Unit {0}
AllAsSeen v (call ∷ calls) = IsAsSeen v call × AllAsSeen v calls

-- no word is loaded at a version below these
abbrev pub AreAbove : List ℕ → List Call → Type 0
AreAbove seen [] = Unit {0}
AreAbove seen (Loads at version flags ∷ calls) = (slice_index seen at ≤ version) × AreAbove seen calls
AreAbove seen (call ∷ calls) = AreAbove seen calls

-- what readings leave as it was
pub record HasOnlyRead (old new : RootView) : Type 0 where
  pub board : new.board ≡ old.board
  pub switches : new.switches ≡ old.switches
  pub tickets : new.tickets ≡ old.tickets
  pub start : new.seat.start ≡ old.seat.start
  pub number : new.seat.number ≡ old.seat.number
  pub base : new.seat.base ≡ old.seat.base
  pub seats : new.seat.seats ≡ old.seat.seats
  pub allowance : new.seat.allowance ≡ old.seat.allowance
  pub made : new.seat.made ≡ old.seat.made
  pub entered : new.seat.entered ≡ old.seat.entered
  pub words_number : new.words.number ≡ old.words.number
  pub words_seats : new.words.seats ≡ old.words.seats
  pub words_start : new.words.start ≡ old.words.start
  pub first : new.words.first ≡ old.words.first
  pub meets : new.words.meets ≡ old.words.meets
  pub seen : (word : ℕ) → slice_index old.words.seen word ≤ slice_index new.words.seen word
  pub draws : new.draws ≡ old.draws

-- These readings led the root from what it was to what it is, and no other call: its own reads, sights and loads are
-- theirs, in their order. None is below an earlier one
pub record HaveRead (flags : List ℕ) (was now : RootView) (start : Opening) (calls : List Call) : Type 0 where
  pub begun : start ≡ own_opening flags was
  pub alone : AllAsSeen now.seat calls
  pub reads : List Finished
  pub reads_are : now.seat.reads ≡ reads ++ was.seat.reads
  pub sights : List Sight
  pub sights_are : now.seat.sights ≡ sights ++ was.seat.sights
  pub looked : AreLooked start.board calls reads sights
  pub loads : List Loaded
  pub loads_are : now.words.loads ≡ loads ++ was.words.loads
  pub loaded : AreLoaded start calls loads
  pub rising : AreRising calls
  pub there : AreThere calls
  pub tops : (row : ℕ) → top_in calls row ≤ (corner now.seat row).seen
  pub words : (word : ℕ) → top_word calls word ≤ slice_index now.words.seen word
  pub above : AreAbove was.words.seen calls
  pub kept : HasOnlyRead was now

-- what the root is told of the board's history behind its readings: they are of what stands, and no word was loaded at
-- a version below the one that the root had seen as they began
abbrev pub LastLaw : Type 0
LastLaw = (flags : List ℕ) (was now : RootView) (start : Opening) (calls : List Call)
    → HaveRead flags was now start calls → (rows words : List ℕ) (h : History rows words now.seat) → IsWhole now.seat
    → 17 * 14242 ≤ length rows → AreOfEnd rows h.t.log was.words.seen calls
