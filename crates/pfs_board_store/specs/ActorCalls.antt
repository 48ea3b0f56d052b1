-- Which calls an actor's seats have made.
use Rattle.std.specs.Prelude.{ℕ, ◌≡◌, ◌<◌, ◌≤◌, true, false, List, [], ◌∷◌, Option, Some, None, slice_index}
use Rattle.atomic_table.specs.Seated.{TableId}
use Rattle.pfs_board.specs.declared.view.Label.{Label}
use Rattle.pfs_board.specs.declared.view.Stage.{Stage}
use Rattle.pfs_board.specs.declared.view.Stage.TheVariants.{Idle, Reading, Holding}
use Rattle.pfs_board.specs.declared.view.View.{View}
use Rattle.pfs_board.specs.SeatViews.{Known as BoardKnown}
use Rattle.pfs_switches.specs.SeatViews.{Known as WordsKnown}
use Rattle.pfs_tickets.specs.SeatViews.{Known as TicketsKnown}
use Rattle.pfs_board.specs.Knowledge.{corner, is_holding, found_in, stake, no_label}
use Rattle.pfs_levels.specs.Calls.{Call, Enters, Leaves, Adds, Rings, Reads, Loads, Draws, Takes, Puts, Frees, Sets, Meets, Start, Opening, action_in, after_in, label_in, hand_in}
use Rattle.pfs_levels.specs.CallOrder.{top_in, top_word, AreRising, AreThere}
use Rattle.pfs_board_store.specs.Looks.{AreLooked}
use Rattle.pfs_board_store.specs.Ties.{IsTied, AreLoaded, AreMet, AreDrawn, AreShown, last_found}
use Rattle.pfs_switches.specs.declared.view.View.{View as WordView}
use Rattle.pfs_switches.specs.OpeningWords.{opening_words}
use Rattle.pfs_tickets.specs.declared.view.View.{View as TicketView}
use Rattle.pfs_tickets.specs.Knowledge.{stake as all_of}

-- the version at which a row in hand was taken
abbrev pub in_hand : Stage → Option ℕ
in_hand (Holding k found put) = Some k
in_hand Idle = None
in_hand (Reading k xs) = None

-- the labels that the actor's newest action found
abbrev pub labels_in : List Call → List Label
labels_in [] = []
labels_in (Enters label labels ∷ calls) = labels
labels_in (Adds row amount answer ∷ calls) = labels_in calls
labels_in (Rings row content answer ∷ calls) = labels_in calls
labels_in (Reads row seen ∷ calls) = labels_in calls
labels_in (Loads at version flags ∷ calls) = labels_in calls
labels_in (Draws kind ticket ∷ calls) = labels_in calls
labels_in (Meets versions ∷ calls) = labels_in calls
labels_in (Takes row version found ∷ calls) = labels_in calls
labels_in (Puts row content version ∷ calls) = labels_in calls
labels_in (Frees row version ∷ calls) = labels_in calls
labels_in (Sets at flags version ∷ calls) = labels_in calls
labels_in (Leaves ∷ calls) = labels_in calls

-- What the calls tell of a seat of the board, and it of them. What a row in hand held is what its last take found; no
-- call named a version above what the seat saw
pub record OnBoard (start : Start) (calls : List Call) (v : View) : Type 0 where
  pub number_is : v.number ≡ start.number
  pub base_is : v.base ≡ start.base
  pub stake_is : stake v ≡ start.stake
  pub tied : IsTied start calls v.made
  pub shown : AreShown start v.reads v.sights v.entered calls
  pub taken : (row : ℕ) → 0 < row → is_holding (corner v row).stage ≡ true
      → found_in (corner v row).stage ≡ last_found calls row
  pub hand : (row : ℕ) → 0 < row → in_hand (corner v row).stage ≡ hand_in calls row
  pub action : v.action ≡ action_in calls
  pub after : v.after ≡ after_in calls
  pub label : v.label ≡ label_in calls
  pub labels : 0 < action_in calls → v.labels ≡ labels_in calls
  pub seen : (row : ℕ) → top_in calls row ≤ (corner v row).seen

-- the same of a seat of the setup words, which began with the versions that the root had seen
abbrev pub OnWords : Opening → List Call → WordView → Type 0
OnWords start calls w = (w.number ≡ start.switches.number) × (w.start ≡ opening_words start.flags)
    × (w.first ≡ start.words)
    × AreLoaded start calls w.loads × ((word : ℕ) → top_word calls word ≤ slice_index w.seen word)
    × AreMet start.switches calls w.meets

-- and of a seat of the tickets
abbrev pub OnTickets : Start → List Call → TicketView → Type 0
OnTickets start calls t = (t.number ≡ start.number) × (all_of t ≡ start.stake) × AreDrawn start calls t.tickets

-- An actor's seats have made these calls, from this opening. No call is below an earlier one of its row, word or kind
pub record IsReached (start : Opening) (calls : List Call) (v : View) (w : WordView) (t : TicketView) : Type 0 where
  pub board : OnBoard start.board calls v
  pub words : OnWords start calls w
  pub tickets : OnTickets start.tickets calls t
  pub rising : AreRising calls
  pub there : AreThere calls

-- outside an action the kept value isn't out with the seat
abbrev pub IsIn : View → Type 0
IsIn v = v.action ≡ 0 → v.lent ≡ false

-- a seat that has made and read nothing yet, and is in no action
pub record IsFresh (v : View) : Type 0 where
  pub action : v.action ≡ 0
  pub after : v.after ≡ 0
  pub label : v.label ≡ no_label
  pub lent : v.lent ≡ false
  pub idle : (r : ℕ) → (corner v r).stage ≡ Idle
  pub made : v.made ≡ []
  pub reads : v.reads ≡ []
  pub sights : v.sights ≡ []

-- where an actor with these seats begins
abbrev pub opening_of : TableId → TableId → TableId → List ℕ → View → WordView → TicketView → Opening
opening_of board switches tickets flags v w t = record {
  flags = flags;
  board = record { table = board; number = v.number; stake = stake v; base = v.base };
  switches = record { table = switches; number = w.number; stake = 0; base = 0 };
  tickets = record { table = tickets; number = t.number; stake = all_of t; base = 0 };
  words = w.first;
}

-- what an actor's seats tell, once it holds nothing: where they are, what they keep for good, and which calls they made
pub record HasMade (start : Opening) (calls : List Call) (b : BoardKnown) (w : WordsKnown) (t : TicketsKnown) : Type 0
  where
    pub board : b.board ≡ start.board.table
    pub switches : w.switches ≡ start.switches.table
    pub tickets : t.tickets ≡ start.tickets.table
    pub made : IsReached start calls b.view w.view t.view
    pub looked : AreLooked start.board calls b.view.reads b.view.sights
    pub outside : action_in calls ≡ 0
    pub empty : (row : ℕ) → 0 < row → hand_in calls row ≡ None
