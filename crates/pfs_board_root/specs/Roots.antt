-- The root of a run over a board, as contracts see it between its calls.
use Rattle.std.specs.Prelude.{ℕ, ◌≡◌, ◌+◌, ◌*◌, ◌<◌, ◌≤◌, false, List, [], ◌∷◌, ◌++◌, length, slice_index}
use Rattle.atomic_table.specs.Seated.{TableId}
use Rattle.pfs_admin.specs.declared.changes.Change.{Change}
use Rattle.pfs_board.specs.Knowledge.{held, spent as spent_seat, stake}
use Rattle.pfs_board.specs.SeatViews.{Known as BoardKnown, Place as BoardPlace}
use Rattle.pfs_board.specs.declared.view.Label.{Label}
use Rattle.pfs_board.specs.declared.view.View.{View}
use Rattle.pfs_board_admin.specs.LabelWords.{AllKeepWords, version_after}
use Rattle.pfs_board_session.specs.SeatedViews.{MeetsInside}
use Rattle.pfs_board_store.specs.RootActors.{AreGathered, Worked}
use Rattle.pfs_board_store.specs.declared.rows.Seats.{Seats}
use Rattle.pfs_classes.specs.declared.setting.Setting.{Setting}
use Rattle.pfs_levels.specs.CallOrder.{top_word}
use Rattle.pfs_levels.specs.Calls.{Call, Opening}
use Rattle.pfs_switches.specs.Knowledge.{spent as spent_words}
use Rattle.pfs_switches.specs.OpeningWords.{opening_words}
use Rattle.pfs_switches.specs.SeatViews.{Known as WordsKnown, Place as WordsPlace}
use Rattle.pfs_switches.specs.declared.view.View.{View as WordView}
use Rattle.pfs_tickets.specs.Knowledge.{spent as spent_draws, stake as all_of}
use Rattle.pfs_tickets.specs.SeatViews.{Known as TicketsKnown}
use Rattle.pfs_tickets.specs.declared.view.View.{View as TicketView}

-- which tables its seats are of, and what they know
pub record RootView : Type 0 where
  pub board : TableId
  pub switches : TableId
  pub tickets : TableId
  pub seat : View
  pub words : WordView
  pub draws : TicketView

abbrev pub root_view : BoardPlace → WordsPlace → TableId → BoardKnown → WordsKnown → TicketsKnown → RootView
root_view board switches tickets b w t = record {
  board = board.id;
  switches = switches.id;
  tickets = tickets;
  seat = b.view;
  words = w.view;
  draws = t.view;
}

-- a root by its seats alone
abbrev pub root_of : Seats → RootView
root_of seats = record {
  board = seats.board.board;
  switches = seats.switches.switches;
  tickets = seats.tickets.tickets;
  seat = seats.board.view;
  words = seats.switches.view;
  draws = seats.tickets.view;
}

-- Its seats are the first of these tables, which are a run's. It is in no action, has lent nothing and holds no row
pub record IsRooted (flags : List ℕ) (run : TableId) (board : BoardPlace) (switches : WordsPlace) (tickets : TableId)
    (b : BoardKnown) (w : WordsKnown) (t : TicketsKnown) : Type 0 where
  pub same_board : b.board ≡ board.id
  pub same_words : w.switches ≡ switches.id
  pub same_tickets : t.tickets ≡ tickets
  pub run_is : switches.id ≡ run
  pub wide : 17 * 14242 ≤ length board.start
  pub known : 161 ≤ length switches.start
  pub number : b.view.number ≡ 0
  pub words_number : w.view.number ≡ 0
  pub draws_number : t.view.number ≡ 0
  pub outside : b.view.action ≡ 0
  pub never : b.view.after ≡ 0
  pub home : b.view.lent ≡ false
  pub empty : held b.view.rows ≡ 0
  pub rows : 14242 ≤ length b.view.rows
  pub looks : 160 ≤ length w.view.seen
  pub opened : w.view.start ≡ opening_words flags

-- The n-th actor that is split off of it begins so, counted from 1: its seats have this number, and so much to use; the
-- root's changes are those before it, and it has seen of the words what the root has
abbrev pub opening_at : List ℕ → RootView → ℕ → ℕ → ℕ → Opening
opening_at flags r publications draws n = record {
  flags = flags;
  board = record { table = r.board; number = r.seat.seats + n; stake = publications; base = length r.seat.made };
  switches = record { table = r.switches; number = r.words.seats + n; stake = 0; base = 0 };
  tickets = record { table = r.tickets; number = r.draws.seats + n; stake = draws; base = 0 };
  words = r.words.seen;
}

-- so many actors were split off, each with so much to use: it kept the rest, and what it knew
pub record HasSplit (count publications draws : ℕ) (old new : RootView) : Type 0 where
  pub board : new.board ≡ old.board
  pub switches : new.switches ≡ old.switches
  pub tickets : new.tickets ≡ old.tickets
  pub start : new.seat.start ≡ old.seat.start
  pub number : new.seat.number ≡ old.seat.number
  pub seats : new.seat.seats ≡ old.seat.seats + count
  pub words_seats : new.words.seats ≡ old.words.seats + count
  pub draws_seats : new.draws.seats ≡ old.draws.seats + count
  pub allowance : new.seat.allowance + count * publications ≡ old.seat.allowance
  pub stake_is : stake new.seat + count * publications ≡ stake old.seat
  pub left : new.draws.draws + count * draws ≡ old.draws.draws
  pub draws_are : all_of new.draws + count * draws ≡ all_of old.draws
  pub made : new.seat.made ≡ old.seat.made
  pub seen : new.words.seen ≡ old.words.seen
  pub gathered : (actors : List Worked) → AreGathered actors old.seat old.words old.draws
      → AreGathered actors new.seat new.words new.draws

-- these calls led to an actor that the root may take in: its seats are of the root's tables
pub record IsKnown {A : Type 0} (r : RootView) (led : A → Opening → List Call → Type 0) (w : Worked) (a : A) : Type 0
  where
    pub board : w.start.board.table ≡ r.board
    pub switches : w.start.switches.table ≡ r.switches
    pub tickets : w.start.tickets.table ≡ r.tickets
    pub reached : led a w.start w.calls

abbrev pub AreKnown : {A : Type 0} → RootView → (A → Opening → List Call → Type 0) → List Worked → List A → Type 0
AreKnown r reached [] [] = Unit {0}
AreKnown r reached (w ∷ ws) (a ∷ actors) = IsKnown r reached w a × AreKnown r reached ws actors
AreKnown r reached [] (a ∷ actors) = ⊥
AreKnown r reached (w ∷ ws) [] = ⊥

-- what they might use, all in all
abbrev pub stakes : List Worked → ℕ
stakes [] = 0
stakes (w ∷ ws) = w.start.board.stake + stakes ws

abbrev pub ticket_stakes : List Worked → ℕ
ticket_stakes [] = 0
ticket_stakes (w ∷ ws) = w.start.tickets.stake + ticket_stakes ws

-- an actor kept to the words of its labels, met the writer inside its actions alone, and named no word at a version
-- above what the root has seen
pub record HasKept (setting : Setting) (change : Label → Change) (seen : List ℕ) (w : Worked) : Type 0 where
  pub keeps : AllKeepWords (version_after setting change) w.calls
  pub inside : MeetsInside w.calls
  pub named : (word : ℕ) → word < 160 → top_word w.calls word ≤ slice_index seen word

abbrev pub HaveKept : Setting → (Label → Change) → List ℕ → List Worked → Type 0
HaveKept setting change seen [] = Unit {0}
HaveKept setting change seen (w ∷ ws) = HasKept setting change seen w × HaveKept setting change seen ws

-- The root has taken these actors in: it has their lists before its own, what they might use besides its own, and has
-- seen of the words what they had
pub record HasTakenIn (setting : Setting) (change : Label → Change) (ws : List Worked) (old new : RootView) : Type 0
  where
    pub board : new.board ≡ old.board
    pub switches : new.switches ≡ old.switches
    pub tickets : new.tickets ≡ old.tickets
    pub start : new.seat.start ≡ old.seat.start
    pub number : new.seat.number ≡ old.seat.number
    pub seats : new.seat.seats ≡ old.seat.seats
    pub words_seats : new.words.seats ≡ old.words.seats
    pub draws_seats : new.draws.seats ≡ old.draws.seats
    pub stake_is : stake new.seat ≡ stake old.seat + stakes ws
    pub draws_are : all_of new.draws ≡ all_of old.draws + ticket_stakes ws
    pub seen : (word : ℕ) → word < 160 → slice_index old.words.seen word ≤ slice_index new.words.seen word
    pub kept : HaveKept setting change new.words.seen ws
    pub gathered : (before : List Worked) → AreGathered before old.seat old.words old.draws
        → AreGathered (ws ++ before) new.seat new.words new.draws

-- actors that were split off one after another, in the order of their numbers, began where the root says
abbrev pub AreSplit : {A : Type 0} → (A → Opening → List Call → Type 0) → (ℕ → Opening) → ℕ → List A → Type 0
AreSplit reached opening n [] = Unit {0}
AreSplit reached opening n (a ∷ actors) = reached a (opening n) [] × AreSplit reached opening (n + 1) actors

-- of no root
abbrev pub blank_table : TableId
blank_table = record { words = 0; slots = 0; views_name = 0; atom = 0; block = 0; offset = 0; slot_names = [] }

abbrev pub blank : RootView
blank = record {
  board = blank_table;
  switches = blank_table;
  tickets = blank_table;
  seat = spent_seat;
  words = spent_words;
  draws = spent_draws;
}
