-- The actors whose seats a root has taken in, what it has of them, and what a board's history says of their changes.
use Rattle.std.specs.Prelude.{ℕ, ◌≡◌, ◌<◌, nat_lt, if◌then◌else◌, List, [], ◌∷◌, ◌++◌, length, None}
use Rattle.pfs_board.specs.declared.view.Change.{Change}
use Rattle.pfs_board.specs.declared.view.Entered.{Entered}
use Rattle.pfs_board.specs.declared.view.Finished.{Finished}
use Rattle.pfs_board.specs.declared.view.Sight.{Sight}
use Rattle.pfs_board.specs.declared.view.View.{View}
use Rattle.pfs_board.specs.WholeSeats.{History}
use Rattle.pfs_board.specs.History.{labels_of}
use Rattle.pfs_board.specs.SeatViews.{Known as BoardKnown}
use Rattle.pfs_board.specs.Knowledge.{joined}
use Rattle.pfs_levels.specs.Calls.{Call, Opening, action_in, hand_in}
use Rattle.pfs_levels.specs.JointCalls.{total, At, changes_of, IsCounted, all_calls}
use Rattle.pfs_levels.specs.CallOrder.{Mark, mark, all_marks, marked, AreMarked, AreOrdered, AreRising, AreThere, AreNamed, AllCalls}
use Rattle.pfs_board_store.specs.ActorCalls.{HasMade}
use Rattle.pfs_board_store.specs.Looks.{AreLooked}
use Rattle.pfs_board_store.specs.Ties.{IsTied, AreLoaded, AreMet, AreDrawn, AreShown}
use Rattle.pfs_switches.specs.declared.view.Loaded.{Loaded}
use Rattle.pfs_switches.specs.declared.view.Met.{Met}
use Rattle.pfs_switches.specs.declared.view.View.{View as WordView}
use Rattle.pfs_switches.specs.SeatViews.{Known as WordsKnown}
use Rattle.pfs_switches.specs.Knowledge.{joined as words_joined}
use Rattle.pfs_tickets.specs.declared.view.Drawn.{Drawn}
use Rattle.pfs_tickets.specs.declared.view.View.{View as TicketView}
use Rattle.pfs_tickets.specs.SeatViews.{Known as TicketsKnown}
use Rattle.pfs_tickets.specs.Knowledge.{joined as tickets_joined}

-- where an actor began, and its calls
pub record Worked : Type 0 where
  pub start : Opening
  pub calls : List Call

abbrev pub calls_of_all : List Worked → List (List Call)
calls_of_all [] = []
calls_of_all (a ∷ actors) = a.calls ∷ calls_of_all actors

-- a list is the actors' one after another, the newest actor first, and each part is tied to its actor's calls
abbrev pub AreParts : {A : Type 0} → (Worked → List A → Type 0) → List Worked → List A → Type 0
AreParts P [] xs = xs ≡ []
AreParts {A} P (a ∷ actors) xs = (mine : List A) × (rest : List A) × (xs ≡ mine ++ rest) × P a mine
    × AreParts P actors rest

-- what the root has of calls that changed nothing is in the lists of all
abbrev pub AllShown : List Finished → List Sight → List Entered → List Worked → Type 0
AllShown reads sights entered [] = Unit {0}
AllShown reads sights entered (a ∷ actors) = AreShown a.start.board reads sights entered a.calls
    × AllShown reads sights entered actors

-- the root's looks at rows are the actors' one after another, the newest actor first
abbrev pub AllLooked : List Worked → List Finished → List Sight → Type 0
AllLooked [] reads sights = (reads ≡ []) × (sights ≡ [])
AllLooked (a ∷ actors) reads sights = (mine : List Finished) × (rest : List Finished) × (reads ≡ mine ++ rest)
    × (seen : List Sight) × (others : List Sight) × (sights ≡ seen ++ others)
    × AreLooked a.start.board a.calls mine seen × AllLooked actors rest others

-- an actor that holds nothing and is in no action
pub record IsDone (a : Worked) : Type 0 where
  pub outside : action_in a.calls ≡ 0
  pub empty : (row : ℕ) → 0 < row → hand_in a.calls row ≡ None
  pub rising : AreRising a.calls
  pub there : AreThere a.calls

abbrev pub AllDone : List Worked → Type 0
AllDone [] = Unit {0}
AllDone (a ∷ actors) = IsDone a × AllDone actors

-- the root's seats, which had nothing before, have taken in those of these actors, the last one first
pub record AreGathered (actors : List Worked) (v : View) (w : WordView) (t : TicketView) : Type 0 where
  pub tied : AreParts (λ (a : Worked) (made : List Change). IsTied a.start.board a.calls made) actors v.made
  pub shown : AllShown v.reads v.sights v.entered actors
  pub looked : AllLooked actors v.reads v.sights
  pub loaded : AreParts (λ (a : Worked) (loads : List Loaded). AreLoaded a.start a.calls loads) actors w.loads
  pub met : AreParts (λ (a : Worked) (meets : List Met). AreMet a.start.switches a.calls meets) actors w.meets
  pub drawn : AreParts (λ (a : Worked) (tickets : List Drawn). AreDrawn a.start.tickets a.calls tickets) actors
      t.tickets
  pub done : AllDone actors

-- one more actor's seats are taken in
abbrev pub GatherLaw : Type 0
GatherLaw = (actors : List Worked) (v : View) (w : WordView) (t : TicketView) → AreGathered actors v w t
    → (start : Opening) (calls : List Call) (b : BoardKnown) (words : WordsKnown) (tickets : TicketsKnown)
    → HasMade start calls b words tickets
    → AreGathered (record { start = start; calls = calls } ∷ actors) (joined v b.view) (words_joined w words.view)
    (tickets_joined t tickets.view)

-- the changes of rows other than row 0
abbrev pub ats_by : Change → List At
ats_by p = if nat_lt 0 p.row then record { row = p.row; version = p.version; puts = p.puts } ∷ [] else []

unfoldable pub ats_of : List Change → List At
ats_of [] = []
ats_of (p ∷ ps) = ats_by p ++ ats_of ps

-- all changes, each with its action
unfoldable pub marks_in : List Change → List Mark
marks_in [] = []
marks_in (p ∷ ps) = mark p.row p.version p.puts p.action p.after ∷ marks_in ps

-- One order of all publications and releases of these actors, in which each publication has the next version of its
-- row: without row 0, and with it, where it says that the actions' numbers are 1, 2 and so on. Along a row these never
-- fall. Each actor's calls rise. What an action found are the first labels of all, and its own stands at its number
pub record AreChanged (actors : List (List Call)) (log : List Change) : Type 0 where
  pub chain : IsCounted (ats_of log)
  pub once : (h : At → ℕ) → total h (changes_of (all_calls actors)) ≡ total h (ats_of log)
  pub numbered : AreMarked (marks_in log)
  pub marks_once : (h : Mark → ℕ) → total h (all_marks actors) ≡ total h (marks_in log)
  pub ordered : AreOrdered (marks_in log)
  pub rising : AllCalls AreRising actors
  pub there : AllCalls AreThere actors
  pub ended : length (labels_of log) ≡ marked (marks_in log) 0
  pub named : AllCalls (AreNamed (labels_of log)) actors

-- a root that is alone, and has taken in the seats of all actors, knows the order of their changes
abbrev pub ChangedLaw : Type 0
ChangedLaw = (start words : List ℕ) (v : View) (w : WordView) (t : TicketView) (actors : List Worked)
    → AreGathered actors v w t → (h : History start words v) → AreChanged (calls_of_all actors) h.t.log
