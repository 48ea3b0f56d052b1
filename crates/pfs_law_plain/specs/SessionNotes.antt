-- What the entries of a session tell is what its calls tell, in the same order, whatever store it has; of an action's
-- number they tell that of its administration.
use Rattle.std.specs.Prelude.{ℕ, ◌≡◌, ◌+◌, List, [], ◌∷◌, ◌++◌, Some}
use Rattle.pfs_model.specs.Contexts.{Context}
use Rattle.pfs_model.specs.EntryPlaces.{placed_lines, after_lines, by_session, places}
use Rattle.pfs_law_session.specs.Deeds.{Part}
use Rattle.pfs_law_session.specs.JournalLaws.{AreParts, lines_of, entries_of, state_behind}
use Rattle.pfs_law_session.specs.Stints.{Stint, AreStints, blocks_of, parts_by}
use Rattle.pfs_session.specs.SessionStates.{State}
use Rattle.pfs_session.specs.Turns.{Step, StartsEvent, EndsEvent, Spends, SettlesHeld, Connects, Quits, Truncates, Changes, Inquires, Turn}
use Rattle.pfs_law_plain.specs.Notes.{Note, Acted, notes_of, all_told}

-- a session that has a slot is in that of its journal
abbrev pub Sits : Context → State → Type 0
Sits context s = (thread : ℕ) → s.place.thread ≡ Some thread → context.slot ≡ Some thread

-- an action tells its number before its calls
abbrev pub head_of : Step → List Note
head_of (Connects admin user host) = Acted (admin.actions + 1) ∷ []
head_of (Quits admin) = Acted (admin.actions + 1) ∷ []
head_of (Truncates admin what) = Acted (admin.actions + 1) ∷ []
head_of (Changes admin what) = Acted (admin.actions + 1) ∷ []
head_of (Inquires what) = []
head_of (StartsEvent subject) = []
head_of (EndsEvent numbers) = []
head_of (Spends time) = []
head_of SettlesHeld = []

abbrev pub turns_notes : List Turn → List Note
turns_notes [] = []
turns_notes (turn ∷ turns) = turns_notes turns ++ (head_of turn.step ++ all_told turn.calls)

abbrev pub parts_notes : List Part → List Note
parts_notes [] = []
parts_notes (p ∷ ps) = turns_notes p.turns ++ parts_notes ps

-- the same changes, releases and readings of rows, sets and loads of words and actions, and the session still sits in
-- its journal's slot
pub record AreTold (context : Context) (s : State) (parts : List Part) : Type 0 where
  pub same : (phase session : ℕ)
      → notes_of (placed_lines phase session context (lines_of parts) (entries_of parts)) ≡ parts_notes parts
  pub sits : Sits (after_lines context (lines_of parts) (entries_of parts)) (state_behind s parts)

-- of lines one after another, such as a block
abbrev pub ToldLaw : Type 0
ToldLaw = (context : Context) (s : State) (parts : List Part) → Sits context s → AreParts s parts
    → AreTold context s parts

-- of all blocks of each session among those that run
abbrev pub ToldThroughLaw : Type 0
ToldThroughLaw = (stack : ℕ) (depths : ℕ → ℕ) (session : ℕ) (stints : List Stint) → AreStints stack depths stints
    → notes_of (by_session session (places (blocks_of stints))) ≡ parts_notes (parts_by session stints)
