-- What sessions do phase by phase, in the order of the report: each goes on as its last stint left it.
use Rattle.std.specs.Prelude.{ℕ, ◌≡◌, ◌≤◌, ◌==◌, Bool, false, cond, List, [], ◌∷◌, ◌++◌, None}
use Rattle.pfs_model.specs.Chains.{Each}
use Rattle.pfs_model.specs.EventNumbers.{AreNumbered}
use Rattle.pfs_model.specs.EntryPlaces.{Block, places, IsShaped}
use Rattle.pfs_model.specs.SetupFlags.{AreJudged}
use Rattle.pfs_session.specs.SessionStates.{State, fresh}
use Rattle.pfs_law_session.specs.Deeds.{Part}
use Rattle.pfs_law_session.specs.JournalLaws.{AreParts, MayDoAll, AllLoadsAgree, lines_of, entries_of, state_behind, over_behind}

-- what a session does in a phase, in order
pub record Stint : Type 0 where
  pub phase : ℕ
  pub session : ℕ
  pub parts : List Part

-- its block of the journals
abbrev pub block_of : Stint → Block
block_of stint = record {
  phase = stint.phase;
  session = stint.session;
  lines = lines_of stint.parts;
  parts = entries_of stint.parts;
}

abbrev pub blocks_of : List Stint → List Block
blocks_of [] = []
blocks_of (stint ∷ stints) = block_of stint ∷ blocks_of stints

-- all parts of a session, through all its stints
abbrev pub parts_by : ℕ → List Stint → List Part
parts_by session [] = []
parts_by session (stint ∷ stints) = cond (stint.session == session) stint.parts [] ++ parts_by session stints

-- what the parts of each stint give, in order
abbrev pub along : {A : Type 0} → (List Part → List A) → List Stint → List A
along give [] = []
along give (stint ∷ stints) = give stint.parts ++ along give stints

-- a session that goes on in another phase has made no action of that phase
abbrev pub resumed : State → State
resumed s = record s { last = None }

-- a session as these stints left it, and whether it is over
abbrev pub state_by : ℕ → State → List Stint → State
state_by session s [] = s
state_by session s (stint ∷ stints) =
    state_by session (cond (stint.session == session) (resumed (state_behind s stint.parts)) s) stints

abbrev pub over_by : ℕ → Bool → List Stint → Bool
over_by session over [] = over
over_by session over (stint ∷ stints) =
    over_by session (cond (stint.session == session) (over_behind over stint.parts) over) stints

-- a session does this from here, and may do it
pub record IsStint (over : Bool) (s : State) (parts : List Part) : Type 0 where
  pub are_parts : AreParts s parts
  pub may : MayDoAll over s parts

-- behind those stints: each session goes on as they left it, and the phases never fall
abbrev pub AreStintsBehind : ℕ → (ℕ → ℕ) → List Stint → ℕ → List Stint → Type 0
AreStintsBehind stack depths earlier phase [] = Unit {0}
AreStintsBehind stack depths earlier phase (stint ∷ stints) =
    (phase ≤ stint.phase)
    × IsStint (over_by stint.session false earlier)
    (state_by stint.session (fresh stint.session stack (depths stint.session)) earlier) stint.parts
    × AreStintsBehind stack depths (earlier ++ stint ∷ []) stint.phase stints

-- sessions that each begin anew, with room for as many open events as is given for each
abbrev pub AreStints : ℕ → (ℕ → ℕ) → List Stint → Type 0
AreStints stack depths stints = AreStintsBehind stack depths [] 0 stints

-- a session of this number does these parts, however it stands before them
pub record IsDoneBy (number : ℕ) (parts : List Part) : Type 0 where
  pub from : State
  pub number_is : from.number ≡ number
  pub are_parts : AreParts from parts

abbrev pub AreDone : List Stint → Type 0
AreDone stints = Each (λ stint. IsDoneBy stint.session stint.parts) stints

-- so each stint is done by a session of its number
abbrev pub StintsLaw : Type 0
StintsLaw = (stack : ℕ) (depths : ℕ → ℕ) (stints : List Stint) → AreStints stack depths stints → AreDone stints

-- the journals of all sessions are what their lines ask for, each verdict is that of the flags that were loaded, and
-- each event has its numbers
pub record AreJournals (flags : ℕ → ℕ → ℕ) (stack : ℕ) (stints : List Stint) : Type 0 where
  pub shaped : IsShaped (blocks_of stints)
  pub judged : AreJudged stack flags (places (blocks_of stints))
  pub numbered : AreNumbered (places (blocks_of stints))

-- of any number of sessions, whatever their store, where each load gave the flags of its version
abbrev pub JournalsLaw : Type 0
JournalsLaw = (flags : ℕ → ℕ → ℕ) (stack : ℕ) (depths : ℕ → ℕ) (stints : List Stint) → AreStints stack depths stints
    → Each (λ stint. AllLoadsAgree flags stint.parts) stints → AreJournals flags stack stints
