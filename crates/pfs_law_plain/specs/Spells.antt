-- Sessions that run one after another: their stints, with all calls of the store.
use Rattle.std.specs.Prelude.{ℕ, ◌≡◌, ◌+◌, List, [], ◌∷◌, ◌++◌, length, Option, Some, None, IfSome}
use Rattle.pfs_board.specs.declared.view.Label.{Label}
use Rattle.pfs_levels.specs.Calls.{Call, Enters, Leaves, Meets}
use Rattle.pfs_law_session.specs.Deeds.{Deed, Part, action_of, part_calls}
use Rattle.pfs_law_session.specs.Stints.{Stint, state_by, AreStints}
use Rattle.pfs_session.specs.SessionStates.{State, fresh}
use Rattle.pfs_session.specs.Turns.{state_after}

-- a part; of an action also the label that it entered with, those of the actions before it, and the versions of the
-- words that it met there, where somebody else may be the words' writer
pub record Doing : Type 0 where
  pub part : Part
  pub label : Label
  pub labels : List Label
  pub met : Option (List ℕ)

-- how an action begins
abbrev pub entering : Label → List Label → Option (List ℕ) → List Call
entering label labels None = Enters label labels ∷ []
entering label labels (Some versions) = Meets versions ∷ Enters label labels ∷ []

-- it does so before its calls, and ends behind them
abbrev pub around : Label → List Label → Option (List ℕ) → Option ℕ → List Call → List Call
around label labels met None calls = calls
around label labels met (Some number) calls = Leaves ∷ (calls ++ entering label labels met)

abbrev pub doing_calls : Doing → List Call
doing_calls d = around d.label d.labels d.met (action_of d.part.deed) (part_calls d.part)

-- newest first; what is done stands in order
abbrev pub doings_calls : List Doing → List Call
doings_calls [] = []
doings_calls (d ∷ ds) = doings_calls ds ++ doing_calls d

abbrev pub parts_in : List Doing → List Part
parts_in [] = []
parts_in (d ∷ ds) = d.part ∷ parts_in ds

-- a stint with what its actions entered with
pub record Spell : Type 0 where
  pub phase : ℕ
  pub session : ℕ
  pub doings : List Doing

abbrev pub stint_of : Spell → Stint
stint_of spell = record { phase = spell.phase; session = spell.session; parts = parts_in spell.doings }

abbrev pub stints_of : List Spell → List Stint
stints_of [] = []
stints_of (spell ∷ spells) = stint_of spell ∷ stints_of spells

-- all calls, newest first
abbrev pub calls_of : List Spell → List Call
calls_of [] = []
calls_of (spell ∷ spells) = calls_of spells ++ doings_calls spell.doings

-- the label of a session's next action
abbrev pub label_of : State → Label
label_of s = record { session = s.number; line = s.actions + 1 }

-- an action enters with its session's label, behind as many others as its administration knows
abbrev pub IsEntered : State → Label → List Label → Deed → Type 0
IsEntered s label labels deed =
    IfSome (action_of deed) (λ number. (number ≡ length labels + 1) × (label ≡ label_of s))

abbrev pub AreEntered : State → List Doing → Type 0
AreEntered s [] = Unit {0}
AreEntered s (d ∷ ds) = IsEntered s d.label d.labels d.part.deed × AreEntered (state_after s d.part.turns) ds

-- behind those stints
abbrev pub AllEntered : ℕ → (ℕ → ℕ) → List Stint → List Spell → Type 0
AllEntered stack depths earlier [] = Unit {0}
AllEntered stack depths earlier (spell ∷ spells) =
    AreEntered (state_by spell.session (fresh spell.session stack (depths spell.session)) earlier) spell.doings
    × AllEntered stack depths (earlier ++ stint_of spell ∷ []) spells

-- sessions that each begin anew, one after another
pub record AreSpells (stack : ℕ) (depths : ℕ → ℕ) (spells : List Spell) : Type 0 where
  pub stints : AreStints stack depths (stints_of spells)
  pub entered : AllEntered stack depths [] spells
