-- What sessions at once have in common phase by phase, whatever their store: a session is an actor of each phase in
-- which it does something.
use Rattle.std.specs.Prelude.{ℕ, ◌==◌, nat_lt, cond, List, [], ◌∷◌, ◌++◌}
use Rattle.pfs_levels.specs.Calls.{Call}
use Rattle.pfs_levels.specs.PlainStore.{AllAnswer}
use Rattle.pfs_law_joint.specs.Phases.{IsShared}
use Rattle.pfs_law_plain.specs.Spells.{Spell, AreSpells, doings_calls, calls_of}

-- each spell is an actor of its own, the newest first
abbrev pub actors_of : List Spell → List (List Call)
actors_of [] = []
actors_of (spell ∷ spells) = actors_of spells ++ doings_calls spell.doings ∷ []

-- the spells of a phase, and of those before it
abbrev pub spells_at : ℕ → List Spell → List Spell
spells_at phase [] = []
spells_at phase (spell ∷ spells) = cond (spell.phase == phase) (spell ∷ []) [] ++ spells_at phase spells

abbrev pub spells_before : ℕ → List Spell → List Spell
spells_before phase [] = []
spells_before phase (spell ∷ spells) = cond (nat_lt spell.phase phase) (spell ∷ []) [] ++ spells_before phase spells

-- at the end of each phase its sessions have one order of all that they changed in common with those before them
abbrev pub AreShared : List ℕ → List Spell → Type 0
AreShared flags spells = (phase : ℕ)
    → IsShared flags (actors_of (spells_before phase spells)) (actors_of (spells_at phase spells))

-- a plain store that its sessions use one after another gives it
abbrev pub PlainLaw : Type 0
PlainLaw = (flags : List ℕ) (stack : ℕ) (depths : ℕ → ℕ) (spells : List Spell) → AreSpells stack depths spells
    → AllAnswer flags (calls_of spells) → AreShared flags spells
