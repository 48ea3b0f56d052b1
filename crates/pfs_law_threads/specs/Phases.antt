-- Sessions at once, phase by phase: what they have in common goes on for one phase more.
use Rattle.std.specs.Prelude.{ℕ, ◌≡◌, ◌<◌, List, [], ◌++◌}
use Rattle.pfs_law_joint.specs.Phases.{IsShared}
use Rattle.pfs_law_plain.specs.Spells.{Spell}
use Rattle.pfs_law_shared.specs.Shares.{actors_of, AreShared}
use Rattle.pfs_model.specs.Chains.{Each}

-- before the first phase there is nothing to have in common
abbrev pub NoneLaw : Type 0
NoneLaw = (flags : List ℕ) → AreShared flags []

-- the sessions of a later phase, which have one order of all that they changed in common with all before them
abbrev pub OneMoreLaw : Type 0
OneMoreLaw = (flags : List ℕ) (phase : ℕ) (spells now : List Spell) → AreShared flags spells
    → Each (λ spell. spell.phase < phase) spells → Each (λ spell. spell.phase ≡ phase) now
    → IsShared flags (actors_of spells) (actors_of now) → AreShared flags (spells ++ now)
