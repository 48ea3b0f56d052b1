-- Floors and causes in the journals of sessions at once.
use Rattle.std.specs.Prelude.{ℕ, ◌≤◌, List}
use Rattle.pfs_law_plain.specs.RunRules.{entries_of}
use Rattle.pfs_law_plain.specs.Spells.{Spell, AreSpells}
use Rattle.pfs_law_shared.specs.Order.{AllNear, AreSingle}
use Rattle.pfs_law_shared.specs.Shares.{AreShared}
use Rattle.pfs_model.specs.Causes.{AreCaused}
use Rattle.pfs_model.specs.Chains.{Each}
use Rattle.pfs_model.specs.Floors.{AreFloored}

-- each line is above, or not below, what its session must have seen; what was held, busy or late, or found a row
-- vacant, has its cause
pub record HaveFloors (spells : List Spell) : Type 0 where
  pub floored : AreFloored (entries_of spells)
  pub caused : AreCaused (entries_of spells)

abbrev pub FlooredLaw : Type 0
FlooredLaw = (flags : List ℕ) (stack : ℕ) (depths : ℕ → ℕ) (spells : List Spell) (last : ℕ)
    → AreSpells stack depths spells → AreShared flags spells → AllNear spells → AreSingle spells
    → Each (λ spell. spell.phase ≤ last) spells → HaveFloors spells
