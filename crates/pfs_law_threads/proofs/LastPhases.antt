-- The spells at the blocks of a script are of its phases.
use Rattle.std.proofs.Common.{ℕ, ◌+◌, ◌≤◌, List, [], ◌∷◌, length, arith}
use Rattle.pfs_law_plain.specs.Spells.{Spell}
use Rattle.pfs_law_script.specs.Course.{AreSpellsOf, PhasedBlock, numbered, phased}
use Rattle.pfs_model.proofs.EachLists.{each_join}
use Rattle.pfs_model.specs.Chains.{Each}
use Rattle.pfs_script.specs.declared.blocks.Block.{Block}
use Rattle.pfs_script.specs.declared.blocks.Phase.{Phase}

abbrev AllUpTo : ℕ → List PhasedBlock → Type 0
AllUpTo most done = Each (λ (one : PhasedBlock). one.phase ≤ most) done

phased_low : (most number : ℕ) (blocks : List Block) → number ≤ most → AllUpTo most (phased number blocks)
phased_low most number [] low = tt
phased_low most number (block ∷ blocks) low = (low, phased_low most number blocks low)

numbered_low : (most number : ℕ) (phases : List Phase) → number + length phases ≤ most + 1 → AllUpTo most (numbered number phases)
numbered_low most number [] low = tt
numbered_low most number (phase ∷ phases) low =
    each_join (λ (one : PhasedBlock). one.phase ≤ most) (phased number phase.blocks) (numbered (number + 1) phases)
    (phased_low most number phase.blocks (omega (arith, low))) (numbered_low most (number + 1) phases (omega (arith, low)))

spells_low : (most : ℕ) (done : List PhasedBlock) (spells : List Spell) → AllUpTo most done → AreSpellsOf done spells → Each (λ spell. spell.phase ≤ most) spells
spells_low most [] [] low are = tt
spells_low most [] (spell ∷ spells) low are = absurd are
spells_low most (one ∷ others) [] low are = absurd are
spells_low most (one ∷ others) (spell ∷ spells) low are = (omega (arith, low.0, are.0.phase), spells_low most others spells low.1 are.1)

pub all_low : (phases : List Phase) (spells : List Spell) → AreSpellsOf (numbered 1 phases) spells → Each (λ spell. spell.phase ≤ length phases) spells
all_low phases spells are = spells_low (length phases) (numbered 1 phases) spells (numbered_low (length phases) 1 phases (omega arith)) are
