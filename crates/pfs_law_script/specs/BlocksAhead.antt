-- Which blocks a script still has: what its place among the phases says of a block, and that no session that is over
-- comes again.
use Rattle.std.specs.Prelude.{ℕ, ◌≡◌, ◌+◌, true, false, List, [], ◌∷◌, ◌++◌, length}
use Rattle.pfs_law_plain.specs.Spells.{Doing, Spell}
use Rattle.pfs_classes.specs.declared.setting.Setting.{Setting}
use Rattle.pfs_law_script.specs.PlayableBlocks.{IsPlayable}
use Rattle.pfs_runs.specs.ScriptLines.{change_in}
use Rattle.pfs_script.specs.declared.blocks.Block.{Block}
use Rattle.pfs_script.specs.declared.blocks.Phase.{Phase}
use Rattle.pfs_law_script.specs.Course.{PhasedBlock, phased, numbered, own_blocks, over_at}
use Rattle.pfs_law_script.specs.CourseSteps.{IsNextBlock, IsPlayed, IsOneMore, spell_at}

-- the blocks before a block of a phase, behind these phases and those blocks of its own phase
abbrev pub done_before : List Phase → List Block → List PhasedBlock
done_before before blocks = numbered 1 before ++ phased (1 + length before) blocks

abbrev pub block_at : List Phase → Block → PhasedBlock
block_at before block = record { phase = 1 + length before; block = block }

-- those behind it
abbrev pub ahead_of : List Phase → List Block → List Phase → List PhasedBlock
ahead_of before blocks after = phased (1 + length before) blocks ++ numbered (1 + length before + 1) after

-- no session that is over behind these spells has one of these blocks
abbrev pub NoneIsOver : List Spell → List PhasedBlock → Type 0
NoneIsOver spells ahead = (session : ℕ) → over_at spells session ≡ true → own_blocks session ahead ≡ []

-- a block of a script that may be played is next behind those before it; where no session that is over has a block
-- ahead its session isn't over, and behind it again no session that is over has one
pub record IsReached (phases : List Phase) (before : List Phase) (first : List Block) (block : Block)
    (others : List Block) (after : List Phase) : Type 0 where
  pub next : IsNextBlock phases (done_before before first) (block_at before block)
  pub goes_on : (spells : List Spell)
      → NoneIsOver spells (block_at before block ∷ ahead_of before others after) → over_at spells block.session ≡ false
  pub ahead : (setting : Setting) (depths : ℕ → ℕ) (spells : List Spell) (doings : List Doing)
      → NoneIsOver spells (block_at before block ∷ ahead_of before others after)
      → IsPlayed setting (change_in phases) depths spells (block_at before block) doings
      → IsOneMore setting (change_in phases) depths (done_before before first) spells (block_at before block) doings
      → NoneIsOver (spells ++ spell_at (block_at before block) doings ∷ []) (ahead_of before others after)

abbrev pub ReachedLaw : Type 0
ReachedLaw = (phases before : List Phase) (phase : Phase) (after : List Phase) (first : List Block) (block : Block)
    (others : List Block) → phases ≡ before ++ phase ∷ after → phase.blocks ≡ first ++ block ∷ others
    → IsPlayable before phase after → IsReached phases before first block others after
