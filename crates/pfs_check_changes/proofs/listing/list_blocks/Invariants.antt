use Rattle.std.proofs.Common.{List, ◌++◌, take}
use Rattle.pfs_script.specs.declared.blocks.Block.{Block}
use Rattle.pfs_check_changes.specs.ActionNumbers.{AreListedTo}
use Rattle.pfs_check_changes.proofs.listing.list_blocks.Given as goal

abbrev pub invariant-loop-block : goal.invariant-loop-block
invariant-loop-block l = (blocks : List Block) → AreListedTo blocks l.fn.actions
    → AreListedTo (blocks ++ take l.block-index l.said) l.actions
