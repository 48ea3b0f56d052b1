use Rattle.std.proofs.Common.{◌++◌, subst, take}
use Rattle.std.proofs.lemmas.List.{take_all}
use Rattle.pfs_check_changes.specs.ActionNumbers.{AreListedTo}
use Rattle.pfs_check_changes.proofs.ListedBlocks.{blocks_more}
use Rattle.pfs_check_changes.proofs.listing.list_blocks.Goals as goal

pub loop-block-preserved : goal.loop-block-preserved
loop-block-preserved c = λ blocks are.
    blocks_more blocks c.args.said.now c.loop-block.block-index c.block-item.result c.list_block.new.actions c.loop-block-test.true c.block-item.is
    (c.in_ok-list_block.ensures (blocks ++ take c.loop-block.block-index c.args.said.now) (c.loop-block.invariant blocks are))

pub returns : goal.returns
returns c = λ blocks are.
    subst (λ z. AreListedTo (blocks ++ z) c.loop-block.actions) (take_all c.loop-block.block-index c.args.said.now c.loop-block-test.false)
    (c.loop-block.invariant blocks are)
