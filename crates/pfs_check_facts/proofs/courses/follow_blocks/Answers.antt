use Rattle.std.proofs.Common.{◌++◌, take}
use Rattle.pfs_check_facts.proofs.SessionSteps.{blocks_more, blocks_over, no_blocks}
use Rattle.pfs_check_facts.proofs.courses.follow_blocks.Goals as goal

pub loop-block-init : goal.loop-block-init
loop-block-init c = λ before are. no_blocks before c.args.courses.now are

pub loop-block-preserved : goal.loop-block-preserved
loop-block-preserved c = λ before are.
    blocks_more before c.args.blocks.now c.loop-block.block-index c.block-item.result c.follow_one.new.courses c.loop-block-test.true c.block-item.is
    (c.in_ok-follow_one.ensures (before ++ take c.loop-block.block-index c.args.blocks.now) (c.loop-block.invariant before are))

pub returns : goal.returns
returns c = λ before are.
    blocks_over before c.args.blocks.now c.loop-block.block-index c.loop-block.courses c.loop-block-test.false (c.loop-block.invariant before are)
