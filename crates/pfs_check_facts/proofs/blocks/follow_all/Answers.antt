use Rattle.std.proofs.Common.{◌++◌, take}
use Rattle.pfs_check_facts.proofs.FollowSteps.{all_more, all_over, none_yet}
use Rattle.pfs_check_facts.proofs.blocks.follow_all.Goals as goal

pub loop-line-init : goal.loop-line-init
loop-line-init c = λ lines are. none_yet lines c.args.course.now are

pub loop-line-preserved : goal.loop-line-preserved
loop-line-preserved c = λ lines are.
    all_more lines c.args.said.now c.loop-line.line-index c.line-item.result c.follow.new.self c.loop-line-test.true c.line-item.is
    (c.in_ok-follow.ensures (lines ++ take c.loop-line.line-index c.args.said.now) (c.loop-line.invariant lines are))

pub returns : goal.returns
returns c = λ lines are.
    all_over lines c.args.said.now c.loop-line.line-index c.loop-line.course c.loop-line-test.false (c.loop-line.invariant lines are)
