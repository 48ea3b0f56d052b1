use Rattle.pfs_check_facts.proofs.SessionSteps.{phases_more}
use Rattle.pfs_check_facts.proofs.script.courses_of.Goals as goal

pub loop-phase-preserved : goal.loop-phase-preserved
loop-phase-preserved c =
    phases_more c.args.phases.now c.loop-phase.phase-index c.phase-item.result c.as_slice.result.now c.follow_blocks.new.courses c.loop-phase-test.true
    c.phase-item.is c.as_slice.ensures (c.in_ok-follow_blocks.ensures _ c.loop-phase.invariant)
