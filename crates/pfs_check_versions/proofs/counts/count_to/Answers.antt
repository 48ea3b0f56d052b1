use Rattle.std.proofs.Common.{arith}
use Rattle.pfs_check_versions.proofs.LinkSteps.{counted_here, counted_more, low_more}
use Rattle.pfs_check_versions.proofs.counts.count_to.Goals as goal

pub returns-then-one-phase : goal.returns-then-one-phase
returns-then-one-phase c = counted_here _ c.args.phase c.args.changes.now c.loop-place.place _ c.loop-place-test.true c.if-one-phase.true
    c.requires.order c.loop-place.invariant.counted c.loop-place.invariant.low

pub loop-place-preserved : goal.loop-place-preserved
loop-place-preserved c = record {
  within = omega (arith, c.loop-place-test.true);
  counted = counted_more _ _ c.args.changes.now c.loop-place.place _ c.loop-place-test.true c.in_ok-count_one.ensures.each
      c.loop-place.invariant.counted;
  low = low_more c.args.phase c.args.changes.now c.loop-place.place _ c.loop-place-test.true c.if-one-phase.false c.loop-place.invariant.low;
}
