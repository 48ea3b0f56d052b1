use Rattle.std.proofs.Common.{arith}
use Rattle.pfs_check_line_numbers.proofs.LineSteps.{spot_begun, spot_ended, spot_long, spot_step, too_many}
use Rattle.pfs_check_line_numbers.proofs.line_counts.behind_entries.Goals as goal

pub loop-at-init : goal.loop-at-init
loop-at-init c = record {
  same = spot_begun _ c.args.entries.now c.args.answers.now c.args.count;
  few = omega arith;
}

pub loop-at-preserved : goal.loop-at-preserved
loop-at-preserved c = record {
  same = spot_step c.loop-at.spot c.in_ok-spot.spot _ c.args.entries.now c.args.answers.now _ c.loop-at.at c.args.count _ c.entry.ensures
      (omega arith) c.loop-at-test.true (c.in_ok-spot.ensures.same _) c.loop-at.invariant.same;
  few = omega (arith, c.in_ok-spot.ensures.few, c.loop-at.invariant.few);
}

pub returns : goal.returns
returns c = spot_ended c.loop-at.spot c.args.line c.args.entries.now c.args.answers.now _ c.loop-at.at c.args.count
    c.loop-at-test.false c.loop-at.invariant.same

pub returns-in_err-spot : goal.returns-in_err-spot
returns-in_err-spot c = too_many _ _ _ c.from_residual.ensures.1
    (spot_long c.loop-at.spot c.args.line c.args.entries.now c.args.answers.now c.loop-at.at c.args.count _ c.entry.ensures (omega arith)
    c.loop-at-test.true (c.in_err-spot.ensures.same _) c.loop-at.invariant.same)
