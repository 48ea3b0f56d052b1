use Rattle.std.proofs.Common.{arith, refl}
use Rattle.pfs_check_parts.proofs.LineSteps.{opening, line_misfit, line_taken, lines_over, lines_told, lines_short}
use Rattle.pfs_check_parts.proofs.journals.cut_journal.Goals as goal

pub cut_line-requires : goal.cut_line-requires
cut_line-requires c = (c.loop-line.invariant c.args.trail.now refl).within

pub loop-line-init : goal.loop-line-init
loop-line-init c = λ context told.
    opening c.args.lines.now c.args.entries.now context _ _ c.new-ends.ensures.items told

pub returns-then-not-stop : goal.returns-then-not-stop
returns-then-not-stop c = λ context told. (
  c.in_ok-stop.ensures.within,
  line_misfit c.args.lines.now c.args.entries.now context _ _ _ c.loop-line.line-index c.loop-line.at _ c.in_ok-stop.stop
      (c.loop-line.invariant context told) c.loop-line-test.true c.in_ok-stop.ensures c.if-not-stop.true,
)

pub loop-line-preserved : goal.loop-line-preserved
loop-line-preserved c = λ context told. rw c.in_ok-push.ensures.items
    (line_taken c.args.lines.now c.args.entries.now context _ _ _ c.loop-line.line-index c.loop-line.at _ c.in_ok-stop.stop
    (c.loop-line.invariant context told) c.loop-line-test.true c.in_ok-stop.ensures c.if-not-stop.false)

pub returns-then-at-count : goal.returns-then-at-count
returns-then-at-count c = λ context told. (
  (c.loop-line.invariant context told).within,
  lines_short c.args.lines.now c.args.entries.now context _ _ c.loop-line.line-index c.loop-line.at
      (c.loop-line.invariant context told) c.loop-line-test.false (omega arith),
)

pub returns : goal.returns
returns c = λ context told. (
  lines_over c.args.lines.now c.args.entries.now context _ _ c.loop-line.line-index c.loop-line.at
      (c.loop-line.invariant context told) c.loop-line-test.false (omega arith),
  lines_told c.args.lines.now c.args.entries.now context _ _ c.loop-line.line-index c.loop-line.at
      (c.loop-line.invariant context told) c.loop-line-test.false,
)
