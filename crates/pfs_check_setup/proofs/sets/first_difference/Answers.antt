use Rattle.pfs_check_setup.proofs.CompareFacts.{all_same, printed_ends, set_alike, set_differs}
use Rattle.pfs_check_setup.proofs.sets.first_difference.Goals as goal

pub returns-then-not-is_due : goal.returns-then-not-is_due
returns-then-not-is_due c =
    set_differs c.args.due.now c.args.printed.now c.loop-at.at (record { word = 0; version = 0; flags = 0 }) c.is_due.result
    c.loop-at-test.true c.is_due.ensures c.if-not-is_due.true c.loop-at.invariant

pub loop-at-preserved : goal.loop-at-preserved
loop-at-preserved c =
    set_alike c.args.due.now c.args.printed.now c.loop-at.at (record { word = 0; version = 0; flags = 0 }) c.is_due.result
    c.loop-at-test.true c.is_due.ensures c.if-not-is_due.false c.loop-at.invariant

pub returns-then-is_short : goal.returns-then-is_short
returns-then-is_short c = printed_ends c.args.due.now c.args.printed.now c.loop-at.at c.loop-at-test.false c.if-is_short.true c.loop-at.invariant

pub returns : goal.returns
returns c = all_same c.args.due.now c.args.printed.now c.loop-at.at c.loop-at-test.false c.if-is_short.false c.loop-at.invariant
