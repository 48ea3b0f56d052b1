use Rattle.pfs_check_moves.specs.FoundTakes.{counted_in}
use Rattle.pfs_check_moves.proofs.CompareFacts.{all_due, one_due, one_missed, printed_ends}
use Rattle.pfs_check_moves.proofs.comparing.first_miss.Goals as goal

pub returns-then-not-is_due_at : goal.returns-then-not-is_due_at
returns-then-not-is_due_at c =
    one_missed c.args.shelf.now (counted_in c.args.found.now) c.args.due.now c.args.printed.now c.loop-at.at _ c.is_due_at.result
    c.loop-at-test.true c.is_due_at.ensures c.if-not-is_due_at.true c.loop-at.invariant

pub loop-at-preserved : goal.loop-at-preserved
loop-at-preserved c =
    one_due c.args.shelf.now (counted_in c.args.found.now) c.args.due.now c.args.printed.now c.loop-at.at _ c.is_due_at.result
    c.loop-at-test.true c.is_due_at.ensures c.if-not-is_due_at.false c.loop-at.invariant

pub returns-then-is_short : goal.returns-then-is_short
returns-then-is_short c =
    printed_ends c.args.shelf.now (counted_in c.args.found.now) c.args.due.now c.args.printed.now c.loop-at.at
    c.loop-at-test.false c.if-is_short.true c.loop-at.invariant

pub returns : goal.returns
returns c =
    all_due c.args.shelf.now (counted_in c.args.found.now) c.args.due.now c.args.printed.now c.loop-at.at
    c.loop-at-test.false c.if-is_short.false c.loop-at.invariant
