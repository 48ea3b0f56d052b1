use Rattle.pfs_check_finals.proofs.LossCounts.{lost_last, none_behind}
use Rattle.pfs_check_finals.proofs.lost.lost_behind.Goals as goal

pub returns-then-last-eq0 : goal.returns-then-last-eq0
returns-then-last-eq0 c = λ setting change labels entries are.
    none_behind setting change labels entries c.args.orders.now c.fewer-last.result c.args.actions are c.if-last-eq0.true c.fewer-last.ensures.is

pub returns : goal.returns
returns c = λ setting change labels entries are.
    lost_last setting change labels entries c.args.orders.now c.fewer-last.result c.args.actions _ are c.fewer-last.ensures.high c.if-last-eq0.false
    c.fewer-last.ensures.is c.fewer-last.ensures.low
