use Rattle.pfs_check_tickets.proofs.RisingFacts.{below_zero, last_below_is, none_below}
use Rattle.pfs_check_tickets.proofs.rising.last_below.Goals as goal

pub returns-then-version-eq0 : goal.returns-then-version-eq0
returns-then-version-eq0 c = below_zero c.args.puts.now c.args.row c.args.version c.if-version-eq0.true

pub returns-in-Some : goal.returns-in-Some
returns-in-Some c = last_below_is c.args.puts.now c.args.row c.args.version c.range-below.result _ c.in-Some.put.now
    (c.range-below.ensures.in_range tt) c.in-Some.ensures.steps

pub returns-in-None : goal.returns-in-None
returns-in-None c = none_below c.args.puts.now c.args.row c.args.version c.range-below.result (c.range-below.ensures.in_range tt)
    c.in-None.ensures.steps.0
