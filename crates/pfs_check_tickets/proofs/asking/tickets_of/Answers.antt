use Rattle.std.proofs.Common.{◌+◌, ◌%◌, ◌-◌, ap, ◌∙◌}
use Rattle.pfs_check_tickets.specs.ShownPuts.{tickets_below}
use Rattle.pfs_check_tickets.proofs.AskFacts.{no_tickets, tickets_are}
use Rattle.pfs_check_tickets.proofs.asking.tickets_of.Goals as goal

pub returns-then-row-lt10242 : goal.returns-then-row-lt10242
returns-then-row-lt10242 c = no_tickets c.args.row c.args.counts.before c.args.counts.puts c.if-row-lt10242.true

pub returns : goal.returns
returns c =
    ap (λ z. z - c.tickets_below-earlier.result) c.tickets_below-all.ensures
    ∙ ap (λ z. tickets_below ((c.args.row - 10242) % 1000) (c.args.counts.before + c.args.counts.puts) - z) c.tickets_below-earlier.ensures
    ∙ tickets_are c.args.row c.args.counts.before c.args.counts.puts c.if-row-lt10242.false
