use Rattle.std.proofs.Common.{subst}
use Rattle.pfs_check_rings.specs.RingRules.{IsLeast, line_of_causes, line_of_tickets}
use Rattle.pfs_check_rings.proofs.RingParts.{rings_judged}
use Rattle.pfs_check_rings.proofs.least.rings_line.Goals as goal

pub returns : goal.returns
returns c = λ case found tickets causes dues.
    rings_judged case found c.args.tickets c.args.causes c.args.dues c.least-entries.result c.least.result
    (subst (λ z. IsLeast z (line_of_causes c.args.causes) c.least-entries.result) c.line_of_tickets.ensures
    (subst (λ z. IsLeast c.line_of_tickets.result z c.least-entries.result) c.line_of_causes.ensures c.least-entries.ensures))
    (subst (λ z. IsLeast c.least-entries.result z c.least.result) c.line_of_dues.ensures c.least.ensures)
    tickets causes dues
