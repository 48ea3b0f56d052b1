use Rattle.pfs_tickets.proofs.LawFacts.{phase_law}
use Rattle.pfs_tickets.proofs.laws.phases.Goals as goal

pub returns : goal.returns
returns c = phase_law
