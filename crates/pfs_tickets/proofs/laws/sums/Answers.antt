use Rattle.pfs_tickets.proofs.LawFacts.{sum_law}
use Rattle.pfs_tickets.proofs.laws.sums.Goals as goal

pub returns : goal.returns
returns c = sum_law
