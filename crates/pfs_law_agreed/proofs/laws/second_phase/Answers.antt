use Rattle.pfs_law_agreed.proofs.FirstPhases.{second_law}
use Rattle.pfs_law_agreed.proofs.laws.second_phase.Goals as goal

pub returns : goal.returns
returns c = second_law c.first_phase.ensures c.quiet_phase.ensures
