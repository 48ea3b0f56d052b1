use Rattle.pfs_law_agreed.proofs.FirstPhases.{first_law}
use Rattle.pfs_law_agreed.proofs.laws.first_phase.Goals as goal

pub returns : goal.returns
returns c = first_law c.kept.ensures c.orderly.ensures
