use Rattle.pfs_law_phases.proofs.NextPhase.{ended}
use Rattle.pfs_law_phases.proofs.laws.run.Goals as goal

pub returns : goal.returns
returns c = ended c.run.ensures
