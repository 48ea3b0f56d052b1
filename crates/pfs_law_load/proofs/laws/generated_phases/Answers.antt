use Rattle.pfs_law_load.proofs.GeneratedPhases.{generated_law}
use Rattle.pfs_law_load.proofs.laws.generated_phases.Goals as goal

pub returns : goal.returns
returns c = generated_law
