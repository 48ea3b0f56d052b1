use Rattle.pfs_law_agreed.proofs.AgreedExamples.{worked_phases as phases}
use Rattle.pfs_law_agreed.proofs.laws.worked_phases.Goals as goal

pub returns : goal.returns
returns c = phases
