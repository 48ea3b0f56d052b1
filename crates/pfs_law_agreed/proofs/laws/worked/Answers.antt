use Rattle.pfs_law_agreed.proofs.AgreedExamples.{worked as agreement}
use Rattle.pfs_law_agreed.proofs.laws.worked.Goals as goal

pub returns : goal.returns
returns c = agreement
