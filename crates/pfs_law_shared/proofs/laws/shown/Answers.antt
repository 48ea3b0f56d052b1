use Rattle.pfs_law_shared.proofs.SharedAnswers.{shown}
use Rattle.pfs_law_shared.proofs.laws.shown.Goals as goal

pub returns : goal.returns
returns c = shown c.agreed.ensures
