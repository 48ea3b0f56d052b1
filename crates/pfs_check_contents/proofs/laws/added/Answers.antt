use Rattle.pfs_check_contents.proofs.HeldSteps.{added}
use Rattle.pfs_check_contents.proofs.laws.added.Goals as goal

pub returns : goal.returns
returns c = added c.merge.ensures
