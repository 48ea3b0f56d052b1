use Rattle.pfs_law_joint.proofs.SameContents.{same_contents}
use Rattle.pfs_law_joint.proofs.laws.same.Goals as goal

pub returns : goal.returns
returns c = same_contents
