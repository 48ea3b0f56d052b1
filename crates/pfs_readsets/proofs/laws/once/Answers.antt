use Rattle.pfs_readsets.proofs.Members.{once}
use Rattle.pfs_readsets.proofs.laws.once.Goals as goal

pub returns : goal.returns
returns c = once
