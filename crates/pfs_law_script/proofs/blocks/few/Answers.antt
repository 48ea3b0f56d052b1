use Rattle.pfs_law_script.proofs.BlockCounts.{few}
use Rattle.pfs_law_script.proofs.blocks.few.Goals as goal

pub returns : goal.returns
returns c = few
