use Rattle.pfs_law_script.proofs.BlockCounts.{named}
use Rattle.pfs_law_script.proofs.blocks.named.Goals as goal

pub returns : goal.returns
returns c = named
