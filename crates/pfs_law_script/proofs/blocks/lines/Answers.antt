use Rattle.pfs_law_script.proofs.BlockCounts.{lines}
use Rattle.pfs_law_script.proofs.blocks.lines.Goals as goal

pub returns : goal.returns
returns c = lines
