use Rattle.pfs_law_script.proofs.BlockExamples.{worked}
use Rattle.pfs_law_script.proofs.blocks.worked.Goals as goal

pub returns : goal.returns
returns c = worked
