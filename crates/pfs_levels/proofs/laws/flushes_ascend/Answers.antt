use Rattle.pfs_levels.proofs.FlushedRows.{flushes_ascend}
use Rattle.pfs_levels.proofs.laws.flushes_ascend.Goals as goal

pub returns : goal.returns
returns c = flushes_ascend
