use Rattle.pfs_law_conservation.proofs.InfoRowExamples.{worked}
use Rattle.pfs_law_conservation.proofs.info_rows.worked.Goals as goal

pub returns : goal.returns
returns c = worked
