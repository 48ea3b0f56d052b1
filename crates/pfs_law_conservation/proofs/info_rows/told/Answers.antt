use Rattle.pfs_law_conservation.proofs.InfoRows.{told_law}
use Rattle.pfs_law_conservation.proofs.info_rows.told.Goals as goal

pub returns : goal.returns
returns c = told_law
