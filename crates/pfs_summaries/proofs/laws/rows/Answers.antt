use Rattle.pfs_summaries.proofs.RowKeys.{ascending, given}
use Rattle.pfs_summaries.proofs.laws.rows.Goals as goal

pub returns : goal.returns
returns c = record { ascending = ascending; given = given }
