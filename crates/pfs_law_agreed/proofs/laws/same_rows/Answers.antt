use Rattle.pfs_law_agreed.proofs.SameRows.{rows_law}
use Rattle.pfs_law_agreed.proofs.laws.same_rows.Goals as goal

pub returns : goal.returns
returns c = rows_law c.counted.ensures c.digested.ensures
