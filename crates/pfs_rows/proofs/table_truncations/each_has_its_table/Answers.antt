use Rattle.pfs_rows.proofs.TableTruncations.{law}
use Rattle.pfs_rows.proofs.table_truncations.each_has_its_table.Goals as goal

pub returns : goal.returns
returns c = law
