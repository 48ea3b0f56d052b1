use Rattle.pfs_matching.proofs.KeyedRows.{has_key-tells}
use Rattle.pfs_matching.proofs.keyed_rows.has_key.Goals as goal

pub returns : goal.returns
returns g c = has_key-tells g.R.KeyedRow.key c.args.rows.now (g.R.KeyedRow.key c.args.row.now) c.any_equal.result c.any_equal.ensures
