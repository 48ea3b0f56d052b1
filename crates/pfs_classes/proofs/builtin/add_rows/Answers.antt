use Rattle.pfs_classes.proofs.RowTexts.{contains_row}
use Rattle.pfs_classes.proofs.builtin.add_rows.Goals as goal

pub id_of-requires-clause-known : goal.id_of-requires-clause-known
id_of-requires-clause-known c = c.requires.known _ (contains_row c.args.rows.now c.loop-row.row-index _ c.loop-row-test.true)
