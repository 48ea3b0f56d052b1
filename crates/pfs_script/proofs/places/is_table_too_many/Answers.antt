use Rattle.pfs_script.proofs.NextFinds.{too_many_of}
use Rattle.pfs_script.proofs.places.is_table_too_many.Goals as goal

pub returns : goal.returns
returns c before knows = too_many_of c.args.finds.now before c.args.line.now c.is_table_too_many.result knows c.is_table_too_many.ensures
