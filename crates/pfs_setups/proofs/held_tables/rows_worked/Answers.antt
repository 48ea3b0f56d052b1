use Rattle.std.proofs.Common.{refl}
use Rattle.pfs_setups.proofs.held_tables.rows_worked.Goals as goal

pub returns : goal.returns
returns c = record { actors = refl; objects = refl; none = refl }
