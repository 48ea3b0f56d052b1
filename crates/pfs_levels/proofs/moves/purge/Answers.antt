use Rattle.std.proofs.Common.{rules}
use Rattle.pfs_levels.proofs.MoveLists.{purged_row}
use Rattle.pfs_levels.proofs.moves.purge.Goals as goal

pub returns-clause-purged : goal.returns-clause-purged
returns-clause-purged g c = purged_row _ _ _ _ _ _ _ _ _ c.row_of-row.ensures.number c.take-version.ensures.call (c.free.ensures.call _ c.take-version.ensures.mine) (search rules)
