use Rattle.std.proofs.Common.{◌≡◌, ◌-◌}
use Rattle.pfs_readsets.specs.ReadSets.{passing}
use Rattle.pfs_readsets.specs.ReadProgress.{own_rows}
use Rattle.pfs_readsets.proofs.read_set.ReadSet.next_row.Given as goal

abbrev pub invariant-loop-row : goal.invariant-loop-row
invariant-loop-row l = passing (own_rows l.self) l.self.row (14242 - l.self.row) ≡ passing (own_rows l.self) l.row (14242 - l.row)

abbrev pub decreases-loop-row : goal.decreases-loop-row
decreases-loop-row l = 14242 - l.row
