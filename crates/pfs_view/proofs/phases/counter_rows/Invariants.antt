use Rattle.std.proofs.Common.{◌≡◌, map, take}
use Rattle.pfs_view.specs.ShownReports.{counter_row}
use Rattle.pfs_view.proofs.phases.counter_rows.Given as goal

abbrev pub invariant-loop-one : goal.invariant-loop-one
invariant-loop-one l = l.rows.items ≡ map counter_row (take l.one-index l.lost)
