use Rattle.std.proofs.Common.{◌≡◌, max, take}
use Rattle.pfs_view.specs.Grids.{greatest}
use Rattle.pfs_html.specs.Rankings.{number_at}
use Rattle.pfs_html.proofs.ranks.greatest_number.Given as goal

abbrev pub invariant-loop-row : goal.invariant-loop-row
invariant-loop-row l = l.most ≡ max 0 (greatest (number_at l.column) (take l.row-index l.rows))
