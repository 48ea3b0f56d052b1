use Rattle.std.proofs.Common.{◌≡◌, []}
use Rattle.std.specs.Prelude.{fold}
use Rattle.pfs_html.specs.Rankings.{with_rank}
use Rattle.pfs_html.specs.Cells.{places_below}
use Rattle.pfs_html.proofs.ranks.places_by_time.Given as goal

abbrev pub invariant-loop-place : goal.invariant-loop-place
invariant-loop-place l = l.ranks.entries ≡ fold (with_rank l.column l.rows) [] (places_below l.place)
