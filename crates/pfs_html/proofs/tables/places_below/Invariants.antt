use Rattle.std.proofs.Common.{◌≡◌}
use Rattle.pfs_html.specs.Cells.{places_below}
use Rattle.pfs_html.proofs.tables.places_below.Given as goal

abbrev pub invariant-loop-place : goal.invariant-loop-place
invariant-loop-place l = l.places.items ≡ places_below l.place
