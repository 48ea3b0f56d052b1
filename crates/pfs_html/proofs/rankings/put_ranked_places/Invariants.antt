use Rattle.std.proofs.Common.{◌≡◌, ◌++◌, take}
use Rattle.std.specs.List.{flat_map}
use Rattle.pfs_html.specs.Rankings.{ranked_html}
use Rattle.pfs_html.proofs.rankings.put_ranked_places.Given as goal

abbrev pub invariant-loop-place : goal.invariant-loop-place
invariant-loop-place l = l.pen.page.items ≡ l.initial.pen.page.items ++ flat_map (ranked_html l.ranking l.most l.rows) (take l.place-index l.places)
