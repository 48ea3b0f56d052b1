use Rattle.std.proofs.Common.{◌≡◌, []}
use Rattle.std.specs.List.{flat_map, range_with_len}
use Rattle.pfs_summaries.specs.ReadingSteps.{tally_in}
use Rattle.pfs_summaries.specs.Summaries.{place_rows, put_rows}
use Rattle.pfs_summaries.proofs.rows.put_places.Given as goal

abbrev pub invariant-loop-place : goal.invariant-loop-place
invariant-loop-place l = l.rows.entries ≡ put_rows [] (flat_map (place_rows l.setting l.kind l.which l.infos (tally_in l.tallies)) (range_with_len 0 l.place))
