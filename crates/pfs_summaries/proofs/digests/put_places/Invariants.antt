use Rattle.std.proofs.Common.{◌≡◌, ◌++◌}
use Rattle.std.specs.List.{flat_map, range_with_len}
use Rattle.pfs_summaries.specs.DigestRows.{digest_row}
use Rattle.pfs_summaries.proofs.digests.put_places.Given as goal

abbrev pub invariant-loop-place : goal.invariant-loop-place
invariant-loop-place l = l.rows.items ≡ l.initial.rows.items ++ flat_map (digest_row l.digests l.contents) (range_with_len 0 l.place)
