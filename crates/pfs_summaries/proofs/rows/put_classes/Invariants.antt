use Rattle.std.proofs.Common.{◌≡◌}
use Rattle.std.specs.List.{flat_map, range_with_len}
use Rattle.pfs_summaries.specs.ReadingSteps.{tally_in}
use Rattle.pfs_summaries.specs.Summaries.{class_rows, put_rows}
use Rattle.pfs_summaries.proofs.rows.put_classes.Given as goal

abbrev pub invariant-loop-id : goal.invariant-loop-id
invariant-loop-id l = l.rows.entries ≡ put_rows l.initial.rows.entries (flat_map (class_rows l.setting l.owner.kind l.owner.which l.owner.place (tally_in l.tallies l.owner.place) l.head) (range_with_len 0 l.id))
