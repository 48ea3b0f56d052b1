use Rattle.std.proofs.Common.{◌≤◌, take}
use Rattle.std.specs.Prelude.{filter}
use Rattle.std.specs.List.{flat_map}
use Rattle.pfs_journal.specs.Spelling.{table_text}
use Rattle.pfs_law_load.specs.LoadText.{is_summary}
use Rattle.pfs_outside.specs.DeviceCalls.{Added}
use Rattle.pfs_top.proofs.loads.put_summaries.Given as goal

abbrev pub invariant-loop-table : goal.invariant-loop-table
invariant-loop-table g l = Added (g.K.Sink.written l.fn.sink) (g.K.Sink.written l.sink) (flat_map table_text (filter is_summary (take l.table-index l.tables))) × (g.K.Sink.faults l.fn.sink ≤ g.K.Sink.faults l.sink)
