use Rattle.std.proofs.Common.{◌≤◌, take}
use Rattle.std.specs.List.{flat_map}
use Rattle.pfs_outside.specs.DeviceCalls.{Added}
use Rattle.pfs_view.specs.ShownReports.{chosen_of, chosen_text}
use Rattle.pfs_view.proofs.phases.put_tables.Given as goal

abbrev pub invariant-loop-table : goal.invariant-loop-table
invariant-loop-table g l = Added (g.K.Sink.written l.fn.sink) (g.K.Sink.written l.sink) (flat_map (chosen_text (chosen_of l.choice)) (take l.table-index l.tables)) × (g.K.Sink.faults l.fn.sink ≤ g.K.Sink.faults l.sink)
