use Rattle.std.proofs.Common.{◌≤◌, take}
use Rattle.std.specs.List.{flat_map}
use Rattle.pfs_outside.specs.DeviceCalls.{Added}
use Rattle.pfs_view.specs.Grids.{row_line}
use Rattle.pfs_view.proofs.grids.Grid.put_rows.Given as goal

abbrev pub invariant-loop-row : goal.invariant-loop-row
invariant-loop-row g l = Added (g.K.Sink.written l.fn.sink) (g.K.Sink.written l.sink) (flat_map (row_line l.self.layout.headings l.self.layout.times l.widths) (take l.row-index l.self.rows.now)) × (g.K.Sink.faults l.fn.sink ≤ g.K.Sink.faults l.sink)
