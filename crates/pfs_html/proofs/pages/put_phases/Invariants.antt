use Rattle.std.proofs.Common.{◌≤◌, take}
use Rattle.std.specs.List.{flat_map}
use Rattle.pfs_outside.specs.DeviceCalls.{Added}
use Rattle.pfs_html.specs.Pages.{phase_html}
use Rattle.pfs_html.proofs.pages.put_phases.Given as goal

abbrev pub invariant-loop-phase : goal.invariant-loop-phase
invariant-loop-phase g l = Added (g.K.Sink.written l.fn.sink) (g.K.Sink.written l.sink) (flat_map phase_html (take l.phase-index l.phases)) × (g.K.Sink.faults l.fn.sink ≤ g.K.Sink.faults l.sink)
