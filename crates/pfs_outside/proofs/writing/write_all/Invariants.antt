use Rattle.std.proofs.Common.{length, ◌-◌, ◌≤◌, take}
use Rattle.pfs_outside.specs.DeviceCalls.{Added}
use Rattle.pfs_outside.proofs.writing.write_all.Given as goal

abbrev pub invariant-loop-at : goal.invariant-loop-at
invariant-loop-at g l = (l.at ≤ length l.text) × Added (g.K.Sink.written l.fn.sink) (g.K.Sink.written l.sink) (take l.at l.text) × (g.K.Sink.faults l.fn.sink ≤ g.K.Sink.faults l.sink)

abbrev pub decreases-loop-at : goal.decreases-loop-at
decreases-loop-at g l = length l.text - l.at
