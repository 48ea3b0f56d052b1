use Rattle.std.proofs.Common.{◌≤◌, take}
use Rattle.std.specs.List.{All, flat_map}
use Rattle.pfs_outside.specs.DeviceCalls.{Added}
use Rattle.pfs_journal.proofs.writing.put_each.Given as goal

abbrev pub invariant-loop-part : goal.invariant-loop-part
invariant-loop-part g l =
    Added (g.K.Sink.written l.fn.sink) (g.K.Sink.written l.sink) (flat_map g.T.Spelled.text (take l.part-index l.parts)) × (g.K.Sink.faults l.fn.sink ≤ g.K.Sink.faults l.sink)
    × All g.T.Spelled.fits (take l.part-index l.parts)
