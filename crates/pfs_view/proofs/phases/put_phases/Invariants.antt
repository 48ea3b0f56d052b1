use Rattle.pfs_view.specs.ShownReports.{chosen_of, phase_at}
use Rattle.pfs_view.proofs.PlacedWrites.{WrittenTo}
use Rattle.pfs_view.proofs.phases.put_phases.Given as goal

abbrev pub invariant-loop-place : goal.invariant-loop-place
invariant-loop-place g l = WrittenTo (phase_at (chosen_of l.choice) l.said l.phases) l.place (g.K.Sink.written l.fn.sink) (g.K.Sink.written l.sink) (g.K.Sink.faults l.fn.sink) (g.K.Sink.faults l.sink)
