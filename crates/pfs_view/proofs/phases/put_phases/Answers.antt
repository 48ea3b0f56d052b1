use Rattle.std.proofs.Common.{arith, length}
use Rattle.pfs_view.specs.ShownReports.{chosen_of, phase_at, phases_text}
use Rattle.pfs_view.proofs.PlacedWrites.{written_all, written_more, written_stop}
use Rattle.pfs_view.proofs.phases.put_phases.Goals as goal

pub loop-place-preserved : goal.loop-place-preserved
loop-place-preserved g c =
    written_more (phase_at (chosen_of c.args.choice.now) c.args.said.now c.args.phases.now) c.loop-place.place (g.K.Sink.written c.args.sink.now) (g.K.Sink.written c.loop-place.sink) (g.K.Sink.written c.put_phase_at.new.sink) (g.K.Sink.faults c.args.sink.now) (g.K.Sink.faults c.loop-place.sink) (g.K.Sink.faults c.put_phase_at.new.sink) c.loop-place.invariant c.in-Ok.ensures

pub returns-in-Err : goal.returns-in-Err
unfolding phases_text
returns-in-Err g c =
    written_stop (phase_at (chosen_of c.args.choice.now) c.args.said.now c.args.phases.now) (length c.args.phases.now) c.loop-place.place (g.K.Sink.written c.args.sink.now) (g.K.Sink.written c.loop-place.sink) (g.K.Sink.written c.put_phase_at.new.sink) (g.K.Sink.faults c.args.sink.now) (g.K.Sink.faults c.loop-place.sink) (g.K.Sink.faults c.put_phase_at.new.sink) c.in-Err.stop (omega arith) c.loop-place.invariant c.in-Err.ensures

pub returns : goal.returns
unfolding phases_text
returns g c =
    written_all (phase_at (chosen_of c.args.choice.now) c.args.said.now c.args.phases.now) (length c.args.phases.now) c.loop-place.place (g.K.Sink.written c.args.sink.now) (g.K.Sink.written c.loop-place.sink) (g.K.Sink.faults c.args.sink.now) (g.K.Sink.faults c.loop-place.sink) (omega arith) c.loop-place.invariant
