use Rattle.pfs_html.specs.Pages.{phase_html, phases_html}
use Rattle.pfs_view.proofs.WrittenParts.{stopped_at}
use Rattle.pfs_html.proofs.pages.put_phases.Goals as goal

pub returns-in-Err : goal.returns-in-Err
unfolding phases_html
returns-in-Err g c =
    stopped_at phase_html c.args.phases.now c.loop-phase.phase-index c.phase-item.result (g.K.Sink.written c.args.sink.now) (g.K.Sink.written c.loop-phase.sink) (g.K.Sink.written c.put_phase.new.sink) (g.K.Sink.faults c.args.sink.now) (g.K.Sink.faults c.loop-phase.sink) (g.K.Sink.faults c.put_phase.new.sink) c.in-Err.stop c.loop-phase-test.true c.phase-item.is c.loop-phase.invariant c.in-Err.ensures
