use Rattle.pfs_view.specs.ShownReports.{blocks_at, chosen_of, phase_at, phase_text}
use Rattle.pfs_view.proofs.PlacedWrites.{written_past}
use Rattle.pfs_view.proofs.phases.put_phase_at.Goals as goal

pub returns-in-None : goal.returns-in-None
unfolding phase_at
returns-in-None g c =
    written_past (phase_text (chosen_of c.args.choice.now) (blocks_at c.args.said.now c.args.place)) c.args.phases.now c.args.place (g.K.Sink.written c.args.sink.now) (g.K.Sink.faults c.args.sink.now) c.in-None.ensures.lookup.0
