use Rattle.pfs_view.specs.Answers.{exchange_of, outcome_text}
use Rattle.pfs_view.proofs.PlacedWrites.{written_past}
use Rattle.pfs_view.proofs.answers.Dialogue.put_outcome_at.Goals as goal

pub returns-in-None : goal.returns-in-None
returns-in-None g c =
    written_past (outcome_text (exchange_of c.args.self.now)) c.args.self.now.outcomes.now c.args.place (g.K.Sink.written c.args.sink.now) (g.K.Sink.faults c.args.sink.now) c.in-None.ensures.lookup.0
