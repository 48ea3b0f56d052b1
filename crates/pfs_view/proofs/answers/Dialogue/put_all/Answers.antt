use Rattle.std.proofs.Common.{arith, length}
use Rattle.pfs_view.specs.Answers.{answered_text, answered_texts, exchange_of}
use Rattle.pfs_view.proofs.PlacedWrites.{written_all, written_more, written_stop}
use Rattle.pfs_view.proofs.answers.Dialogue.put_all.Goals as goal

pub loop-place-preserved : goal.loop-place-preserved
loop-place-preserved g c =
    written_more (answered_text (exchange_of c.args.self.now)) c.loop-place.place (g.K.Sink.written c.args.sink.now) (g.K.Sink.written c.loop-place.sink) (g.K.Sink.written c.put_answered.new.sink) (g.K.Sink.faults c.args.sink.now) (g.K.Sink.faults c.loop-place.sink) (g.K.Sink.faults c.put_answered.new.sink) c.loop-place.invariant c.in-Ok.ensures

pub returns-in-Err : goal.returns-in-Err
unfolding answered_texts
returns-in-Err g c =
    written_stop (answered_text (exchange_of c.args.self.now)) (length c.args.self.now.outcomes.now) c.loop-place.place (g.K.Sink.written c.args.sink.now) (g.K.Sink.written c.loop-place.sink) (g.K.Sink.written c.put_answered.new.sink) (g.K.Sink.faults c.args.sink.now) (g.K.Sink.faults c.loop-place.sink) (g.K.Sink.faults c.put_answered.new.sink) c.in-Err.stop (omega arith) c.loop-place.invariant c.in-Err.ensures

pub returns : goal.returns
unfolding answered_texts
returns g c =
    written_all (answered_text (exchange_of c.args.self.now)) (length c.args.self.now.outcomes.now) c.loop-place.place (g.K.Sink.written c.args.sink.now) (g.K.Sink.written c.loop-place.sink) (g.K.Sink.faults c.args.sink.now) (g.K.Sink.faults c.loop-place.sink) (omega arith) c.loop-place.invariant
