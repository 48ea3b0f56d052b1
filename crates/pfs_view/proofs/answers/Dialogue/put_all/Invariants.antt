use Rattle.pfs_view.specs.Answers.{answered_text, exchange_of}
use Rattle.pfs_view.proofs.PlacedWrites.{WrittenTo}
use Rattle.pfs_view.proofs.answers.Dialogue.put_all.Given as goal

abbrev pub invariant-loop-place : goal.invariant-loop-place
invariant-loop-place g l = WrittenTo (answered_text (exchange_of l.self)) l.place (g.K.Sink.written l.fn.sink) (g.K.Sink.written l.sink) (g.K.Sink.faults l.fn.sink) (g.K.Sink.faults l.sink)
