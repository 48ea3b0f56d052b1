use Rattle.pfs_view.specs.Answers.{block_at}
use Rattle.pfs_view.proofs.PlacedWrites.{WrittenTo}
use Rattle.pfs_view.proofs.answers.put_blocks.Given as goal

abbrev pub invariant-loop-place : goal.invariant-loop-place
invariant-loop-place g l = WrittenTo (block_at l.times l.blocks l.reports) l.place (g.K.Sink.written l.fn.sink) (g.K.Sink.written l.sink) (g.K.Sink.faults l.fn.sink) (g.K.Sink.faults l.sink)
