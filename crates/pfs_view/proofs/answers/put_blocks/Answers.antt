use Rattle.std.proofs.Common.{arith, length}
use Rattle.pfs_view.specs.Answers.{block_at, blocks_text}
use Rattle.pfs_view.proofs.PlacedWrites.{written_all, written_more, written_stop}
use Rattle.pfs_view.proofs.answers.put_blocks.Goals as goal

pub loop-place-preserved : goal.loop-place-preserved
loop-place-preserved g c =
    written_more (block_at c.args.times c.args.blocks.now c.args.reports.now) c.loop-place.place (g.K.Sink.written c.args.sink.now) (g.K.Sink.written c.loop-place.sink) (g.K.Sink.written c.put_block_at.new.sink) (g.K.Sink.faults c.args.sink.now) (g.K.Sink.faults c.loop-place.sink) (g.K.Sink.faults c.put_block_at.new.sink) c.loop-place.invariant c.in-Ok.ensures

pub returns-in-Err : goal.returns-in-Err
unfolding blocks_text
returns-in-Err g c =
    written_stop (block_at c.args.times c.args.blocks.now c.args.reports.now) (length c.args.reports.now) c.loop-place.place (g.K.Sink.written c.args.sink.now) (g.K.Sink.written c.loop-place.sink) (g.K.Sink.written c.put_block_at.new.sink) (g.K.Sink.faults c.args.sink.now) (g.K.Sink.faults c.loop-place.sink) (g.K.Sink.faults c.put_block_at.new.sink) c.in-Err.stop (omega arith) c.loop-place.invariant c.in-Err.ensures

pub returns : goal.returns
unfolding blocks_text
returns g c =
    written_all (block_at c.args.times c.args.blocks.now c.args.reports.now) (length c.args.reports.now) c.loop-place.place (g.K.Sink.written c.args.sink.now) (g.K.Sink.written c.loop-place.sink) (g.K.Sink.faults c.args.sink.now) (g.K.Sink.faults c.loop-place.sink) (omega arith) c.loop-place.invariant
