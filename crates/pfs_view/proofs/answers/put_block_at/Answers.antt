use Rattle.pfs_view.specs.Answers.{block_at, block_beside}
use Rattle.pfs_view.proofs.PlacedWrites.{written_past}
use Rattle.pfs_view.proofs.answers.put_block_at.Goals as goal

pub returns-in-None : goal.returns-in-None
unfolding block_at
returns-in-None g c =
    written_past (block_beside c.args.times c.args.blocks.now c.args.place) c.args.reports.now c.args.place (g.K.Sink.written c.args.sink.now) (g.K.Sink.faults c.args.sink.now) c.in-None.ensures.lookup.0
