use Rattle.pfs_view.specs.Answers.{block_beside, block_text}
use Rattle.pfs_view.proofs.PlacedWrites.{written_past}
use Rattle.pfs_view.proofs.answers.put_block_beside.Goals as goal

pub returns-in-None : goal.returns-in-None
unfolding block_beside
returns-in-None g c =
    written_past (block_text c.args.times c.args.report.now) c.args.blocks.now c.args.place (g.K.Sink.written c.args.sink.now) (g.K.Sink.faults c.args.sink.now) c.in-None.ensures.lookup.0
