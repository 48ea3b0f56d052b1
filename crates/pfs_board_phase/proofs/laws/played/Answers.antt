use Rattle.pfs_board_phase.proofs.PhaseSteps.{played_so}
use Rattle.pfs_board_phase.proofs.laws.played.Goals as goal

pub returns : goal.returns
returns c =
    played_so c.playable.ensures c.few.ensures c.named.ensures c.actions.ensures c.next.ensures c.read.ensures c.placed.ensures c.agreed.ensures c.blocks-2.ensures c.tables.ensures c.names.ensures c.texts.ensures
    c.table_names.ensures
