use Rattle.std.proofs.Common.{◌∙◌}
use Rattle.pfs_board_root.proofs.SeatSplits.{same_root}
use Rattle.pfs_board_root.proofs.root.Root.into_seats.Goals as goal

pub returns-clause-same : goal.returns-clause-same
returns-clause-same g c =
    let r = c.self.inside in
    same_root _ _ r.board.now r.switches.now r.tickets.now r.seats c.self.invariant ∙ c.self.view_is
