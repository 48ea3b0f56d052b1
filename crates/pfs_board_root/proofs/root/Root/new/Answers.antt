use Rattle.pfs_board_root.proofs.SeatSplits.{first_rooted}
use Rattle.pfs_board_root.proofs.root.Root.new.Goals as goal

pub invariant_of-result : goal.invariant_of-result
invariant_of-result g c =
    let a = c.args in
    first_rooted _ _ a.board.now a.switches.now a.tickets.now a.seats.board a.seats.switches a.seats.tickets c.requires.board c.requires.words.0 c.requires.words.1 c.requires.tickets c.requires.run c.requires.sizes
