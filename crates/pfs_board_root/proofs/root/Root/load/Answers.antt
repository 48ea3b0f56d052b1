use Rattle.pfs_board_root.proofs.Looks.{loaded_rooted}
use Rattle.pfs_board_root.proofs.root.Root.load.Goals as goal

pub invariant_of-self : goal.invariant_of-self
invariant_of-self g c =
    let r = c.self.inside in
    loaded_rooted _ _ r.board.now r.switches.now r.tickets.now r.seats.board r.seats.switches c.load.new.seat r.seats.tickets c.args.word c.load.result.0 c.load.result.1 c.load.ensures.switches c.load.ensures.view c.self.invariant
