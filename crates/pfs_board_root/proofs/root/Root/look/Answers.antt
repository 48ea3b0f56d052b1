use Rattle.std.proofs.Common.{arith}
use Rattle.pfs_board_root.proofs.Looks.{looked_rooted}
use Rattle.pfs_board_root.proofs.OwnReadings.{idle_rows}
use Rattle.pfs_board_root.proofs.root.Root.look.Goals as goal

pub invariant_of-self : goal.invariant_of-self
invariant_of-self g c =
    let r = c.self.inside in
    looked_rooted _ _ r.board.now r.switches.now r.tickets.now r.seats.board c.read.new.seat r.seats.switches r.seats.tickets c.args.row c.read.result c.read.ensures.board c.read.ensures.answer c.read.ensures.hands.1 c.self.invariant

pub read-requires-clause-row : goal.read-requires-clause-row
read-requires-clause-row g c =
    let i = c.self.invariant in
    (omega (arith, i.wide, c.requires.row), idle_rows c.self.inside.seats.board.view.rows c.args.row i.empty)
