use Rattle.std.proofs.Common.{◌∷◌, [], ap, arith, subst}
use Rattle.pfs_board.specs.SeatViews.{Known as BoardKnown}
use Rattle.pfs_tickets.specs.SeatViews.{Known as TicketsKnown}
use Rattle.pfs_board_root.specs.Roots.{HasTakenIn, RootView, root_view}
use Rattle.pfs_board_root.proofs.SeatJoins.{joins_rooted, takes}
use Rattle.pfs_board_root.proofs.root.Root.take_in.Goals as goal

pub invariant_of-self : goal.invariant_of-self
invariant_of-self g c =
    let r = c.self.inside in
    joins_rooted r.board.now r.switches.now r.tickets.now r.seats.board c.join.new.seat c.into_seats-board.result.board r.seats.switches c.join-2.new.seat c.into_seats-board.result.switches r.seats.tickets c.join-3.new.seat
    c.into_seats-board.result.tickets c.join.ensures.seat c.join-2.ensures.seat c.join-3.ensures.seat _ _ c.join.ensures.hands c.self.invariant

pub returns : goal.returns
returns g c = record {
  taken = λ x known.
      let r = c.self.inside in
      let is = c.into_rows.ensures.led x.start x.calls known.reached in
      let made = c.into_seats-board.ensures.made x.start x.calls is.reached in
      subst (λ (z : RootView). HasTakenIn g.N.Named.setting g.N.Named.change (x ∷ []) z (root_view r.board.now r.switches.now r.tickets.now c.join.new.seat c.join-2.new.seat c.join-3.new.seat)) c.self.view_is
      (takes r.board.now r.switches.now r.tickets.now r.seats.board c.join.new.seat c.into_seats-board.result.board r.seats.switches c.join-2.new.seat c.into_seats-board.result.switches r.seats.tickets c.join-3.new.seat
      c.into_seats-board.result.tickets c.join.ensures.seat c.join-2.ensures.seat c.join-3.ensures.seat c.gathered.ensures g.N.Named.setting g.N.Named.change g.N.Shared.switches _ x is made c.self.invariant.known
      c.join.ensures.stake c.join-2.ensures.seen);
  back = omega (arith, ap (λ (k : BoardKnown). k.view.allowance) c.join.ensures.seat, c.into_seats-board.ensures.left, c.into_rows.ensures.left, ap (λ (z : RootView). z.seat.allowance) c.self.view_is);
  draws_back = omega (arith, ap (λ (k : TicketsKnown). k.view.draws) c.join-3.ensures.seat, c.into_seats-board.ensures.draws, c.into_rows.ensures.draws, ap (λ (z : RootView). z.draws.draws) c.self.view_is);
}
