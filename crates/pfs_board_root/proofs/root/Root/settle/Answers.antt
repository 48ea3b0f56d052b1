use Rattle.std.proofs.Common.{List, ◌∙◌, subst, sym}
use Rattle.pfs_board.specs.Knowledge.{IsWhole}
use Rattle.pfs_board.specs.declared.view.Label.{Label}
use Rattle.pfs_board_admin.specs.Desks.{IsDesk}
use Rattle.pfs_board_admin.proofs.DeskActions.{same_desk}
use Rattle.pfs_board_store.specs.RootActors.{AreGathered}
use Rattle.pfs_switches.specs.SeatViews.{Known}
use Rattle.pfs_switches.specs.SharedKnowledge.{IsTold}
use Rattle.pfs_admin.specs.OpeningState.{opening_flags}
use Rattle.pfs_matching.specs.ObjectRules.{opening_objects}
use Rattle.pfs_tickets.specs.Knowledge.{IsWhole as HasAllDraws}
use Rattle.pfs_tickets.specs.SeatViews.{Known as TicketsKnown}
use Rattle.pfs_board_root.specs.Roots.{RootView, root_view}
use Rattle.pfs_board_root.specs.Settlements.{HasSettled}
use Rattle.pfs_board_root.proofs.PhaseEnds.{settles}
use Rattle.pfs_board_root.proofs.root.Root.settle.Goals as goal

pub returns : goal.returns
returns g c = record {
  settled = λ actors gathered keep.
      let r = c.self.inside in
      let setting = g.N.Named.setting in
      let change = g.N.Named.change in
      let run = g.N.Shared.switches in
      let history = c.lend-desk.ensures.history in
      let parts = c.into_parts-admin in
      let here = subst (λ (z : RootView). AreGathered actors z.seat z.words z.draws) (sym c.self.view_is) gathered in
      let desk = same_desk setting change run _ _ _ c.lend-desk.ensures.value parts.result.0 parts.result.1 parts.ensures.admin parts.ensures.writer in
      let told = subst (λ (k : Known). IsTold c.meet.new.seat.view.start c.meet.new.seat.view k.view) c.meet.ensures.writer c.meet.ensures.told in
      subst (λ (z : RootView). HasSettled setting change (opening_flags setting opening_objects) run actors c.lost-lost.result z (root_view r.board.now r.switches.now r.tickets.now c.restore.new.seat c.meet.new.seat c.tell.new.seat)) c.self.view_is
      (settles r.board.now r.switches.now r.tickets.now r.seats.board c.restore.new.seat r.seats.switches c.meet.new.seat parts.result.1 r.seats.tickets c.tell.new.seat
      (c.restore.ensures.view ∙ c.lend-desk.ensures.view.1) c.meet.ensures.seat c.tell.ensures.seat c.met.ensures setting change run c.self.invariant history.0 history.1 parts.result.0
      (subst (λ (labels : List Label). IsDesk setting change run labels parts.result.0 parts.result.1) history.2 desk) told c.tell.ensures.complete c.lost-lost.result c.lost-lost.ensures actors here keep);
  whole =
      let seat = subst (λ (z : RootView). IsWhole z.seat) (sym c.self.view_is) c.requires.whole.0 in
      let draws = subst (λ (z : RootView). HasAllDraws z.draws) (sym c.self.view_is) c.requires.whole.1 in
      (subst IsWhole (sym (c.restore.ensures.view ∙ c.lend-desk.ensures.view.1)) seat, subst (λ (k : TicketsKnown). HasAllDraws k.view) (sym c.tell.ensures.seat) draws);
}
