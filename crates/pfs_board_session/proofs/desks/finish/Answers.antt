use Rattle.std.proofs.Common.{◌≡◌, List, subst, sym}
use Rattle.std.specs.Prelude.{IfSome}
use Rattle.atomic_table.specs.Seated.{TableId}
use Rattle.pfs_switches.specs.declared.view.Setting.{Setting}
use Rattle.pfs_switches.specs.SeatViews.{Known}
use Rattle.pfs_board_admin.proofs.DeskActions.{again}
use Rattle.pfs_board_session.proofs.desks.finish.Goals as goal

pub leave-requires-clause-value : goal.leave-requires-clause-value
leave-requires-clause-value g c =
    let begun = c.requires.stands in
    let parts = c.into_parts-rows.ensures in
    let from = subst (λ (t : TableId). IfSome c.into_parts-rows.result.1 (λ (x : Known). x.switches ≡ t)) begun.3 (parts.same begun.0 begun.1 begun.2) in
    let sets = subst (λ (ss : List Setting). IfSome c.into_parts-rows.result.1 (λ (x : Known). x.view.sets ≡ ss)) (sym begun.5) (parts.sets begun.0 begun.1 begun.2 _ begun.6) in (
      begun.0,
      begun.1,
      parts.call begun.0 begun.1 begun.2,
      again g.N.Named.setting g.N.Named.change g.N.Shared.switches _ _ _ _ _ _ _ begun.4 c.new.ensures.admin c.new.ensures.writer c.in-Some.is parts.words c.requires.lent from sets,
    )
