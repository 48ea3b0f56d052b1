use Rattle.std.proofs.Common.{ap, sym, ◌∙◌}
use Rattle.pfs_classes.specs.declared.setting.Setting.{Setting}
use Rattle.pfs_matching.specs.ObjectRules.{opening_objects}
use Rattle.pfs_admin.specs.OpeningState.{opened, opening_flags}
use Rattle.pfs_switches.specs.SeatViews.{Known}
use Rattle.pfs_board_admin.specs.Desks.{opening_pen}
use Rattle.pfs_board_admin.proofs.NewWords.{fresh_desk}
use Rattle.pfs_board_admin.proofs.desk.Desk.open.Goals as goal

pub returns : goal.returns
returns g c =
    fresh_desk g.N.Named.setting g.N.Named.change g.N.Shared.switches c.new.result.admin c.new.result.writer
    (c.new.ensures.admin ∙ (c.in_ok-admin.ensures ∙ ap opened (sym c.requires.setting)))
    (ap (λ (pen : Known). pen.view) c.new.ensures.writer
    ∙ (c.requires.fresh ∙ ap (λ (s : Setting). opening_pen (opening_flags s opening_objects)) (sym c.requires.setting)))
    (ap (λ (pen : Known). pen.switches) c.new.ensures.writer ∙ c.requires.switches)
