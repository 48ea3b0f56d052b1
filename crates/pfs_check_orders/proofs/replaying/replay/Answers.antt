use Rattle.std.proofs.Common.{◌∙◌, get_or, refl, subst, sym, take}
use Rattle.std.proofs.lemmas.List.{take_all}
use Rattle.pfs_board.specs.declared.view.Label.{Label}
use Rattle.pfs_runs.specs.ScriptLines.{change_in}
use Rattle.pfs_check_orders.specs.ActionOrders.{AreOrders}
use Rattle.pfs_check_orders.specs.HeldCopies.{AreShown}
use Rattle.pfs_check_orders.specs.InfoWords.{AreInfos}
use Rattle.pfs_check_orders.specs.Replays.{IsReplayed}
use Rattle.pfs_check_orders.proofs.OrderFacts.{labels_more, named_still}
use Rattle.pfs_check_orders.proofs.replaying.replay.Goals as goal

pub go_on-requires-clause-named : goal.go_on-requires-clause-named
go_on-requires-clause-named c =
    let first : Label = record { session = 0; line = 0 } in
    named_still c.names_and_cells_stay.ensures c.args.setting.now (change_in c.args.phases.now) (take c.loop-label.label-index c.args.labels.now)
    c.loop-label.replay.admin c.loop-label.replay.blank c.loop-label.replay.kept (get_or c.args.labels.now c.loop-label.label-index first)
    c.change_or-what.result.now c.loop-label.invariant c.requires
    (sym (c.change_or-what.ensures refl ∙ c.change.ensures c.args.phases.now c.in_ok-actions.ensures))

pub go_on-requires-clause-ready : goal.go_on-requires-clause-ready
go_on-requires-clause-ready c = c.loop-label.invariant.ready

pub loop-label-preserved : goal.loop-label-preserved
loop-label-preserved c =
    let first : Label = record { session = 0; line = 0 } in
    labels_more c.args.labels.now c.loop-label.label-index first
    (λ z. IsReplayed c.args.setting.now (change_in c.args.phases.now) z c.go_on.new.self.admin c.go_on.new.self.blank c.go_on.new.self.kept)
    c.loop-label-test.true
    (c.in_ok-go_on.ensures c.args.setting.now (change_in c.args.phases.now) (take c.loop-label.label-index c.args.labels.now)
    (get_or c.args.labels.now c.loop-label.label-index first) refl
    (sym (c.change_or-what.ensures refl ∙ c.change.ensures c.args.phases.now c.in_ok-actions.ensures)) c.loop-label.invariant)

pub returns-clause-orders : goal.returns-clause-orders
returns-clause-orders c =
    subst (λ z. AreOrders c.args.setting.now (change_in c.args.phases.now) z c.loop-label.replay.kept.entries.entries c.loop-label.replay.kept.orders.items)
    (take_all c.loop-label.label-index c.args.labels.now c.loop-label-test.false) c.loop-label.invariant.orders

pub returns-clause-infos : goal.returns-clause-infos
returns-clause-infos c =
    subst (λ z. AreInfos c.args.setting.now (change_in c.args.phases.now) z c.loop-label.replay.kept.infos.items c.loop-label.replay.kept.orders.items)
    (take_all c.loop-label.label-index c.args.labels.now c.loop-label-test.false) c.loop-label.invariant.infos

pub returns-clause-shown : goal.returns-clause-shown
returns-clause-shown c =
    subst (λ z. AreShown c.args.setting.now (change_in c.args.phases.now) z c.loop-label.replay.kept.held.tables.items c.loop-label.replay.kept.orders.items)
    (take_all c.loop-label.label-index c.args.labels.now c.loop-label-test.false) c.loop-label.invariant.shown
