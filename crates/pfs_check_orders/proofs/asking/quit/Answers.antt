use Rattle.std.proofs.Common.{refl, [], ap, ◌∙◌, arith}
use Rattle.pfs_admin.specs.AdministrationStates.{State}
use Rattle.pfs_admin.specs.declared.changes.Change.TheVariants as changes
use Rattle.pfs_containers.specs.ContainerState.{lost_in}
use Rattle.pfs_law_session.specs.Demands.{answer_by}
use Rattle.pfs_check_orders.proofs.OrderFacts.{is_next}
use Rattle.pfs_check_orders.proofs.asking.quit.Goals as goal

pub returns-clause-next : goal.returns-clause-next
returns-clause-next c =
    is_next c.args.admin.now c.args.session changes.Quit [] 0 c.args.log.now c.ask_quit.new.log c.order_from.result refl
    c.ask_quit.ensures.asked (omega (arith, c.order_from.ensures.start, c.count-start.ensures.count)) c.order_from.ensures.end
    c.order_from.ensures.placed (ap answer_by c.order_from.ensures.reply)
    (c.order_from.ensures.lost ∙ (c.lost-lost.ensures ∙ ap (λ (z : State). lost_in z.kept.now) c.ask_quit.ensures.step))
