use Rattle.std.proofs.Common.{refl, [], ap, arith, ◌∙◌}
use Rattle.pfs_admin.specs.AdministrationStates.{State}
use Rattle.pfs_admin.specs.declared.changes.Change.TheVariants as changes
use Rattle.pfs_containers.specs.ContainerState.{lost_in}
use Rattle.pfs_law_session.specs.Demands.{answer_by}
use Rattle.pfs_check_orders.proofs.OrderFacts.{is_next}
use Rattle.pfs_check_orders.proofs.asking.change.Goals as goal

pub returns-clause-next : goal.returns-clause-next
returns-clause-next c =
    is_next c.args.admin.now c.args.session (changes.Setup c.args.what.now) [] 0 c.args.log.now c.reply_to.new.log c.order_from.result refl
    c.in_ok-reply.ensures.asked (omega (arith, c.order_from.ensures.start, c.count-start.ensures.count)) c.order_from.ensures.end
    c.order_from.ensures.placed (ap answer_by (c.order_from.ensures.reply ∙ c.in_ok-reply.ensures.reply))
    (c.order_from.ensures.lost ∙ (c.lost-lost.ensures ∙ ap (λ (z : State). lost_in z.kept.now) c.in_ok-reply.ensures.step))
