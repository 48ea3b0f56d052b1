use Rattle.std.proofs.Common.{refl, ap, ◌∙◌, arith}
use Rattle.pfs_admin.specs.AdministrationStates.{State}
use Rattle.pfs_admin.specs.declared.changes.Change.TheVariants as changes
use Rattle.pfs_containers.specs.ContainerState.{lost_in}
use Rattle.pfs_law_session.specs.Demands.{rooms_of}
use Rattle.pfs_check_orders.proofs.OrderFacts.{is_next}
use Rattle.pfs_check_orders.proofs.asking.connect.Goals as goal

pub returns-clause-next : goal.returns-clause-next
returns-clause-next c =
    is_next c.args.admin.now c.args.session (changes.Connect c.args.user c.args.host) _ 1 c.args.log.now c.ask_connect-placed.new.log _ refl
    c.ask_connect-placed.ensures.asked (omega (arith, c.count-start.ensures.count)) c.count.ensures.count (ap rooms_of c.ask_connect-placed.ensures.placed) refl
    (c.lost-lost.ensures ∙ ap (λ (z : State). lost_in z.kept.now) c.ask_connect-placed.ensures.step)
