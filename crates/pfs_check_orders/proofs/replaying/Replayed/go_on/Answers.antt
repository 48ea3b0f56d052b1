use Rattle.std.proofs.Common.{subst, sym, ◌∙◌}
use Rattle.pfs_check_orders.specs.ActionOrders.{IsNext}
use Rattle.pfs_check_orders.specs.HeldCopies.{StandsAt}
use Rattle.pfs_check_orders.proofs.OrderFacts.{replayed_more}
use Rattle.pfs_check_orders.proofs.replaying.Replayed.go_on.Goals as goal

pub returns : goal.returns
returns c = λ setting change labels label own named replayed.
    replayed_more c.one_label_more.ensures c.asks.ensures.whole setting change labels label c.args.session c.args.what.now c.args.self.now.admin c.ask.new.admin
    c.args.self.now.blank c.ask.new.blank c.args.self.now.kept
    (record { entries = c.ask.new.log; infos = c.keep_infos.new.infos; held = c.follow.new.self; orders = c.push.new.self })
    c.in_ok-order.order c.in_ok-order-2.order c.in_ok-held.held c.in_ok-held.ensures.more.0
    own named replayed c.in_ok-order.ensures.step c.in_ok-order.ensures.ready
    (subst (λ z. IsNext c.args.self.now.admin c.args.session c.args.what.now z c.ask.new.log.entries c.in_ok-order.order)
    c.in_ok-make_room.ensures.same c.in_ok-order.ensures.next)
    c.in_ok-order.ensures.written c.in_ok-order-2.ensures.order c.in_ok-order-2.ensures.infos
    (c.follow.ensures.tables ∙ c.in_ok-held.ensures.more.1)
    (λ e. subst (λ z. StandsAt c.args.self.now.admin z c.in_ok-held.held) (sym c.follow.ensures.tables) (c.in_ok-held.ensures.stands replayed.current e))
    (c.follow.ensures.current c.args.self.now.admin c.args.session (c.in_ok-held.ensures.current replayed.current))
    c.in_ok-push.ensures.items
