use Rattle.std.proofs.Common.{ap}
use Rattle.pfs_event.specs.Logs.{Journal}
use Rattle.pfs_check_orders.proofs.OrderFacts.{none_replayed}
use Rattle.pfs_check_orders.proofs.replaying.Replayed.open.Goals as goal

pub returns : goal.returns
returns c = λ change.
    none_replayed c.args.setting.now change c.in_ok-admin.admin c.in_ok-blank.blank
    (record { entries = c.new.result; infos = c.new-2.result; held = c.new-3.result; orders = c.new-4.result })
    c.in_ok-admin.ensures (c.in_ok-blank.ensures c.in_ok-admin.ensures) (ap (λ (z : Journal). z.entries) c.new.ensures) c.new-3.ensures c.new-4.ensures.items
