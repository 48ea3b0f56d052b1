use Rattle.std.proofs.Common.{rules}
use Rattle.std.proofs.lemmas.Fn.{always_returns_same}
use Rattle.pfs_exec.proofs.RowOrders.{in_order, lent_before, weak}
use Rattle.pfs_exec.proofs.sorting.sort_rows.Goals as goal

pub returns : goal.returns
returns c =
    in_order c.args.orders.now c.args.rows.now.items c.sort_by.new.self.items c.in_ok-sort_by.ensures.permutation
    (c.in_ok-sort_by.ensures.sorted (lent_before c.args.orders.now) (weak c.args.orders.now) (always_returns_same _ _ _ (λ a r g h. search rules)))
    (c.in_ok-sort_by.ensures.stable (lent_before c.args.orders.now) (weak c.args.orders.now) (always_returns_same _ _ _ (λ a r g h. search rules)))
