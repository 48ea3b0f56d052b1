use Rattle.std.proofs.Common.{arith}
use Rattle.pfs_admin.proofs.TruncationCosts.{all_cost}
use Rattle.pfs_admin.proofs.charges.all_cost.Goals as goal

pub returns-clause-cost : goal.returns-clause-cost
returns-clause-cost c =
    omega (
      arith,
      all_cost c.args.containers.now.now.places c.args.table c.args.cells.now,
      c.kind_cost.ensures.cost,
      c.kind_cost-2.ensures.cost,
      c.kind_cost-3.ensures.cost,
      c.kind_cost-4.ensures.cost,
    )
