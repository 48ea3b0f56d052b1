use Rattle.std.proofs.Common.{arith}
use Rattle.pfs_admin.proofs.TruncationCosts.{few_together}
use Rattle.pfs_admin.proofs.admin.Admin.truncation_cost.Goals as goal

pub returns-clause-few : goal.returns-clause-few
returns-clause-few c =
    omega (arith, few_together c.args.what, c.moves_cost-moves.ensures.few, c.signs_cost.ensures.few, c.flags_cost.ensures.few)
