use Rattle.pfs_admin.proofs.TruncationCosts.{cleared_cost}
use Rattle.pfs_admin.proofs.charges.global_cost.Goals as goal

pub returns-then-due : goal.returns-then-due
returns-then-due c = cleared_cost c.args.due c.args.cells.now c.if-due.true
