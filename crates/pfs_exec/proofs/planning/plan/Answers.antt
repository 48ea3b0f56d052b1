use Rattle.std.proofs.Common.{inl, inr, refl}
use Rattle.pfs_exec.proofs.planning.plan.Goals as goal

pub returns-in-Some : goal.returns-in-Some
returns-in-Some c = inr (c.in-Some.table, c.in-Some.ensures, c.plan_on.ensures)

pub returns-in-None : goal.returns-in-None
returns-in-None c = inl (c.in-None.ensures, refl)
