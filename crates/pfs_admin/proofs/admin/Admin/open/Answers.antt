use Rattle.std.proofs.Common.{rules, subst}
use Rattle.pfs_admin.specs.AdministrationStates.{IsState}
use Rattle.pfs_admin.proofs.KindCells.{kinds_fit}
use Rattle.pfs_admin.proofs.OpeningState.{opened_holds}
use Rattle.pfs_admin.proofs.admin.Admin.open.Goals as goal

pub invariant_of-result : goal.invariant_of-result
invariant_of-result c = subst IsState (search rules) (opened_holds c.args.setting.now (search rules) (search rules) (kinds_fit c.args.setting.now))
