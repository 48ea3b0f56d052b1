use Rattle.pfs_admin.proofs.Examples.{worked}
use Rattle.pfs_admin.proofs.laws.two_sessions_worked.Goals as goal

pub returns : goal.returns
returns c = worked
