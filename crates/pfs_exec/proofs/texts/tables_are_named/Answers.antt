use Rattle.pfs_exec.proofs.PlanRequests.{named}
use Rattle.pfs_exec.proofs.texts.tables_are_named.Goals as goal

pub returns : goal.returns
returns c = named c.one_table.ensures
