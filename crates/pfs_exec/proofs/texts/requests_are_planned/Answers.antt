use Rattle.pfs_exec.proofs.CommandRequests.{asked}
use Rattle.pfs_exec.proofs.texts.requests_are_planned.Goals as goal

pub returns : goal.returns
returns c = asked c.one_table.ensures
