use Rattle.pfs_script.proofs.MarkNests.{open_more, closed_by}
use Rattle.pfs_script.proofs.laws.nested.Goals as goal

pub returns-clause-opens : goal.returns-clause-opens
returns-clause-opens c = open_more

pub returns-clause-closes : goal.returns-clause-closes
returns-clause-closes c = closed_by
