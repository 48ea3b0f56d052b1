use Rattle.pfs_names.proofs.Ids.{agrees}
use Rattle.pfs_names.proofs.laws.interning.Goals as goal

pub returns : goal.returns
returns c = agrees
