use Rattle.pfs_matching.proofs.OneObject.{kind_names_differ}
use Rattle.pfs_matching.proofs.laws.object_kinds.Goals as goal

pub returns-clause-differ : goal.returns-clause-differ
returns-clause-differ c = kind_names_differ
