use Rattle.pfs_classes.proofs.RegisterNames.{known_from, known_at}
use Rattle.pfs_classes.proofs.laws.known_names.Goals as goal

pub returns-clause-come : goal.returns-clause-come
returns-clause-come c = known_from

pub returns-clause-class : goal.returns-clause-class
returns-clause-class c = known_at
