use Rattle.pfs_script.proofs.HeadLemmas.{knows_resolved}
use Rattle.pfs_script.proofs.NameReferences.{resolved_within}
use Rattle.pfs_script.proofs.laws.known_names.Goals as goal

pub returns-clause-known : goal.returns-clause-known
returns-clause-known c = knows_resolved

pub returns-clause-within : goal.returns-clause-within
returns-clause-within c = resolved_within
