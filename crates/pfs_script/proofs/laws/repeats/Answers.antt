use Rattle.pfs_script.proofs.MarkNests.{repeats}
use Rattle.pfs_script.proofs.laws.repeats.Goals as goal

pub returns-clause-follow : goal.returns-clause-follow
returns-clause-follow c before body follows same times = (repeats before body follows same times).0

pub returns-clause-leave : goal.returns-clause-leave
returns-clause-leave c before body follows same times = (repeats before body follows same times).1
