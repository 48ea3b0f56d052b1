use Rattle.pfs_matching.proofs.OneObject.{objects_decide_best}
use Rattle.pfs_matching.proofs.laws.objects_decide_best.Goals as goal

pub returns : goal.returns
returns c = objects_decide_best
