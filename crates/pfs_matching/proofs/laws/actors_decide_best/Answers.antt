use Rattle.pfs_matching.proofs.LeastRole.{actors_decide_best}
use Rattle.pfs_matching.proofs.laws.actors_decide_best.Goals as goal

pub returns : goal.returns
returns c = actors_decide_best
