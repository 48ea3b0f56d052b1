use Rattle.pfs_exec.proofs.StableOrder.{one_answer}
use Rattle.pfs_exec.proofs.laws.one_answer.Goals as goal

pub returns : goal.returns
returns c = one_answer
