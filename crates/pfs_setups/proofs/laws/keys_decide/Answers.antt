use Rattle.pfs_setups.proofs.InsertAnswers.{decide}
use Rattle.pfs_setups.proofs.laws.keys_decide.Goals as goal

pub returns : goal.returns
returns c = decide
