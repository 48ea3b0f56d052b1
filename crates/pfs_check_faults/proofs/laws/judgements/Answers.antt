use Rattle.pfs_check_faults.proofs.KeptRules.{excluded}
use Rattle.pfs_check_faults.proofs.OneJudgement.{one_judgement}
use Rattle.pfs_check_faults.proofs.laws.judgements.Goals as goal

pub returns : goal.returns
returns c = one_judgement excluded
