use Rattle.pfs_check_faults.proofs.RunRules.{run_law}
use Rattle.pfs_check_faults.proofs.laws.runs.Goals as goal

pub returns : goal.returns
returns c = run_law
