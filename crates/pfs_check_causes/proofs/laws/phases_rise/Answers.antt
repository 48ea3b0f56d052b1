use Rattle.pfs_check_causes.proofs.PhaseFacts.{phases_fall}
use Rattle.pfs_check_causes.proofs.laws.phases_rise.Goals as goal

pub returns : goal.returns
returns c = phases_fall
