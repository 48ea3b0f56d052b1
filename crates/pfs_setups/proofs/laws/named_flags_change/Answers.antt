use Rattle.pfs_setups.proofs.FlagBits.{sets_flags}
use Rattle.pfs_setups.proofs.laws.named_flags_change.Goals as goal

pub returns : goal.returns
returns c = sets_flags
