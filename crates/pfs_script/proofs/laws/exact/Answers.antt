use Rattle.pfs_script.proofs.Exactness.{exactly}
use Rattle.pfs_script.proofs.laws.exact.Goals as goal

pub returns : goal.returns
returns c = exactly
