use Rattle.pfs_law_conservation.proofs.PlaceLimits.{limits_law}
use Rattle.pfs_law_conservation.proofs.info_rows.within_limits.Goals as goal

pub returns : goal.returns
returns c = limits_law
