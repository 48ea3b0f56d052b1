use Rattle.pfs_law_agreed.proofs.QuietLoads.{quiet_loads as loads_law}
use Rattle.pfs_law_agreed.proofs.laws.quiet_loads.Goals as goal

pub returns : goal.returns
returns c = loads_law
