use Rattle.pfs_law_conservation.proofs.AccountTruncations.{hosts_law}
use Rattle.pfs_law_conservation.proofs.truncations.hosts.Goals as goal

pub returns : goal.returns
returns c = hosts_law
