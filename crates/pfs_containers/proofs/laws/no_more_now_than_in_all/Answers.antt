use Rattle.pfs_containers.proofs.ConnectionTotals.{within_law}
use Rattle.pfs_containers.proofs.laws.no_more_now_than_in_all.Goals as goal

pub returns : goal.returns
returns c = within_law
