use Rattle.pfs_law_conservation.proofs.AccountTruncations.{users_law}
use Rattle.pfs_law_conservation.proofs.truncations.users.Goals as goal

pub returns : goal.returns
returns c = users_law
