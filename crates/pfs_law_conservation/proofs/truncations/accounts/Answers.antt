use Rattle.pfs_law_conservation.proofs.AccountTruncations.{accounts_law}
use Rattle.pfs_law_conservation.proofs.truncations.accounts.Goals as goal

pub returns : goal.returns
returns c = accounts_law
