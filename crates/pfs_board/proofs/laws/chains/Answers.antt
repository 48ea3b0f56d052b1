use Rattle.pfs_board.proofs.VersionFacts.{chain_law}
use Rattle.pfs_board.proofs.laws.chains.Goals as goal

pub returns : goal.returns
returns c = chain_law
