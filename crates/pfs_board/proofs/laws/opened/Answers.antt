use Rattle.pfs_board.proofs.OpeningFacts.{opening_law}
use Rattle.pfs_board.proofs.laws.opened.Goals as goal

pub returns : goal.returns
returns c = opening_law
