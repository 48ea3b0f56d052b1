use Rattle.pfs_law_replay.proofs.ReplayedContents.{whole_law}
use Rattle.pfs_law_replay.proofs.laws.whole.Goals as goal

pub returns : goal.returns
returns c = whole_law
