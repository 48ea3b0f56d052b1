use Rattle.pfs_law_replay.proofs.ReplayedContents.{made_law, only_law}
use Rattle.pfs_law_replay.proofs.laws.replayed.Goals as goal

pub returns : goal.returns
returns c = record { made = made_law; only = only_law }
