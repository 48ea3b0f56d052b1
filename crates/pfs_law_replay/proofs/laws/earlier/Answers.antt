use Rattle.pfs_law_replay.proofs.EarlierChanges.{below, rises}
use Rattle.pfs_law_replay.proofs.laws.earlier.Goals as goal

pub returns : goal.returns
returns c = record { rises = rises; below = below }
