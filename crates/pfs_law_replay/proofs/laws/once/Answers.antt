use Rattle.pfs_law_replay.proofs.SingleChanges.{once}
use Rattle.pfs_law_replay.proofs.laws.once.Goals as goal

pub returns : goal.returns
returns c = once
