use Rattle.pfs_law_joint.proofs.PlainShares.{plain_shares}
use Rattle.pfs_law_joint.proofs.laws.plain.Goals as goal

pub returns : goal.returns
returns c = plain_shares c.plain_calls_are_ordered.ensures.joint c.plain_calls_are_ordered.ensures.ordered c.plain_calls_are_ordered.ensures.since
