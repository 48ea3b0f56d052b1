use Rattle.pfs_law_agreed.proofs.AlignedEvents.{aligned as aligned_law}
use Rattle.pfs_law_agreed.proofs.laws.aligned.Goals as goal

pub returns : goal.returns
returns c = aligned_law
