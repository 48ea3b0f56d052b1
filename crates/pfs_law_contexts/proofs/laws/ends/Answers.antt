use Rattle.pfs_law_contexts.proofs.ContextWalks.{ends}
use Rattle.pfs_law_contexts.proofs.laws.ends.Goals as goal

pub returns : goal.returns
returns c = ends
