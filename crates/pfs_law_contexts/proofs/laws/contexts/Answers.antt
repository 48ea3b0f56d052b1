use Rattle.pfs_law_contexts.proofs.ContextWalks.{contexts}
use Rattle.pfs_law_contexts.proofs.laws.contexts.Goals as goal

pub returns : goal.returns
returns c = contexts
