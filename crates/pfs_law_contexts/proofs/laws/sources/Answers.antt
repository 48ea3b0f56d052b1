use Rattle.pfs_law_contexts.proofs.ContextWalks.{contexts}
use Rattle.pfs_law_contexts.proofs.SourceSteps.{sources}
use Rattle.pfs_law_contexts.proofs.laws.sources.Goals as goal

pub returns : goal.returns
returns c = sources contexts
