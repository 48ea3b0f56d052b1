use Rattle.pfs_law_summaries.proofs.CurrentPlaces.{current_law}
use Rattle.pfs_law_summaries.proofs.summaries.current.Goals as goal

pub returns : goal.returns
returns c = current_law
