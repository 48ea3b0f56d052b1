use Rattle.pfs_law_summaries.proofs.CurrentPlaces.{currents_law}
use Rattle.pfs_law_summaries.proofs.summaries.currents.Goals as goal

pub returns : goal.returns
returns c = currents_law c.kept.ensures c.orderly.ensures c.current.ensures
