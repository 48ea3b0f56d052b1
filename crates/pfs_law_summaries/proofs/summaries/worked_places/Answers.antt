use Rattle.pfs_law_summaries.proofs.PlaceExamples.{worked_places}
use Rattle.pfs_law_summaries.proofs.summaries.worked_places.Goals as goal

pub returns : goal.returns
returns c = worked_places
