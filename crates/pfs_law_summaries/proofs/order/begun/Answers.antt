use Rattle.pfs_law_summaries.proofs.ConnectEntries.{begun_law}
use Rattle.pfs_law_summaries.proofs.order.begun.Goals as goal

pub returns : goal.returns
returns c = begun_law
