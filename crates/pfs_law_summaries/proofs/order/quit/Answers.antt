use Rattle.pfs_law_summaries.proofs.QuitEntries.{quit_law}
use Rattle.pfs_law_summaries.proofs.order.quit.Goals as goal

pub returns : goal.returns
returns c = quit_law
