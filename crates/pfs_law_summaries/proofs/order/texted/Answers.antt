use Rattle.pfs_law_summaries.proofs.StatementTexts.{texted_law}
use Rattle.pfs_law_summaries.proofs.order.texted.Goals as goal

pub returns : goal.returns
returns c = texted_law c.texted.ensures
