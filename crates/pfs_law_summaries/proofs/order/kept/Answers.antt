use Rattle.pfs_law_summaries.proofs.ScriptRules.{kept_law}
use Rattle.pfs_law_summaries.proofs.order.kept.Goals as goal

pub returns : goal.returns
returns c = kept_law
