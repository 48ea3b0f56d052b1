use Rattle.pfs_law_summaries.proofs.ScriptActions.{actions_law}
use Rattle.pfs_law_summaries.proofs.order.actions.Goals as goal

pub returns : goal.returns
returns c = actions_law
