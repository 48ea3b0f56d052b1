use Rattle.pfs_law_script.proofs.ActionTotals.{actions}
use Rattle.pfs_law_script.proofs.blocks.actions.Goals as goal

pub returns : goal.returns
returns c = actions
