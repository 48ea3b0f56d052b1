use Rattle.pfs_law_script.proofs.LineTotals.{total}
use Rattle.pfs_law_script.proofs.blocks.total.Goals as goal

pub returns : goal.returns
returns c = total
