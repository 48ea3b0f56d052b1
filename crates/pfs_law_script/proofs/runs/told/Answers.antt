use Rattle.pfs_law_script.proofs.ReportSpells.{told_on}
use Rattle.pfs_law_script.proofs.runs.told.Goals as goal

pub returns : goal.returns
returns c = told_on
