use Rattle.pfs_law_report.proofs.EndedPhases.{all_end}
use Rattle.pfs_law_report.proofs.ends.all_end.Goals as goal

pub returns : goal.returns
returns c = all_end
