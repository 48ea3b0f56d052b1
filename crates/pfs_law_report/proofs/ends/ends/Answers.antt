use Rattle.pfs_law_report.proofs.PhaseEnds.{ends}
use Rattle.pfs_law_report.proofs.ends.ends.Goals as goal

pub returns : goal.returns
returns c = ends
