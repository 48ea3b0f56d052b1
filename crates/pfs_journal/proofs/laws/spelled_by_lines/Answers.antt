use Rattle.pfs_journal.proofs.ReportRuns.{spelled}
use Rattle.pfs_journal.proofs.laws.spelled_by_lines.Goals as goal

pub returns : goal.returns
returns c = spelled
