use Rattle.pfs_journal.proofs.LastLines.{no_front}
use Rattle.pfs_journal.proofs.laws.one_report.Goals as goal

pub returns : goal.returns
returns c = no_front
