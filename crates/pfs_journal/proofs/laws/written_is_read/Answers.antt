use Rattle.pfs_journal.proofs.OneReport.{read_again}
use Rattle.pfs_journal.proofs.laws.written_is_read.Goals as goal

pub returns : goal.returns
returns c = read_again
