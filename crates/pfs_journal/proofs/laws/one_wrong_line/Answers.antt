use Rattle.pfs_journal.proofs.FirstWrongLine.{one_wrong}
use Rattle.pfs_journal.proofs.laws.one_wrong_line.Goals as goal

pub returns : goal.returns
returns c = one_wrong
