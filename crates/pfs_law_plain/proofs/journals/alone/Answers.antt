use Rattle.pfs_law_plain.proofs.PlainJournals.{alone}
use Rattle.pfs_law_plain.proofs.journals.alone.Goals as goal

pub returns : goal.returns
returns c = alone
