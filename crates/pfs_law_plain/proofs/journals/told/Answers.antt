use Rattle.pfs_law_plain.proofs.LineNotes.{told_all}
use Rattle.pfs_law_plain.proofs.journals.told.Goals as goal

pub returns : goal.returns
returns c = told_all
