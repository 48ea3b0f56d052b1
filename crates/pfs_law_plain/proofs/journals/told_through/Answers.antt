use Rattle.pfs_law_plain.proofs.LineNotes.{told_through}
use Rattle.pfs_law_plain.proofs.journals.told_through.Goals as goal

pub returns : goal.returns
returns c = told_through
