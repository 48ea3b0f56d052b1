use Rattle.pfs_view.proofs.GridLaws.{headings_there}
use Rattle.pfs_view.proofs.laws.headings_are_there.Goals as goal

pub returns : goal.returns
returns c = headings_there
