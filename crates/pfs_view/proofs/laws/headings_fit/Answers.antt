use Rattle.pfs_view.proofs.GridLaws.{headings_fit}
use Rattle.pfs_view.proofs.laws.headings_fit.Goals as goal

pub returns : goal.returns
returns c = headings_fit
