use Rattle.pfs_model.proofs.CutBounds.{misfits}
use Rattle.pfs_model.proofs.laws.misfits.Goals as goal

pub returns : goal.returns
returns c = misfits
