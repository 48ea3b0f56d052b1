use Rattle.pfs_law_phases.proofs.EndReads.{end_read}
use Rattle.pfs_law_phases.proofs.laws.read.Goals as goal

pub returns : goal.returns
returns c = end_read c.read.ensures
