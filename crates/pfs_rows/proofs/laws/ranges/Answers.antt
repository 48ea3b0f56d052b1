use Rattle.pfs_rows.proofs.LimitRanges.{together, each_of}
use Rattle.pfs_rows.proofs.laws.ranges.Goals as goal

pub returns : goal.returns
returns c l = (each_of l, together l)
