use Rattle.pfs_law_joint.proofs.VersionChains.{chained, marks_counted, sets_counted}
use Rattle.pfs_law_joint.proofs.WordFlags.{flags_told}
use Rattle.pfs_law_joint.proofs.laws.chained.Goals as goal

pub returns : goal.returns
returns c = record {
  rows = chained;
  marks = marks_counted;
  sets = sets_counted;
  flags = flags_told;
}
