use Rattle.pfs_law_joint.proofs.NeverFalling.{rows_never_fall, words_never_fall}
use Rattle.pfs_law_joint.proofs.laws.never_fall.Goals as goal

pub returns : goal.returns
returns c = record {
  rows = rows_never_fall;
  words = words_never_fall;
}
