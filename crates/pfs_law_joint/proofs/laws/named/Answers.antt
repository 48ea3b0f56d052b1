use Rattle.pfs_law_joint.proofs.HadVersions.{rows_had, words_had}
use Rattle.pfs_law_joint.proofs.NamedVersions.{rows_named, words_named}
use Rattle.pfs_law_joint.proofs.laws.named.Goals as goal

pub returns : goal.returns
returns c = record {
  rows = rows_named;
  words = words_named;
  had = rows_had;
  words_had = words_had;
}
