-- Truncations of summaries and of the setup tables.
use Rattle.std.proofs.Common.{refl}
use Rattle.pfs_law_conservation.specs.TruncationLaws.{LeftLaw}
use Rattle.pfs_law_conservation.proofs.TableWords.{off_words_all, off_words_below}

pub left_law : LeftLaw
left_law s = record {
  events = λ kind table. refl;
  summary = λ kind table. refl;
  digests = refl;
  setup_actors = refl;
  new_sessions = λ user host. refl;
  setup_objects = refl;
  table_words = λ table l. off_words_all s.words table l;
  other_words = λ at l. off_words_below s.words at l;
  one_more = λ what. refl;
}
