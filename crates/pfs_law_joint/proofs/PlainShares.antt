-- What a plain store's actors have in common.
use Rattle.std.proofs.Common.{◌++◌}
use Rattle.pfs_levels.specs.JointCalls.{changes_of, sets_of, draws_of, all_calls}
use Rattle.pfs_levels.specs.CallOrder.{all_marks, all_word_marks}
use Rattle.pfs_levels.specs.PlainCalls.{JointLaw, OrderLaw, SinceLaw}
use Rattle.pfs_levels.specs.PlainStore.{ops_of, content_at, labels_after}
use Rattle.pfs_law_joint.specs.Phases.{PlainLaw}

pub plain_shares : JointLaw → OrderLaw → SinceLaw → PlainLaw
plain_shares joint order since = λ flags before now answers outside. record {
  content = content_at (ops_of (all_calls (now ++ before)));
  log = changes_of (all_calls (now ++ before));
  sets = sets_of (all_calls (now ++ before));
  draws = draws_of (all_calls (now ++ before));
  marks = all_marks (now ++ before);
  words = all_word_marks (now ++ before);
  labels = labels_after (all_calls (now ++ before));
  joint = joint flags (now ++ before) answers;
  order = order flags (now ++ before) answers outside;
  since = since flags now before answers;
}
