use Rattle.pfs_levels.proofs.PlainChanges.{plain_joint}
use Rattle.pfs_levels.proofs.PlainLabels.{plain_order}
use Rattle.pfs_levels.proofs.PlainPhases.{plain_since}
use Rattle.pfs_levels.proofs.laws.plain_calls_are_ordered.Goals as goal

pub returns : goal.returns
returns c = record {
  joint = plain_joint;
  ordered = plain_order;
  since = plain_since;
}
