use Rattle.pfs_reader.proofs.PlainReadings.{same_changes, same_ops, same_sets, same_draws, same_labels}
use Rattle.pfs_reader.proofs.laws.changes_nothing.Goals as goal

pub returns : goal.returns
returns c = record {
  changes = same_changes;
  ops = same_ops;
  sets = same_sets;
  draws = same_draws;
  labels = same_labels;
}
