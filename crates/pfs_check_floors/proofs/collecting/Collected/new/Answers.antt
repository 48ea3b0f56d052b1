use Rattle.pfs_model.specs.Chains.{row_change, word_change}
use Rattle.pfs_check_floors.proofs.collecting.Collected.new.Goals as goal

pub returns : goal.returns
returns c = record {
  rows = c.new.ensures row_change;
  words = c.new-2.ensures word_change;
  releases = c.new-3.ensures.items;
  freed = c.none_freed.ensures;
}
