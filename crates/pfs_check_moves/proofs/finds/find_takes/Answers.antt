use Rattle.std.specs.BTreeMap.{get}
use Rattle.std.specs.Ordering.{nat_cmp}
use Rattle.pfs_check_moves.proofs.FoundFacts.{found_more}
use Rattle.pfs_check_moves.proofs.finds.find_takes.Goals as goal

pub loop-entry-preserved : goal.loop-entry-preserved
loop-entry-preserved c =
    found_more c.args.shelf.now c.args.entries.now c.loop-entry.entry-index _ (get nat_cmp c.loop-entry.found) (get nat_cmp c.note_take.new.found)
    c.loop-entry-test.true c.in_ok-note_take.ensures c.loop-entry.invariant
