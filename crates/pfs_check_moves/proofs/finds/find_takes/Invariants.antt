use Rattle.std.proofs.Common.{◌≡◌, ℕ, take}
use Rattle.std.specs.BTreeMap.{get}
use Rattle.std.specs.Ordering.{nat_cmp}
use Rattle.pfs_check_moves.specs.FoundTakes.{found_in}
use Rattle.pfs_check_moves.proofs.finds.find_takes.Given as goal

abbrev pub invariant-loop-entry : goal.invariant-loop-entry
invariant-loop-entry l = (row : ℕ) → get nat_cmp l.found row ≡ found_in l.shelf (take l.entry-index l.entries) row
