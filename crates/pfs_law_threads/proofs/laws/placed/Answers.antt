use Rattle.pfs_law_threads.proofs.PlacedCalls.{all_placed}
use Rattle.pfs_law_threads.proofs.laws.placed.Goals as goal

pub returns : goal.returns
returns c = all_placed
