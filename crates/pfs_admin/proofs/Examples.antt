-- The fold computes: two sessions of one account.
use Rattle.std.proofs.Common.{refl}
use Rattle.pfs_admin.specs.Examples.{WorkedFold}
use Rattle.pfs_admin.specs.WordChanges.{words_changed}
use Rattle.pfs_admin.specs.Fold.{state_from}
use Rattle.pfs_admin.specs.Truncations.{free_rows}

pub worked : WorkedFold
unfolding state_from free_rows words_changed
worked = record {
  entry = refl;
  slots = refl;
  totals = refl;
  words = refl;
  count = refl;
  moves = refl;
  rows = refl;
  rows_last = refl;
  flags = refl;
}
