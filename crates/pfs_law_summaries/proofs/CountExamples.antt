-- Which events count, worked.
use Rattle.std.proofs.Common.{refl}
use Rattle.pfs_model.specs.EntryPlaces.{places_behind}
use Rattle.pfs_law_summaries.specs.CountExamples.{WorkedCounts}

pub worked_counts : WorkedCounts
unfolding places_behind
worked_counts = record {
  first_thread = refl;
  second_thread = refl;
  account = refl;
  no_account = refl;
  user = refl;
  first_host = refl;
  second_host = refl;
  all = refl;
  other_cell = refl;
  other_user = refl;
  left_thread = refl;
  left_account = refl;
  stayed_thread = refl;
  quit_thread = refl;
  emptied_thread = refl;
  emptied_account = refl;
  emptied_host = refl;
  other_host = refl;
  kept_user = refl;
  kept_all = refl;
  user_sums = refl;
  account_sums = refl;
}
