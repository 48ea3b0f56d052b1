-- The truncations of the worked sessions compute.
use Rattle.std.proofs.Common.{refl}
use Rattle.pfs_admin.specs.WordChanges.{words_changed}
use Rattle.pfs_admin.specs.Truncations.{level_asks, level_signs}
use Rattle.pfs_law_conservation.specs.TruncationExamples.{one, Worked}
use Rattle.pfs_law_conservation.proofs.KeptPlaces.{used_has, not_used}

pub worked : Worked
unfolding level_asks level_signs words_changed
worked = record {
  accounts_before = refl;
  account_totals_before = refl;
  users_before = refl;
  user_totals_before = refl;
  hosts_before = refl;
  host_totals_before = refl;
  none = not_used (λ x. x.account) one.kept.now.places.threads 0 refl;
  has = used_has (λ x. x.account) one.kept.now.places.threads 1 refl;
  now = refl;
  accounts = refl;
  account_totals = refl;
  users_stay = refl;
  user_totals_stay = refl;
  hosts_stay = refl;
  host_totals_stay = refl;
  threads_stay = refl;
  by_users = refl;
  totals_by_users = refl;
  users = refl;
  user_totals = refl;
  hosts_by_users = refl;
  by_hosts = refl;
  totals_by_hosts = refl;
  hosts = refl;
  host_totals = refl;
  users_by_hosts = refl;
  summary = refl;
  new_before = refl;
  new_behind = refl;
  there = refl;
  table_before = refl;
  word_before = refl;
  table_behind = refl;
  word_behind = refl;
  other_word = refl;
  thread_word = refl;
  takes = refl;
  account_rows = refl;
  user_rows = refl;
  host_rows = refl;
}
