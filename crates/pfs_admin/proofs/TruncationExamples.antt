-- The truncations of two sessions compute.
use Rattle.std.proofs.Common.{refl}
use Rattle.pfs_admin.specs.TruncationExamples.{WorkedTruncations}
use Rattle.pfs_admin.specs.Truncations.{level_asks, level_signs, digest_asks, free_rows, free_threads}

pub worked : WorkedTruncations
unfolding level_asks level_signs digest_asks free_rows free_threads
worked = record {
  by_account = refl;
  by_thread = refl;
  by_user = refl;
  by_host = refl;
  global = refl;
  kept = refl;
  count = refl;
  stays = refl;
  total_before = refl;
  total = refl;
  still = refl;
  freed = refl;
  moved = refl;
  gone = refl;
  users_stay = refl;
  users = refl;
  hosts_stay = refl;
  hosts = refl;
  host_gone = refl;
  user_left = refl;
  host_alone = refl;
  host_total_before = refl;
  host_total = refl;
  user_alone = refl;
  account_total = refl;
  actors = refl;
  digests = refl;
  current = refl;
  ended = refl;
  history = refl;
  long = refl;
  events_move = refl;
  events_kept = refl;
  digests_kept = refl;
}
