-- Rows that are released one after another.
use Rattle.std.proofs.Common.{ℕ, ◌≡◌, ◌≤◌, Bool, ap, arith}
use Rattle.pfs_event.specs.Logs.{Journal}
use Rattle.pfs_levels.specs.Moves.{Stays}
use Rattle.pfs_levels.specs.Views.{Store}
use Rattle.pfs_admin.specs.WordChanges.{up_to}
use Rattle.pfs_admin.specs.Truncations.{freed_at, free_rows, free_slot, free_threads}

pub rows_whole : (first count n : ℕ) → n ≡ count → up_to (freed_at first) n ≡ free_rows first count
unfolding free_rows
rows_whole first count n e = ap (up_to (freed_at first)) e

pub threads_whole : (there : ℕ → Bool) (first count n : ℕ) → n ≡ 32 → up_to (free_slot there first count) n ≡ free_threads there first count
unfolding free_threads
threads_whole there first count n e = ap (up_to (free_slot there first count)) e

-- what costs no more than so much costs at most more
pub stays_wider : (m n : ℕ) (a b : Store) (old new : Journal) → m ≤ n → Stays m a b old new → Stays n a b old new
stays_wider m n a b old new l s = record {
  left = omega (arith, s.left, l);
  draws = s.draws;
  no_more = s.no_more;
  hand = s.hand;
  words = s.words;
  name = s.name;
  room = omega (arith, s.room, l);
}
