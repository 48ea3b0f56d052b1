-- Worked examples, by computation.
use Rattle.std.proofs.Common.{◌≡◌, ◌-◌, ◌^◌, ◌+◌, true, false, refl}
use Rattle.pfs_consumers.specs.declared.Consumer.TheVariants.{StatementsHistory, StatementsHistoryLong, StatementsDigest, WaitsHistory, ThreadInstrumentation}
use Rattle.pfs_consumers.specs.Tree.{acts_of, is_on}

-- at first the history of statements acts, and their long history doesn't
pub opening_history : acts_of 28888 StatementsHistory ≡ true
opening_history = refl

pub opening_long : acts_of 28888 StatementsHistoryLong ≡ false
opening_long = refl

-- a history whose own flag is YES doesn't act below a current that is NO
pub history_without_current : acts_of (28888 + 2 ^ 10) WaitsHistory ≡ false
history_without_current = refl

-- nothing of a thread acts without thread_instrumentation, while the digest does
pub without_threads : acts_of (28888 - 2 ^ 13) StatementsHistory ≡ false
without_threads = refl

pub digest_without_threads : acts_of (28888 - 2 ^ 13) StatementsDigest ≡ true
digest_without_threads = refl

-- without global_instrumentation nothing acts, though its own flag is YES
pub without_global : acts_of (28888 - 2 ^ 12) ThreadInstrumentation ≡ false
without_global = refl

pub own_flag_stays : is_on (28888 - 2 ^ 12) ThreadInstrumentation ≡ true
own_flag_stays = refl
