-- The consumers: their flags in a word, who stands over whom, and which act.
use Rattle.std.specs.Prelude.{◌≡◌, ℕ, zero, suc, ◌-◌, ◌^◌, Bool, true, false, ◌&&◌, ◌==◌, IsTrue, List, Option, Some, None, bit_and, bit_or, codes}
use Rattle.std.specs.Int.{bit_at}
use Rattle.pfs_consumers.specs.declared.Consumer.{Consumer}
use Rattle.pfs_consumers.specs.declared.Consumer.TheVariants.{StagesCurrent, StagesHistory, StagesHistoryLong, StatementsCurrent, StatementsHistory, StatementsHistoryLong, TransactionsCurrent, TransactionsHistory, TransactionsHistoryLong, WaitsCurrent, WaitsHistory, WaitsHistoryLong, GlobalInstrumentation, ThreadInstrumentation, StatementsDigest}

-- the place of a consumer's flag in a word of flags
abbrev pub bit_of : Consumer → ℕ
bit_of StagesCurrent = 0
bit_of StagesHistory = 1
bit_of StagesHistoryLong = 2
bit_of StatementsCurrent = 3
bit_of StatementsHistory = 4
bit_of StatementsHistoryLong = 5
bit_of TransactionsCurrent = 6
bit_of TransactionsHistory = 7
bit_of TransactionsHistoryLong = 8
bit_of WaitsCurrent = 9
bit_of WaitsHistory = 10
bit_of WaitsHistoryLong = 11
bit_of GlobalInstrumentation = 12
bit_of ThreadInstrumentation = 13
bit_of StatementsDigest = 14

-- the consumer's own flag in a word
abbrev pub is_on : ℕ → Consumer → Bool
is_on word c = bit_at word (bit_of c) == 1

-- the word with this consumer's flag as given, and each other bit as it was
abbrev pub with_flag : ℕ → Consumer → Bool → ℕ
with_flag word c true = bit_or word (2 ^ bit_of c)
with_flag word c false = bit_and word (65535 - 2 ^ bit_of c)

-- the name in the table of consumers
abbrev pub name_of : Consumer → List ℕ
name_of StagesCurrent = codes "events_stages_current"
name_of StagesHistory = codes "events_stages_history"
name_of StagesHistoryLong = codes "events_stages_history_long"
name_of StatementsCurrent = codes "events_statements_current"
name_of StatementsHistory = codes "events_statements_history"
name_of StatementsHistoryLong = codes "events_statements_history_long"
name_of TransactionsCurrent = codes "events_transactions_current"
name_of TransactionsHistory = codes "events_transactions_history"
name_of TransactionsHistoryLong = codes "events_transactions_history_long"
name_of WaitsCurrent = codes "events_waits_current"
name_of WaitsHistory = codes "events_waits_history"
name_of WaitsHistoryLong = codes "events_waits_history_long"
name_of GlobalInstrumentation = codes "global_instrumentation"
name_of ThreadInstrumentation = codes "thread_instrumentation"
name_of StatementsDigest = codes "statements_digest"

-- whether the consumer is YES at first
abbrev pub at_first : Consumer → Bool
at_first StatementsCurrent = true
at_first StatementsHistory = true
at_first TransactionsCurrent = true
at_first TransactionsHistory = true
at_first GlobalInstrumentation = true
at_first ThreadInstrumentation = true
at_first StatementsDigest = true
at_first _ = false

-- the consumer right above, or none
abbrev pub parent_of : Consumer → Option Consumer
parent_of GlobalInstrumentation = None
parent_of ThreadInstrumentation = Some GlobalInstrumentation
parent_of StatementsDigest = Some GlobalInstrumentation
parent_of StagesCurrent = Some ThreadInstrumentation
parent_of StatementsCurrent = Some ThreadInstrumentation
parent_of TransactionsCurrent = Some ThreadInstrumentation
parent_of WaitsCurrent = Some ThreadInstrumentation
parent_of StagesHistory = Some StagesCurrent
parent_of StagesHistoryLong = Some StagesCurrent
parent_of StatementsHistory = Some StatementsCurrent
parent_of StatementsHistoryLong = Some StatementsCurrent
parent_of TransactionsHistory = Some TransactionsCurrent
parent_of TransactionsHistoryLong = Some TransactionsCurrent
parent_of WaitsHistory = Some WaitsCurrent
parent_of WaitsHistoryLong = Some WaitsCurrent

-- the first stands over the second: it is right above it, or stands over the one that is
pub data StandsOver : Consumer → Consumer → Type 0 where
  parent : {a c : Consumer} → parent_of c ≡ Some a → StandsOver a c
  over_parent : {a b c : Consumer} → parent_of c ≡ Some b → StandsOver a b → StandsOver a c

-- a consumer acts where it and all that stand over it are YES
abbrev pub Acts : ℕ → Consumer → Type 0
Acts word c = IsTrue (is_on word c) × ((a : Consumer) → StandsOver a c → IsTrue (is_on word a))

-- what holds of the one above, if there is one
abbrev pub on_parent : (Consumer → Bool) → Option Consumer → Bool
on_parent test None = true
on_parent test (Some above) = test above

-- whether the consumer and as many above it are YES, as far as there are so many
abbrev pub acts_within : ℕ → ℕ → Consumer → Bool
acts_within zero word c = is_on word c
acts_within (suc steps) word c = is_on word c && on_parent (acts_within steps word) (parent_of c)

-- the same as a test: at most three stand over a consumer
abbrev pub acts_of : ℕ → Consumer → Bool
acts_of word c = acts_within 3 word c
