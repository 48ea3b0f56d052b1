use Rattle.std.specs.Prelude.{ℕ}
use Rattle.pfs_consumers.specs.declared.Consumer.{Consumer}
use Rattle.pfs_consumers.specs.declared.Consumer.TheVariants.{StagesCurrent, StatementsCurrent, TransactionsCurrent, WaitsCurrent, GlobalInstrumentation, ThreadInstrumentation, StatementsDigest}
use Rattle.pfs_check_brought.proofs.offers.+acts.Given as goal

-- how many stand over a consumer
abbrev pub level_of : Consumer → ℕ
level_of GlobalInstrumentation = 0
level_of ThreadInstrumentation = 1
level_of StatementsDigest = 1
level_of StagesCurrent = 2
level_of StatementsCurrent = 2
level_of TransactionsCurrent = 2
level_of WaitsCurrent = 2
level_of _ = 3

abbrev pub decreases-acts : goal.decreases-acts
decreases-acts l = level_of l.consumer
