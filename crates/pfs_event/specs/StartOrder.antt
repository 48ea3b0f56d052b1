-- Which event may start inside which.
use Rattle.std.specs.Prelude.{Bool, true, false, Option, Some, None}
use Rattle.pfs_event.specs.declared.kind.EventKind.{EventKind}
use Rattle.pfs_event.specs.declared.kind.EventKind.TheVariants.{Wait, Stage, Statement, Transaction}

-- a wait may start anywhere; a transaction where nothing is open; a statement where nothing is open, in a transaction
-- or in a statement; a stage in a statement
abbrev pub may_start : EventKind → Option EventKind → Bool
may_start Wait _ = true
may_start Transaction None = true
may_start Transaction (Some _) = false
may_start Statement None = true
may_start Statement (Some Transaction) = true
may_start Statement (Some Statement) = true
may_start Statement (Some Stage) = false
may_start Statement (Some Wait) = false
may_start Stage (Some Statement) = true
may_start Stage (Some Transaction) = false
may_start Stage (Some Stage) = false
may_start Stage (Some Wait) = false
may_start Stage None = false
