-- The numbers by which an event tells the kind of the event that it lies in.
use Rattle.std.specs.Prelude.{ℕ}
use Rattle.pfs_event.specs.declared.kind.EventKind.{EventKind}
use Rattle.pfs_event.specs.declared.kind.EventKind.TheVariants.{Wait, Stage, Statement, Transaction}

-- from the outermost kind to the innermost; 0 is left for an event that lies in none
abbrev pub nesting_number : EventKind → ℕ
nesting_number Transaction = 1
nesting_number Statement = 2
nesting_number Stage = 3
nesting_number Wait = 4
