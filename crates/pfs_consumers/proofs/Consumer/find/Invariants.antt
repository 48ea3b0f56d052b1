use Rattle.std.proofs.Common.{◌≢◌, ◌<◌}
use Rattle.pfs_consumers.specs.declared.Consumer.{Consumer}
use Rattle.pfs_consumers.specs.Tree.{bit_of, name_of}
use Rattle.pfs_consumers.proofs.Consumer.find.Given as goal

-- no consumer whose bit was passed has the name
abbrev pub invariant-loop-c : goal.invariant-loop-c
invariant-loop-c l = (d : Consumer) → bit_of d < l.c-index → name_of d ≢ l.name
