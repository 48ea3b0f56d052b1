use Rattle.std.proofs.Common.{◌≡◌, take}
use Rattle.pfs_classes.proofs.builtin.copied.Given as goal

-- the names that were passed are copied
abbrev pub invariant-loop-id : goal.invariant-loop-id
invariant-loop-id l = l.copy ≡ take l.id l.names
