use Rattle.std.proofs.Common.{◌≡◌, take}
use Rattle.pfs_setups.proofs.names.texts_of.Given as goal

abbrev pub invariant-loop-id : goal.invariant-loop-id
invariant-loop-id l = l.texts.items ≡ take l.id l.names
