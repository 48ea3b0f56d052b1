use Rattle.std.proofs.Common.{◌≡◌, [], take}
use Rattle.pfs_session.specs.Settlements.{owed_from}
use Rattle.pfs_session.proofs.paying.is_empty.Given as goal

abbrev pub invariant-loop-one : goal.invariant-loop-one
invariant-loop-one l = owed_from l.slot 0 (take l.one-index l.held) ≡ []
