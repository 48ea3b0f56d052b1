use Rattle.std.proofs.Common.{◌≡◌, take, replicate, None}
use Rattle.pfs_session.proofs.paying.clear.Given as goal

abbrev pub invariant-loop-one : goal.invariant-loop-one
invariant-loop-one l = take l.one-index l.held ≡ replicate l.one-index None
