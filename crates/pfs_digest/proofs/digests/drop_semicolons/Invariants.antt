use Rattle.std.proofs.Common.{◌≡◌, vec_len}
use Rattle.pfs_digest.specs.Reduction as steps
use Rattle.pfs_digest.proofs.digests.drop_semicolons.Given as goal

abbrev pub invariant-semicolons : goal.invariant-semicolons
invariant-semicolons l = steps.without_last l.stack.items ≡ steps.without_last l.initial.stack.items

abbrev pub decreases-semicolons : goal.decreases-semicolons
decreases-semicolons l = vec_len l.stack
