use Rattle.std.proofs.Common.{◌≡◌, replicate, None}
use Rattle.pfs_summaries.proofs.contents.no_contents.Given as goal

abbrev pub invariant-loop-row : goal.invariant-loop-row
invariant-loop-row l = l.contents.items ≡ replicate l._row None
