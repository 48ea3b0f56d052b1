use Rattle.std.proofs.Common.{◌≡◌, replicate}
use Rattle.pfs_summaries.specs.ReadingSteps.{none_of}
use Rattle.pfs_summaries.proofs.tallies.no_tallies.Given as goal

abbrev pub invariant-loop-number : goal.invariant-loop-number
invariant-loop-number l = l.tallies.items ≡ replicate l._number none_of
