use Rattle.pfs_check_tops.proofs.TopRanks.{RankedSoFar}
use Rattle.pfs_check_tops.proofs.tops.rank.Given as goal

abbrev pub invariant-loop-given : goal.invariant-loop-given
invariant-loop-given l = RankedSoFar l.givens l.tops.items l.last l.given-index
