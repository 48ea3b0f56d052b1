use Rattle.std.proofs.Common.{◌-◌, length}
use Rattle.pfs_text.proofs.QuoteEnds.{Scanned}
use Rattle.pfs_text.proofs.quoting.unquote.Given as goal

abbrev pub invariant-loop-at : goal.invariant-loop-at
invariant-loop-at l = Scanned l.bytes l.at

abbrev pub decreases-loop-at : goal.decreases-loop-at
decreases-loop-at l = length l.bytes - l.at
