use Rattle.std.proofs.Common.{length}
use Rattle.pfs_digest.proofs.keywords.+order.Given as goal

abbrev pub decreases-order : goal.decreases-order
decreases-order l = length l.keyword.now
