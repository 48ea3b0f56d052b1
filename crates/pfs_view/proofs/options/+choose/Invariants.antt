use Rattle.std.proofs.Common.{length}
use Rattle.pfs_view.proofs.options.+choose.Given as goal

abbrev pub decreases-choose : goal.decreases-choose
decreases-choose l = length l.words.now
