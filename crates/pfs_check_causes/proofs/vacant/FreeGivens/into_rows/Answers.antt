use Rattle.std.proofs.Common.{subst}
use Rattle.pfs_check_tops.specs.SortedTops.{AreTopsOf}
use Rattle.pfs_check_causes.proofs.vacant.FreeGivens.into_rows.Goals as goal

pub returns : goal.returns
returns c = λ all given. subst (AreTopsOf c.in_ok-releases.releases) given c.in_ok-releases.ensures
