use Rattle.std.proofs.Common.{refl}
use Rattle.pfs_script.proofs.RunningTotals.{none_knows}
use Rattle.pfs_script.proofs.totals.no_lines.Goals as goal

pub returns : goal.returns
returns c = none_knows _ c.no_tally.ensures.total c.no_tally.ensures.body c.no_tally-2.ensures.total c.no_tally-2.ensures.body c.no_tally-3.ensures.total c.no_tally-3.ensures.body refl refl refl
