use Rattle.std.proofs.Common.{sym}
use Rattle.pfs_script.proofs.ScriptFronts.{none_gives}
use Rattle.pfs_script.proofs.fronts.Front.is_bad_value.Goals as goal

pub returns-in-None : goal.returns-in-None
returns-in-None c before knows = rw c.in-None.is (sym (none_gives before))
