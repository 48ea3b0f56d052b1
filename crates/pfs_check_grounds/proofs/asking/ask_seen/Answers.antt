use Rattle.std.proofs.Common.{refl}
use Rattle.pfs_check_grounds.proofs.asking.ask_seen.Goals as goal

pub returns-in-Wrong : goal.returns-in-Wrong
returns-in-Wrong c = λ case found report blocks keeps. (refl, rw c.in-Wrong.is at (c.in_ok-rule.ensures case found report blocks keeps))
