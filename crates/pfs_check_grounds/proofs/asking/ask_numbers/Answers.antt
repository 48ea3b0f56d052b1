use Rattle.std.proofs.Common.{refl}
use Rattle.pfs_check_grounds.proofs.asking.ask_numbers.Goals as goal

pub returns-in-Kept : goal.returns-in-Kept
returns-in-Kept c = λ case found report blocks keeps are. rw c.in-Kept.is at (c.in_ok-rule.ensures case found report blocks keeps are)

pub returns-in-Wrong : goal.returns-in-Wrong
returns-in-Wrong c = λ case found report blocks keeps are. (refl, rw c.in-Wrong.is at (c.in_ok-rule.ensures case found report blocks keeps are))
