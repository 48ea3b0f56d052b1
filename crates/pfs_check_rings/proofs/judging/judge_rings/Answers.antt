use Rattle.std.proofs.Common.{arith}
use Rattle.pfs_check_faults.specs.declared.rules.Rule.TheVariants as rules
use Rattle.pfs_check_rings.proofs.judging.judge_rings.Goals as goal

pub returns-in-None : goal.returns-in-None
returns-in-None c = λ case found setting report blocks keeps.
    rw c.in-None.is at (c.rings_line-line.ensures case found (c.in_ok-tickets.ensures case found report blocks (keeps rules.Shape (omega arith)))
    (c.in_ok-causes.ensures case found report blocks keeps)
    (c.in_ok-dues.ensures case found setting report blocks (keeps rules.Shape (omega arith))))

pub returns-in-Some : goal.returns-in-Some
returns-in-Some c = λ case found setting report blocks keeps.
    rw c.in-Some.is at (c.rings_line-line.ensures case found (c.in_ok-tickets.ensures case found report blocks (keeps rules.Shape (omega arith)))
    (c.in_ok-causes.ensures case found report blocks keeps)
    (c.in_ok-dues.ensures case found setting report blocks (keeps rules.Shape (omega arith))))
