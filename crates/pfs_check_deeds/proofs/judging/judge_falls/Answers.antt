use Rattle.pfs_check_deeds.proofs.DeedSteps.{none_falls, one_falls}
use Rattle.pfs_check_deeds.proofs.judging.judge_falls.Goals as goal

pub returns-in-None : goal.returns-in-None
returns-in-None c = λ case found same blocks cut.
    none_falls found case c.in_ok-deeds.deeds.items (c.in_ok-deeds.ensures case found blocks) (rw c.in-None.is at c.in_ok-fall.ensures)

pub returns-in_ok-line-in-Some : goal.returns-in_ok-line-in-Some
returns-in_ok-line-in-Some c = λ case found same blocks cut.
    one_falls found case c.args.report.now c.in_ok-deeds.deeds.items c.in-Some.place c.in_ok-line-in-Some.line same cut
    (c.in_ok-deeds.ensures case found blocks) (rw c.in-Some.is at c.in_ok-fall.ensures) c.in_ok-line-in-Some.ensures.found
