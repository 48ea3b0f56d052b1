use Rattle.std.proofs.Common.{ap, length, sym, subst, List, None}
use Rattle.pfs_model.specs.declared.lines.Line.{Line}
use Rattle.pfs_check_lines.specs.WrittenLines.{IsWritten}
use Rattle.pfs_check_lines.proofs.WrittenSteps.{begun, put_outside}
use Rattle.pfs_check_lines.proofs.repeats.put_outside.Goals as goal

pub returns-in-Some : goal.returns-in-Some
returns-in-Some c = λ whole rest written. begun whole c.args.lines.now.items c.args.said.now rest c.in-Some.times _
    (sym c.in-Some.ensures) (ap length c.as_slice.ensures.value) written

pub returns-in_ok-put_line-in-None : goal.returns-in_ok-put_line-in-None
returns-in_ok-put_line-in-None c = λ whole rest written. subst (λ (z : List Line). IsWritten whole None z rest)
    (sym c.in_ok-put_line-in-None.ensures)
    (put_outside whole c.args.lines.now.items c.args.said.now rest (sym c.in-None.ensures) written)
