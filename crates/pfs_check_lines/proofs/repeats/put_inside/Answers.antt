use Rattle.std.proofs.Common.{◌∙◌, sym, subst, List, None}
use Rattle.pfs_model.specs.declared.lines.Line.{Line}
use Rattle.pfs_check_lines.specs.WrittenLines.{IsRepeated, IsWritten}
use Rattle.pfs_check_lines.proofs.WrittenSteps.{ended, put_inside}
use Rattle.pfs_check_lines.proofs.repeats.put_inside.Goals as goal

pub returns-then-is_done : goal.returns-then-is_done
returns-then-is_done c = λ whole rest written. subst (λ (z : List Line). IsWritten whole None z rest)
    (sym c.in_ok-put_copies.ensures) (ended whole c.args.repeat c.args.lines.now.items c.args.said.now rest
    (sym c.is_done.ensures ∙ c.if-is_done.true) written)

pub returns : goal.returns
returns c = λ whole rest written. subst (λ (z : List Line). IsRepeated whole c.args.repeat z rest)
    (sym c.in_ok-put_line.ensures) (put_inside whole c.args.repeat c.args.lines.now.items c.args.said.now rest
    (sym c.is_done.ensures ∙ c.if-is_done.false) written)
