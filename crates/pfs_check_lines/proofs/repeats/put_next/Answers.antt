use Rattle.std.proofs.Common.{Option, ◌∷◌, subst}
use Rattle.pfs_check_lines.specs.declared.repeats.Repeat.{Repeat}
use Rattle.pfs_check_lines.specs.WrittenLines.{IsWritten}
use Rattle.pfs_check_lines.proofs.repeats.put_next.Goals as goal

pub returns-in-None : goal.returns-in-None
returns-in-None c = λ whole rest written. c.put_outside.ensures whole rest
    (subst (λ (z : Option Repeat). IsWritten whole z c.args.lines.now.items (c.args.said.now ∷ rest)) c.in-None.is written)

pub returns-in-Some : goal.returns-in-Some
returns-in-Some c = λ whole rest written. c.put_inside.ensures whole rest
    (subst (λ (z : Option Repeat). IsWritten whole z c.args.lines.now.items (c.args.said.now ∷ rest)) c.in-Some.is written)
