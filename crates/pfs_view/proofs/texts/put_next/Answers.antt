use Rattle.std.proofs.Common.{Option, ◌∷◌, subst}
use Rattle.pfs_view.specs.declared.texts.Repeat.{Repeat}
use Rattle.pfs_view.specs.AskedTexts.{IsWritten}
use Rattle.pfs_view.proofs.texts.put_next.Goals as goal

pub returns-in-None : goal.returns-in-None
returns-in-None c = λ whole rest written. c.put_outside.ensures whole rest
    (subst (λ (z : Option Repeat). IsWritten whole z c.args.texts.now.items (c.args.said.now ∷ rest)) c.in-None.is written)

pub returns-in-Some : goal.returns-in-Some
returns-in-Some c = λ whole rest written. c.put_inside.ensures whole rest
    (subst (λ (z : Option Repeat). IsWritten whole z c.args.texts.now.items (c.args.said.now ∷ rest)) c.in-Some.is written)
