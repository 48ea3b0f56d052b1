use Rattle.std.proofs.Common.{◌∙◌, sym, subst, ℕ, List, Bor, None}
use Rattle.pfs_view.specs.AskedTexts.{IsWritten}
use Rattle.pfs_view.proofs.TextSteps.{ended, put_inside}
use Rattle.pfs_view.proofs.texts.put_inside.Goals as goal

pub returns-then-is_done : goal.returns-then-is_done
returns-then-is_done c = λ whole rest written. subst (λ (z : List (Bor (List ℕ))). IsWritten whole None z rest)
    (sym c.in_ok-put_copies.ensures) (ended whole c.args.repeat c.args.texts.now.items c.args.said.now rest
    (sym c.is_done.ensures ∙ c.if-is_done.true) written)

pub returns : goal.returns
returns c = λ whole rest written. put_inside whole c.args.repeat c.args.texts.now.items _ c.args.said.now rest
    (sym c.is_done.ensures ∙ c.if-is_done.false) c.in_ok-put_text.ensures written
