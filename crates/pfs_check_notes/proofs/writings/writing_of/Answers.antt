use Rattle.std.proofs.Common.{◌∙◌, ap, cond, drop, reverse, sym}
use Rattle.pfs_check_notes.specs.SessionNotes.{first_outer, outers_of}
use Rattle.pfs_check_notes.proofs.NoteSteps.{ended_written, open_written}
use Rattle.pfs_check_notes.proofs.writings.writing_of.Goals as goal

pub returns-in-Some : goal.returns-in-Some
returns-in-Some c = λ context taken are innermost drawn.
    ended_written context c.in-Some.event c.innermost_outer.result c.args.drawn (sym are.ended ∙ c.in-Some.is)
    (c.innermost_outer.ensures ∙ ap (λ z. first_outer (reverse z)) c.as_slice-outers.ensures.value ∙ ap first_outer are.outers) drawn

pub returns-then-is_let_through : goal.returns-then-is_let_through
returns-then-is_let_through c = λ context taken are innermost drawn.
    open_written context c.in-Some-innermost.event c.next_outer-outer.result (sym are.ended ∙ c.in_default.is) (sym c.in-Some-innermost.is ∙ innermost)
    (c.next_outer-outer.ensures ∙ ap (λ z. first_outer (drop 1 (reverse z))) c.as_slice-outers.ensures.value ∙ ap (λ z. first_outer (drop 1 z)) are.outers
    ∙ ap (λ b. cond b (first_outer (drop 1 (outers_of context.opened))) (first_outer (outers_of context.opened)))
    (sym (sym c.is_let_through.ensures ∙ c.if-is_let_through.true)))

pub returns-else-is_let_through : goal.returns-else-is_let_through
returns-else-is_let_through c = λ context taken are innermost drawn.
    open_written context c.in-Some-innermost.event c.innermost_outer-outer.result (sym are.ended ∙ c.in_default.is) (sym c.in-Some-innermost.is ∙ innermost)
    (c.innermost_outer-outer.ensures ∙ ap (λ z. first_outer (reverse z)) c.as_slice-outers.ensures.value ∙ ap first_outer are.outers
    ∙ ap (λ b. cond b (first_outer (drop 1 (outers_of context.opened))) (first_outer (outers_of context.opened)))
    (sym (sym c.is_let_through.ensures ∙ c.if-is_let_through.false)))
