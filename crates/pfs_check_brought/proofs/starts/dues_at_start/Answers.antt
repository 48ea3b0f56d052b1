use Rattle.std.proofs.Common.{sym, ◌∙◌, ap, subst}
use Rattle.pfs_model.specs.Puts.{current_due, dues_at_start}
use Rattle.pfs_check_brought.specs.KeptDues.{IsDepth, opened_behind}
use Rattle.pfs_check_brought.proofs.DueFacts.{depth_outside}
use Rattle.pfs_check_brought.proofs.starts.dues_at_start.Goals as goal

pub returns : goal.returns
returns g c = λ flags context gives told.
    let event = c.in-Some.event in
    c.only_current-2.ensures
    ∙ c.current_due.ensures flags context.opened gives (λ attributed. subst (IsDepth event.subject.kind context.opened) (sym c.depth_of-depth.ensures)
    (depth_outside event.subject.kind context.opened c.statements.result c.waits.result (c.statements.ensures context told) (c.waits.ensures context told)))
    ∙ ap (λ z. current_due flags z event context.opened) (c.slot.ensures context told)
    ∙ ap (λ z. dues_at_start flags context.slot (opened_behind z context.opened)) (sym c.in-Some.is)
