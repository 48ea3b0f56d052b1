use Rattle.std.proofs.Common.{sym, ◌∙◌}
use Rattle.pfs_check_brought.proofs.DueFacts.{current_off, current_some}
use Rattle.pfs_check_brought.proofs.offers.current_due.Goals as goal

pub returns-then-is_offered_current : goal.returns-then-is_offered_current
returns-then-is_offered_current c = λ flags others gives deep.
    current_some flags c.args.slot c.in_ok-own.own c.current_row.result c.args.depth c.args.event.now others c.in_ok-own.was
    (sym (c.is_offered_current.ensures flags c.args.slot gives) ∙ c.if-is_offered_current.true) c.current_row.ensures deep

pub returns : goal.returns
returns c = λ flags others gives deep.
    current_off flags c.args.slot c.in_ok-own.own c.args.event.now others c.in_ok-own.was
    (sym (c.is_offered_current.ensures flags c.args.slot gives) ∙ c.if-is_offered_current.false)
