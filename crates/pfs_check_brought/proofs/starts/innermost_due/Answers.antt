use Rattle.std.proofs.Common.{sym, ◌∙◌}
use Rattle.pfs_check_brought.proofs.DueFacts.{inner_due}
use Rattle.pfs_check_brought.proofs.starts.innermost_due.Goals as goal

pub returns : goal.returns
returns g c = λ flags context gives told.
    inner_due flags context c.in_ok-event.event c.slot.result c.statements.result c.waits.result c.saturating_sub-statements.result
    c.saturating_sub-waits.result c.depth_of-depth.result c.current_due.result (sym (c.innermost.ensures context told) ∙ c.in_ok-event.was)
    (c.slot.ensures context told) (c.statements.ensures context told) (c.waits.ensures context told) c.saturating_sub-statements.ensures
    c.saturating_sub-waits.ensures c.depth_of-depth.ensures (λ others deep. c.current_due.ensures flags others gives deep)
