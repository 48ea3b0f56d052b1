use Rattle.pfs_check_trail.proofs.OpenSteps.{counted_more}
use Rattle.pfs_check_trail.proofs.open_events.OpenEvents.push.Goals as goal

pub invariant_of-self-2 : goal.invariant_of-self-2
invariant_of-self-2 c = counted_more _ _ _ _ c.args.event _ _ _ _ _ _ c.self.invariant c.statements_in.ensures
    c.waits_in.ensures c.in_ok-statements.ensures c.in_ok-waits.ensures c.in_ok-push_both.ensures.items
    c.in_ok-push_both.ensures.through
