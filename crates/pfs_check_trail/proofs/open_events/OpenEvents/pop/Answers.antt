use Rattle.std.proofs.Common.{sym, arith}
use Rattle.pfs_model.specs.SetupFlags.{is_statement, is_wait}
use Rattle.pfs_check_trail.proofs.OpenSteps.{counted_less, counted_none, opened_first}
use Rattle.pfs_check_trail.proofs.open_events.OpenEvents.pop.Goals as goal

pub overflow_sub-self : goal.overflow_sub-self
overflow_sub-self c = omega (
  arith,
  c.self.invariant.statements_are,
  opened_first is_statement _ _ (sym c.in-Some.ensures.event),
  c.statements_in.ensures,
)

pub overflow_sub-self-in-Some : goal.overflow_sub-self-in-Some
overflow_sub-self-in-Some c = omega (
  arith,
  c.self.invariant.waits_are,
  opened_first is_wait _ _ (sym c.in-Some.ensures.event),
  c.waits_in.ensures,
)

pub invariant_of-self : goal.invariant_of-self
invariant_of-self c = counted_less _ _ _ _ c.in-Some.event _ _ _ _ c.self.invariant (sym c.in-Some.ensures.event)
    c.in-Some.ensures.items c.in-Some.ensures.through c.statements_in.ensures c.waits_in.ensures

pub invariant_of-self-in-None : goal.invariant_of-self-in-None
invariant_of-self-in-None c = counted_none _ _ _ _ _ _ c.self.invariant (sym c.in-None.ensures.event)
    c.in-None.ensures.items c.in-None.ensures.through
