use Rattle.std.proofs.Common.{length, ap, arith}
use Rattle.pfs_model.specs.SetupFlags.{is_wait, is_statement}
use Rattle.pfs_session.specs.SessionStates.{Book}
use Rattle.pfs_session.proofs.EventSteps.{count_fits}
use Rattle.pfs_session.proofs.session.Session.begin.Goals as goal

pub overflow_add-self : goal.overflow_add-self
overflow_add-self c =
    omega (
      arith,
      count_fits is_statement c.self.inside.nest.events c.self.inside.statements c.one_if.result c.depth.result _ c.self.invariant.statements_are c.one_if.ensures
          (omega (arith, c.requires.shallow, c.depth.ensures.depth, ap (λ (b : Book). b.state.opened.depth) c.self.view_is, ap (λ (b : Book). length b.state.opened.events) c.self.view_is))
          c.depth.type_inv,
    )

pub overflow_add-self-2 : goal.overflow_add-self-2
overflow_add-self-2 c =
    omega (
      arith,
      count_fits is_wait c.self.inside.nest.events c.self.inside.waits c.one_if-2.result c.depth.result _ c.self.invariant.waits_are c.one_if-2.ensures
          (omega (arith, c.requires.shallow, c.depth.ensures.depth, ap (λ (b : Book). b.state.opened.depth) c.self.view_is, ap (λ (b : Book). length b.state.opened.events) c.self.view_is))
          c.depth.type_inv,
    )
