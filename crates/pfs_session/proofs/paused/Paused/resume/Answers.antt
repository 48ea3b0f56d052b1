use Rattle.std.proofs.Common.{ap, ◌∙◌}
use Rattle.pfs_session.specs.Settlements.{owed_in, owed_by_state}
use Rattle.pfs_session.specs.SessionStates.{Book}
use Rattle.pfs_session.proofs.HeldAmounts.{nothing_owed}
use Rattle.pfs_session.proofs.paused.Paused.resume.Goals as goal

pub returns-clause-owed : goal.returns-clause-owed
returns-clause-owed c =
    ap (λ (b : Book). owed_by_state b.state) c.session.view_is
    ∙ (ap (owed_in c.self.inside.session.state.place.thread) c.self.invariant ∙ nothing_owed c.self.inside.session.state.place.thread)
