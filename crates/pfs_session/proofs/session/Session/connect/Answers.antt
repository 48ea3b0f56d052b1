use Rattle.std.proofs.Common.{refl, ap, ◌∙◌}
use Rattle.pfs_session.specs.SessionStates.{Book}
use Rattle.pfs_session.specs.Settlements.{owed_in}
use Rattle.pfs_session.proofs.HeldAmounts.{nothing_owed}
use Rattle.pfs_session.proofs.EventSteps.{connect_from, kept_elsewhere, none_held}
use Rattle.pfs_session.proofs.session.Session.connect.Goals as goal

pub returns-clause-played : goal.returns-clause-played
returns-clause-played g c =
    connect_from _ c.args.self.now _ c.args.admin.now c.connect-placed.new.self c.args.user c.args.host c.connect-placed.result c.actions.result c.lost.result _ _
    c.self.view_is c.connect-placed.ensures.worked c.connect-placed.ensures.step c.connect-placed.ensures.placed c.actions.ensures c.lost.ensures refl

pub invariant_of-self : goal.invariant_of-self
invariant_of-self g c =
    kept_elsewhere _ _ _ _ (ap (λ (b : Book). b.state.opened.events) c.self.view_is ∙ c.requires.closed)
    (ap (λ (b : Book). b.state.place.thread) c.self.view_is ∙ ap (λ p. p.thread) c.requires.unplaced) c.connect-placed.ensures.slot refl refl refl refl c.self.invariant

pub returns-clause-owed : goal.returns-clause-owed
returns-clause-owed g c =
    let nowhere = ap (λ (b : Book). b.state.place.thread) c.self.view_is ∙ ap (λ p. p.thread) c.requires.unplaced in
    ap (owed_in c.connect-placed.result.thread) (none_held _ _ c.self.invariant.held_seated nowhere) ∙ nothing_owed c.connect-placed.result.thread
