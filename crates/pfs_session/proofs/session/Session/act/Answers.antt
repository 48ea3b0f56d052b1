use Rattle.std.proofs.Common.{◌∷◌, [], ap, refl, ◌+◌}
use Rattle.pfs_session.specs.Turns.{SettlesHeld, Changes}
use Rattle.pfs_session.proofs.StepLists.{played_then}
use Rattle.pfs_session.proofs.EventSteps.{statement_from}
use Rattle.pfs_session.proofs.session.Session.act.Goals as goal

pub returns-clause-played : goal.returns-clause-played
returns-clause-played g c =
    played_then (SettlesHeld ∷ []) (Changes c.args.admin.now c.args.what ∷ []) c.args.self.now c.settle.new.self _ _ _ _ c.settle.ensures.played
    (statement_from _ c.settle.new.self _ c.push.new.self c.state-reply.new.log c.args.admin.now c.state-reply.new.admin c.args.what c.is_answered-answered.result c.state-reply.result c.actions-2.result _ c.lost.result _ _
    c.self.view_is (ap (λ z. z + 1) c.actions.ensures) (ap (λ j. j.entries) c.push.ensures) c.state-reply.ensures.worked c.is_answered-answered.ensures c.state-reply.ensures.reply
    c.answer.ensures.entries c.state-reply.ensures.step c.actions-2.ensures c.lost.ensures refl)
