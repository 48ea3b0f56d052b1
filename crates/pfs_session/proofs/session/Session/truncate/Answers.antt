use Rattle.std.proofs.Common.{◌∷◌, [], ap, refl, ◌+◌}
use Rattle.pfs_session.specs.Turns.{SettlesHeld, Truncates}
use Rattle.pfs_session.proofs.StepLists.{played_then}
use Rattle.pfs_session.proofs.EventSteps.{truncation_from}
use Rattle.pfs_session.proofs.session.Session.truncate.Goals as goal

pub returns-clause-played : goal.returns-clause-played
returns-clause-played g c =
    played_then (SettlesHeld ∷ []) (Truncates c.args.admin.now c.args.what ∷ []) c.args.self.now c.settle.new.self _ _ _ _ c.settle.ensures.played
    (truncation_from _ c.settle.new.self _ c.push.new.self c.truncate.new.log c.args.admin.now c.truncate.new.self c.args.what c.actions-2.result _ c.lost.result _ _
    c.self.view_is (ap (λ z. z + 1) c.actions.ensures) (ap (λ j. j.entries) c.push.ensures) c.truncate.ensures.worked (ap (λ j. j.entries) c.push-2.ensures)
    c.truncate.ensures.step c.actions-2.ensures c.lost.ensures refl)
