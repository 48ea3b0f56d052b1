use Rattle.std.proofs.Common.{◌∷◌, [], ap, refl, ◌+◌}
use Rattle.pfs_session.specs.Turns.{SettlesHeld, Quits}
use Rattle.pfs_session.proofs.StepLists.{played_then}
use Rattle.pfs_session.proofs.EventSteps.{quit_from}
use Rattle.pfs_session.proofs.session.Session.quit.Goals as goal

pub returns-clause-played : goal.returns-clause-played
returns-clause-played g c =
    played_then (SettlesHeld ∷ []) (Quits c.args.admin.now ∷ []) c.args.self.now c.settle.new.self _ _ _ _ c.settle.ensures.played
    (quit_from _ c.settle.new.self _ c.push.new.self c.args.admin.now c.quit.new.self c.actions-2.result _ c.lost.result _ _
    c.self.view_is (ap (λ z. z + 1) c.actions.ensures) (ap (λ j. j.entries) c.push.ensures) c.quit.ensures.worked c.quit.ensures.step c.actions-2.ensures c.lost.ensures refl)
