use Rattle.std.proofs.Common.{rules}
use Rattle.pfs_session.proofs.EventSteps.{settle_from}
use Rattle.pfs_session.proofs.session.Session.settle.Goals as goal

pub returns-clause-played : goal.returns-clause-played
returns-clause-played g c =
    settle_from _ c.args.self.now _ c.as_slice.result.now c.clear.new.held _ _ c.self.view_is c.self.invariant.held_seated c.as_slice.ensures.value c.settle_all.ensures.pays c.clear.ensures (search rules)
