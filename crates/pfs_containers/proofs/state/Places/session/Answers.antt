use Rattle.std.proofs.Common.{rules}
use Rattle.pfs_containers.proofs.PlaceBounds.{session_in_range}
use Rattle.pfs_containers.proofs.state.Places.session.Goals as goal

pub returns-in-Some-Some-clause-few : goal.returns-in-Some-Some-clause-few
returns-in-Some-Some-clause-few c =
    session_in_range _ c.args.slot c.in-Some-Some.session c.self.invariant (search rules)
