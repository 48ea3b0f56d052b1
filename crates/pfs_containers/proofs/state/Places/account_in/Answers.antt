use Rattle.std.proofs.Common.{rules}
use Rattle.pfs_containers.proofs.PlaceBounds.{account_in_range}
use Rattle.pfs_containers.proofs.state.Places.account_in.Goals as goal

pub returns-in-Some-Some-clause-few : goal.returns-in-Some-Some-clause-few
returns-in-Some-Some-clause-few c =
    account_in_range _ c.args.place c.in-Some-Some.account c.self.invariant (search rules)
