use Rattle.std.proofs.Common.{rules}
use Rattle.pfs_session.proofs.HeldAmounts.{pays_one}
use Rattle.pfs_session.proofs.paying.pay.Goals as goal

pub returns-clause-pays : goal.returns-clause-pays
returns-clause-pays g c =
    pays_one c.args.row c.take.result.0 c.put-version.result c.take.result.1 _ c.args.amount.now _ _ _ _ _ c.take.ensures.call c.put-version.ensures.call
    (search rules) (c.put-version.ensures.next _ c.take.ensures.mine) (search rules)
