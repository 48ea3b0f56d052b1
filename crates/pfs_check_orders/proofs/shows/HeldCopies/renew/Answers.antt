use Rattle.pfs_check_orders.proofs.ShownFacts.{made_last}
use Rattle.pfs_check_orders.proofs.shows.HeldCopies.renew.Goals as goal

pub returns-clause-stands : goal.returns-clause-stands
returns-clause-stands c = λ current.
    made_last c.args.admin.now c.args.self.now.tables.items c.push.new.self.items c.in_ok-tables.tables c.in_ok-push.ensures.items c.in_ok-tables.ensures
