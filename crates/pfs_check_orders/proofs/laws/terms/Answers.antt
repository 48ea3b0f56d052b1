use Rattle.pfs_check_orders.proofs.OrderFacts.{terms_law}
use Rattle.pfs_check_orders.proofs.laws.terms.Goals as goal

pub returns : goal.returns
returns c = terms_law c.asks.ensures.whole
