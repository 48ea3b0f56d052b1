use Rattle.std.proofs.Common.{refl}
use Rattle.pfs_rings.proofs.Offers.{once}
use Rattle.pfs_rings.proofs.puts.offer.Goals as goal

-- src/puts.rt:106:1
pub returns-in-Done-clause-offered : goal.returns-in-Done-clause-offered
returns-in-Done-clause-offered g c =
    once c.args.row c.args.event.now _ c.ring_try.result _ _ _ _ c.in-Done.is c.words_with-content.ensures refl c.ring_try.ensures.call

-- src/puts.rt:106:1
pub returns-in-Busy-clause-offered : goal.returns-in-Busy-clause-offered
returns-in-Busy-clause-offered g c =
    once c.args.row c.args.event.now _ c.ring_try.result _ _ _ _ c.in-Busy.is c.words_with-content.ensures refl c.ring_try.ensures.call
