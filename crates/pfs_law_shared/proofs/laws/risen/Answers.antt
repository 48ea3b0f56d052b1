use Rattle.pfs_law_shared.proofs.RisingPlaces.{places_rise}
use Rattle.pfs_law_shared.proofs.laws.risen.Goals as goal

pub returns : goal.returns
returns c = places_rise c.told.ensures c.weighed.ensures
