use Rattle.pfs_law_shared.proofs.RisingNumbers.{numbers_rise}
use Rattle.pfs_law_shared.proofs.laws.rising.Goals as goal

pub returns : goal.returns
returns c = numbers_rise c.later.ensures c.told_through.ensures
