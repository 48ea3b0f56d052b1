use Rattle.pfs_law_shared.proofs.PhaseChains.{chains_kept}
use Rattle.pfs_law_shared.proofs.laws.chained.Goals as goal

pub returns : goal.returns
returns c = chains_kept c.chained.ensures.rows c.chained.ensures.sets c.told.ensures c.weighed.ensures
