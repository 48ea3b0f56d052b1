use Rattle.pfs_law_shared.proofs.FlooredJournals.{floors_kept}
use Rattle.pfs_law_shared.proofs.laws.floored.Goals as goal

pub returns : goal.returns
returns c = floors_kept c.floored.ensures c.caused.ensures c.named.ensures.had c.named.ensures.words_had c.later.ensures c.agreed.ensures c.told.ensures c.weighed.ensures
