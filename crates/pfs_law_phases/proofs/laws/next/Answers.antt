use Rattle.pfs_law_phases.proofs.NextPhase.{next}
use Rattle.pfs_law_phases.proofs.laws.next.Goals as goal

pub returns : goal.returns
returns c = next c.shared.ensures c.one_more.ensures c.reached.ensures c.told.ensures c.phases.ensures.one_more
