use Rattle.pfs_law_shared.proofs.PrintedLabels.{labels_are}
use Rattle.pfs_law_shared.proofs.laws.labelled.Goals as goal

pub returns : goal.returns
returns c = labels_are c.never_fall.ensures.rows c.never_fall.ensures.words c.chained.ensures.rows c.chained.ensures.marks c.agreed.ensures c.told.ensures c.weighed.ensures c.told_through.ensures
