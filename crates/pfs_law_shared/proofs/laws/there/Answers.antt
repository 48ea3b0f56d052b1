use Rattle.pfs_law_shared.proofs.NamedThere.{named_there}
use Rattle.pfs_law_shared.proofs.laws.there.Goals as goal

pub returns : goal.returns
returns c = named_there c.told_through.ensures
