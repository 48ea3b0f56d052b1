use Rattle.pfs_law_conservation.proofs.OwnPlaces.{standing_law}
use Rattle.pfs_law_conservation.proofs.truncations.standing.Goals as goal

pub returns : goal.returns
returns c = standing_law
