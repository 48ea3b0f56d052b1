use Rattle.pfs_rings.proofs.ThreadPlaces.{apart}
use Rattle.pfs_rings.proofs.laws.one_place.Goals as goal

pub returns : goal.returns
returns c = apart
