use Rattle.pfs_law_conservation.proofs.PlacesInUse.{held_law}
use Rattle.pfs_law_conservation.proofs.info_rows.held.Goals as goal

pub returns : goal.returns
returns c = held_law
