use Rattle.pfs_law_conservation.proofs.PlacesInUse.{remaining_law}
use Rattle.pfs_law_conservation.proofs.info_rows.remaining.Goals as goal

pub returns : goal.returns
returns c = remaining_law
