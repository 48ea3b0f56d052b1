use Rattle.pfs_rings.proofs.ThreadPlaces.{within}
use Rattle.pfs_rings.proofs.laws.rows_of_a_thread.Goals as goal

pub returns : goal.returns
returns c = within
