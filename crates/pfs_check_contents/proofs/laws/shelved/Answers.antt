use Rattle.pfs_check_contents.proofs.ShelvedContents.{shelved}
use Rattle.pfs_check_contents.proofs.laws.shelved.Goals as goal

pub returns : goal.returns
returns c = shelved c.whole.ensures
