use Rattle.pfs_script.proofs.SessionNames.{are_named}
use Rattle.pfs_script.proofs.laws.session_names.Goals as goal

pub returns : goal.returns
returns c = are_named
