use Rattle.pfs_gen.proofs.GeneratedScript.{is_script}
use Rattle.pfs_gen.proofs.laws.is_script.Goals as goal

pub returns : goal.returns
returns c = is_script
