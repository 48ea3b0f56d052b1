use Rattle.pfs_script.proofs.SessionNests.{nested_over_phases}
use Rattle.pfs_script.proofs.laws.over_phases.Goals as goal

pub returns : goal.returns
returns c = nested_over_phases
