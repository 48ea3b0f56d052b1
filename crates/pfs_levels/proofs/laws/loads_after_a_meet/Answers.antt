use Rattle.pfs_levels.proofs.WordVersions.{loads_after_a_meet}
use Rattle.pfs_levels.proofs.laws.loads_after_a_meet.Goals as goal

pub returns : goal.returns
returns c = loads_after_a_meet
