use Rattle.pfs_law_script.proofs.PlayablePhases.{playable}
use Rattle.pfs_law_script.proofs.blocks.playable.Goals as goal

pub returns : goal.returns
returns c = playable
