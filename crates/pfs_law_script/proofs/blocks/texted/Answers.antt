use Rattle.pfs_law_script.proofs.DigestTexts.{texted}
use Rattle.pfs_law_script.proofs.blocks.texted.Goals as goal

pub returns : goal.returns
returns c = texted
