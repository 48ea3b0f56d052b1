use Rattle.pfs_law_plain.proofs.LineFacts.{first}
use Rattle.pfs_law_plain.proofs.facts.first.Goals as goal

pub returns : goal.returns
returns c = first
