use Rattle.pfs_law_plain.proofs.LineFacts.{line_law}
use Rattle.pfs_law_plain.proofs.facts.line.Goals as goal

pub returns : goal.returns
returns c = line_law
