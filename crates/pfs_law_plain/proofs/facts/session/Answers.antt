use Rattle.pfs_law_plain.proofs.SessionFacts.{session_law}
use Rattle.pfs_law_plain.proofs.facts.session.Goals as goal

pub returns : goal.returns
returns c = session_law
