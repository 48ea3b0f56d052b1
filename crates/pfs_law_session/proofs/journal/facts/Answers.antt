use Rattle.pfs_law_session.proofs.StepFacts.{given}
use Rattle.pfs_law_session.proofs.journal.facts.Goals as goal

pub returns : goal.returns
returns c = given
