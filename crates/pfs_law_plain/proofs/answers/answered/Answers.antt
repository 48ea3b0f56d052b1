use Rattle.pfs_law_plain.proofs.ShownAnswers.{answered}
use Rattle.pfs_law_plain.proofs.answers.answered.Goals as goal

pub returns : goal.returns
returns c = answered
