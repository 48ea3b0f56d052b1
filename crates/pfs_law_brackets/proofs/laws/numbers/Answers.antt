use Rattle.pfs_law_brackets.proofs.SessionWalks.{bracket_law}
use Rattle.pfs_law_brackets.proofs.laws.numbers.Goals as goal

pub returns : goal.returns
returns c = bracket_law c.events.ensures
