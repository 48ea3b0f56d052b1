use Rattle.pfs_text.proofs.LikeLemmas.{like_tells}
use Rattle.pfs_text.proofs.laws.patterns.Goals as goal

pub returns : goal.returns
returns c = like_tells
