use Rattle.pfs_readsets.proofs.Members.{rows_are, words_are}
use Rattle.pfs_readsets.proofs.laws.members.Goals as goal

pub returns : goal.returns
returns c = record { rows = rows_are; words = words_are }
