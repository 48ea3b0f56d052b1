use Rattle.pfs_lexer.proofs.UniqueItems.{one_reading}
use Rattle.pfs_lexer.proofs.laws.one_reading.Goals as goal

pub returns : goal.returns
returns c = one_reading
