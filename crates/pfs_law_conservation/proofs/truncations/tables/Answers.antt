use Rattle.pfs_law_conservation.proofs.TableWords.{tables_law}
use Rattle.pfs_law_conservation.proofs.truncations.tables.Goals as goal

pub returns : goal.returns
returns c = tables_law
