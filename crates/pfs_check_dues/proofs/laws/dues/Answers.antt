use Rattle.pfs_check_dues.proofs.LineSpans.{first_law}
use Rattle.pfs_check_dues.proofs.OwedFacts.{brought_law, owing_law}
use Rattle.pfs_check_dues.proofs.laws.dues.Goals as goal

pub returns-clause-brought : goal.returns-clause-brought
returns-clause-brought c = brought_law

pub returns-clause-owing : goal.returns-clause-owing
returns-clause-owing c = owing_law

pub returns-clause-first : goal.returns-clause-first
returns-clause-first c = first_law
