use Rattle.pfs_check_causes.proofs.PutFacts.{greatest_told, puts_worked}
use Rattle.pfs_check_causes.proofs.laws.greatest_puts.Goals as goal

pub returns-clause-told : goal.returns-clause-told
returns-clause-told c = greatest_told

pub returns-clause-worked : goal.returns-clause-worked
returns-clause-worked c = puts_worked
