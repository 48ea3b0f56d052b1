use Rattle.pfs_check_faults.proofs.ChainFacts.{chain_law}
use Rattle.pfs_check_faults.proofs.RisingFacts.{rising_law}
use Rattle.pfs_check_faults.proofs.laws.numbers.Goals as goal

pub returns-clause-chained : goal.returns-clause-chained
returns-clause-chained c = chain_law

pub returns-clause-rising : goal.returns-clause-rising
returns-clause-rising c = rising_law
