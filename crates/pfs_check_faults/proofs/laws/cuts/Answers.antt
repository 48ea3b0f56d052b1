use Rattle.pfs_check_faults.proofs.BlockCuts.{cut_law, one_cut}
use Rattle.pfs_check_faults.proofs.laws.cuts.Goals as goal

pub returns-clause-exact : goal.returns-clause-exact
returns-clause-exact c = cut_law

pub returns-clause-one : goal.returns-clause-one
returns-clause-one c = one_cut
