use Rattle.pfs_law_threads.proofs.PhaseSteps.{none, one_more}
use Rattle.pfs_law_threads.proofs.laws.phases.Goals as goal

pub returns : goal.returns
returns c = record {
  none = none;
  one_more = one_more;
}
