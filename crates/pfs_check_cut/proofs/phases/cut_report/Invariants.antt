use Rattle.pfs_check_cut.proofs.PhaseSteps.{AreUnder}
use Rattle.pfs_check_cut.proofs.phases.cut_report.Given as goal

abbrev pub invariant-loop-place : goal.invariant-loop-place
invariant-loop-place l = AreUnder l.phases l.reports l.cuts.items l.trails l.place l.line
