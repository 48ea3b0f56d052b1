use Rattle.std.proofs.Common.{[], drop}
use Rattle.pfs_runs.specs.Runs.{all_blocks}
use Rattle.pfs_check_cut.specs.CutReports.{phases_by}
use Rattle.pfs_check_faults.specs.ReportCases.{Case, Findings}
use Rattle.pfs_check_visits.proofs.BlockVisits.{AreLeft}
use Rattle.pfs_check_visits.proofs.report_visits.visit_report.Given as goal

abbrev pub invariant-loop-place : goal.invariant-loop-place
invariant-loop-place g l = (case : Case) → (found : Findings) → g.V.Visit.knows l.fn.visitor case found []
    → AreLeft (g.V.Visit.rule case found) (g.V.Visit.knows l.visitor case found) [] [] (all_blocks (phases_by l.cuts l.reports))
    (all_blocks (phases_by (drop l.place l.cuts) (drop l.place l.reports))) l.count l.tracks
