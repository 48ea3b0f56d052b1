use Rattle.std.proofs.Common.{List, drop}
use Rattle.pfs_model.specs.EntryPlaces.{Block, Placed}
use Rattle.pfs_check_cut.specs.CutReports.{blocks_by}
use Rattle.pfs_check_cut.specs.Sessions.{AreTrailsOf}
use Rattle.pfs_check_faults.specs.ReportCases.{Case, Findings}
use Rattle.pfs_check_visits.proofs.BlockVisits.{AreLeft}
use Rattle.pfs_check_visits.proofs.report_visits.visit_blocks.Given as goal

abbrev pub invariant-loop-place : goal.invariant-loop-place
invariant-loop-place g l = (case : Case) → (found : Findings) → (earlier : List Placed) → (blocks : List Block)
    → AreTrailsOf blocks l.fn.tracks → g.V.Visit.knows l.fn.visitor case found earlier
    → AreLeft (g.V.Visit.rule case found) (g.V.Visit.knows l.visitor case found) earlier blocks (blocks_by l.cuts l.reports)
    (blocks_by (drop l.place l.cuts) (drop l.place l.reports)) l.count l.tracks
