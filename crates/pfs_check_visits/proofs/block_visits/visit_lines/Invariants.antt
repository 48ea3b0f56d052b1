use Rattle.std.proofs.Common.{List}
use Rattle.pfs_model.specs.Contexts.{Context}
use Rattle.pfs_model.specs.EntryPlaces.{Placed}
use Rattle.pfs_check_faults.specs.ReportCases.{Case, Findings}
use Rattle.pfs_check_trail.specs.Trails.{IsTrailOf}
use Rattle.pfs_check_visits.proofs.LineVisits.{AreLinesUnder}
use Rattle.pfs_check_visits.proofs.block_visits.visit_lines.Given as goal

abbrev pub invariant-loop-place : goal.invariant-loop-place
invariant-loop-place g l = (case : Case) → (found : Findings) → (earlier : List Placed) → (context : Context)
    → IsTrailOf context l.fn.track → g.V.Visit.knows l.fn.visitor case found earlier
    → AreLinesUnder (g.V.Visit.rule case found) (g.V.Visit.knows l.visitor case found) earlier l.spot.phase l.spot.session context
    l.lines l.ends l.entries l.place l.start l.count l.track
