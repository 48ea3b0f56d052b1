use Rattle.pfs_check_cut.specs.CutReports.{phases_by}
use Rattle.pfs_check_visits.specs.ReportVisits.{entries_by}
use Rattle.pfs_check_visits.proofs.EntryCounts.{line_lacking, none_lacking}
use Rattle.pfs_check_visits.proofs.asking.ask_report.Goals as goal

pub returns-in-Kept : goal.returns-in-Kept
returns-in-Kept g c = λ phases cut case found known.
    none_lacking c.args.report.now (g.V.Visit.rule case found) (entries_by c.args.cuts.now c.args.report.now)
    (g.V.Visit.knows c.visit_report.new.visitor case found) _
    (rw c.in-Kept.is at (c.in_ok-visited.ensures case found known)).0

pub returns-in_ok-line-in-Lacking : goal.returns-in_ok-line-in-Lacking
returns-in_ok-line-in-Lacking g c = λ phases cut case found known.
    line_lacking phases c.args.report.now (phases_by c.args.cuts.now c.args.report.now.phases) (g.V.Visit.rule case found)
    (g.V.Visit.knows c.visit_report.new.visitor case found) c.in-Lacking.at c.in_ok-line-in-Lacking.line cut
    (rw c.in-Lacking.is at (c.in_ok-visited.ensures case found known)) c.in_ok-line-in-Lacking.ensures.found
