use Rattle.std.proofs.Common.{◌+◌, ◌++◌, [], drop}
use Rattle.pfs_runs.specs.Runs.{all_blocks}
use Rattle.pfs_check_cut.specs.CutReports.{blocks_by, phases_by}
use Rattle.pfs_check_cut.specs.Sessions.{AreTrailsOf}
use Rattle.pfs_check_walk.specs.Walks.{onto}
use Rattle.pfs_check_visits.specs.declared.visited.Visited.TheVariants.{Kept, Lacking}
use Rattle.pfs_check_visits.proofs.BlockVisits.{all_visited, left_end, left_first, left_lacking, left_more, next_phase_of, parts_over, phases_over}
use Rattle.pfs_check_cut.proofs.SessionSteps.{none_told}
use Rattle.pfs_check_visits.proofs.VisitSteps.{same_read}
use Rattle.pfs_check_visits.proofs.report_visits.visit_report.Goals as goal

pub loop-place-init : goal.loop-place-init
loop-place-init g c = λ case found known.
    left_first (g.V.Visit.rule case found) (g.V.Visit.knows c.args.visitor.now case found) [] []
    (all_blocks (phases_by c.args.cuts.now c.as_slice-reports.result.now)) c.new-tracks.result
    (none_told c.new-tracks.result c.new-tracks.ensures.empty) known

pub returns-then-place-reports : goal.returns-then-place-reports
returns-then-place-reports g c = λ case found known.
    let reports = c.as_slice-reports.result.now in
    all_visited (g.V.Visit.rule case found) (g.V.Visit.knows c.loop-place.visitor case found) c.args.cuts.now reports
    c.args.report.now.phases (Kept c.loop-place.count) (AreTrailsOf ([] ++ all_blocks (phases_by c.args.cuts.now reports)) c.loop-place.tracks)
    c.as_slice-reports.ensures
    (left_end (g.V.Visit.rule case found) (g.V.Visit.knows c.loop-place.visitor case found) [] []
    (all_blocks (phases_by c.args.cuts.now reports)) (all_blocks (phases_by (drop c.loop-place.place c.args.cuts.now) (drop c.loop-place.place reports)))
    c.loop-place.count c.loop-place.tracks (parts_over c.args.cuts.now reports c.loop-place.place c.if-place-reports.true)
    (c.loop-place.invariant case found known))

pub loop-place-preserved : goal.loop-place-preserved
loop-place-preserved g c = λ case found known.
    let under = c.loop-place.invariant case found known in
    let reports = c.as_slice-reports.result.now in
    let part = blocks_by c.as_slice-blocks.result.now c.as_slice-printed.result.now in
    let visited = rw c.in-Kept.is at (c.in_ok-visited.ensures case found (onto [] under.at.done) under.done under.tracked under.at.kept.known) in
    left_more (g.V.Visit.rule case found) (g.V.Visit.knows c.loop-place.visitor case found)
    (g.V.Visit.knows c.visit_blocks.new.visitor case found) [] [] (all_blocks (phases_by c.args.cuts.now reports))
    (all_blocks (phases_by (drop c.loop-place.place c.args.cuts.now) (drop c.loop-place.place reports))) part
    (all_blocks (phases_by (drop (c.loop-place.place + 1) c.args.cuts.now) (drop (c.loop-place.place + 1) reports)))
    c.loop-place.count c.in-Kept.more _ c.loop-place.tracks c.visit_blocks.new.tracks under
    (next_phase_of c.args.cuts.now reports c.loop-place.place c.index-cuts-place.result c.parts-parts.result.now c.as_slice-blocks.result.now
    c.as_slice-printed.result.now c.loop-place-test.true c.if-place-reports.false c.index-cuts-place.is
    (same_read reports c.loop-place.place c.index-reports-place.result c.parts-parts.result.now c.parts-parts.ensures.value c.index-reports-place.is)
    c.as_slice-blocks.ensures.value c.as_slice-printed.ensures) visited.0 visited.1 c.in_ok-next-in-Kept.ensures

pub returns-in-Lacking : goal.returns-in-Lacking
returns-in-Lacking g c = λ case found known.
    let under = c.loop-place.invariant case found known in
    let reports = c.as_slice-reports.result.now in
    let part = blocks_by c.as_slice-blocks.result.now c.as_slice-printed.result.now in
    all_visited (g.V.Visit.rule case found) (g.V.Visit.knows c.visit_blocks.new.visitor case found) c.args.cuts.now reports
    c.args.report.now.phases (Lacking c.in_ok-lacking-in-Lacking.lacking) (Unit {0}) c.as_slice-reports.ensures
    (left_lacking (g.V.Visit.rule case found) (g.V.Visit.knows c.loop-place.visitor case found) [] []
    (all_blocks (phases_by c.args.cuts.now reports))
    (all_blocks (phases_by (drop c.loop-place.place c.args.cuts.now) (drop c.loop-place.place reports))) part
    (all_blocks (phases_by (drop (c.loop-place.place + 1) c.args.cuts.now) (drop (c.loop-place.place + 1) reports)))
    c.loop-place.count c.in-Lacking.at c.in_ok-lacking-in-Lacking.lacking c.loop-place.tracks under
    (next_phase_of c.args.cuts.now reports c.loop-place.place c.index-cuts-place.result c.parts-parts.result.now c.as_slice-blocks.result.now
    c.as_slice-printed.result.now c.loop-place-test.true c.if-place-reports.false c.index-cuts-place.is
    (same_read reports c.loop-place.place c.index-reports-place.result c.parts-parts.result.now c.parts-parts.ensures.value c.index-reports-place.is)
    c.as_slice-blocks.ensures.value c.as_slice-printed.ensures)
    (rw c.in-Lacking.is at (c.in_ok-visited.ensures case found (onto [] under.at.done) under.done under.tracked under.at.kept.known))
    c.in_ok-lacking-in-Lacking.ensures)

pub returns : goal.returns
returns g c = λ case found known.
    let reports = c.as_slice-reports.result.now in
    all_visited (g.V.Visit.rule case found) (g.V.Visit.knows c.loop-place.visitor case found) c.args.cuts.now reports
    c.args.report.now.phases (Kept c.loop-place.count) (AreTrailsOf ([] ++ all_blocks (phases_by c.args.cuts.now reports)) c.loop-place.tracks)
    c.as_slice-reports.ensures
    (left_end (g.V.Visit.rule case found) (g.V.Visit.knows c.loop-place.visitor case found) [] []
    (all_blocks (phases_by c.args.cuts.now reports)) (all_blocks (phases_by (drop c.loop-place.place c.args.cuts.now) (drop c.loop-place.place reports)))
    c.loop-place.count c.loop-place.tracks (phases_over c.args.cuts.now reports c.loop-place.place c.loop-place-test.false)
    (c.loop-place.invariant case found known))
