use Rattle.std.proofs.Common.{◌+◌, ◌∷◌, [], drop}
use Rattle.pfs_check_cut.specs.CutReports.{block_by, blocks_by}
use Rattle.pfs_check_walk.specs.Walks.{onto}
use Rattle.pfs_check_visits.proofs.BlockVisits.{cuts_over, left_end, left_first, left_lacking, left_more, next_block, one_kept, one_lacking, reports_over}
use Rattle.pfs_check_visits.proofs.report_visits.visit_blocks.Goals as goal

pub loop-place-init : goal.loop-place-init
loop-place-init g c = λ case found earlier blocks are known.
    left_first (g.V.Visit.rule case found) (g.V.Visit.knows c.args.visitor.now case found) earlier blocks
    (blocks_by c.args.cuts.now c.args.reports.now) c.args.tracks.now are known

pub returns-then-place-reports : goal.returns-then-place-reports
returns-then-place-reports g c = λ case found earlier blocks are known.
    left_end (g.V.Visit.rule case found) (g.V.Visit.knows c.loop-place.visitor case found) earlier blocks
    (blocks_by c.args.cuts.now c.args.reports.now) (blocks_by (drop c.loop-place.place c.args.cuts.now) (drop c.loop-place.place c.args.reports.now))
    c.loop-place.count c.loop-place.tracks (reports_over c.args.cuts.now c.args.reports.now c.loop-place.place c.if-place-reports.true)
    (c.loop-place.invariant case found earlier blocks are known)

pub loop-place-preserved : goal.loop-place-preserved
loop-place-preserved g c = λ case found earlier blocks are known.
    let under = c.loop-place.invariant case found earlier blocks are known in
    let block = block_by c.index-cuts-place.result c.index-reports-place.result in
    let visited = rw c.in-Kept.is at (c.in_ok-visited.ensures case found (onto earlier under.at.done) under.done under.tracked under.at.kept.known) in
    left_more (g.V.Visit.rule case found) (g.V.Visit.knows c.loop-place.visitor case found)
    (g.V.Visit.knows c.visit_block.new.visitor case found) earlier blocks (blocks_by c.args.cuts.now c.args.reports.now)
    (blocks_by (drop c.loop-place.place c.args.cuts.now) (drop c.loop-place.place c.args.reports.now)) (block ∷ [])
    (blocks_by (drop (c.loop-place.place + 1) c.args.cuts.now) (drop (c.loop-place.place + 1) c.args.reports.now))
    c.loop-place.count c.in-Kept.more _ c.loop-place.tracks c.visit_block.new.tracks under
    (next_block c.args.cuts.now c.args.reports.now c.loop-place.place c.index-cuts-place.result c.index-reports-place.result
    c.loop-place-test.true c.if-place-reports.false c.index-cuts-place.is c.index-reports-place.is)
    (one_kept (g.V.Visit.rule case found) (onto earlier under.at.done) under.done block
    (g.V.Visit.knows c.visit_block.new.visitor case found) c.in-Kept.more visited.0) visited.1 c.in_ok-next-in-Kept.ensures

pub returns-in-Lacking : goal.returns-in-Lacking
returns-in-Lacking g c = λ case found earlier blocks are known.
    let under = c.loop-place.invariant case found earlier blocks are known in
    let block = block_by c.index-cuts-place.result c.index-reports-place.result in
    left_lacking (g.V.Visit.rule case found) (g.V.Visit.knows c.loop-place.visitor case found) earlier blocks
    (blocks_by c.args.cuts.now c.args.reports.now)
    (blocks_by (drop c.loop-place.place c.args.cuts.now) (drop c.loop-place.place c.args.reports.now)) (block ∷ [])
    (blocks_by (drop (c.loop-place.place + 1) c.args.cuts.now) (drop (c.loop-place.place + 1) c.args.reports.now))
    c.loop-place.count c.in-Lacking.at _ c.loop-place.tracks under
    (next_block c.args.cuts.now c.args.reports.now c.loop-place.place c.index-cuts-place.result c.index-reports-place.result
    c.loop-place-test.true c.if-place-reports.false c.index-cuts-place.is c.index-reports-place.is)
    (one_lacking (g.V.Visit.rule case found) (onto earlier under.at.done) under.done block c.in-Lacking.at
    (rw c.in-Lacking.is at (c.in_ok-visited.ensures case found (onto earlier under.at.done) under.done under.tracked under.at.kept.known)))
    c.in_ok-lacking-in-Lacking.ensures

pub returns : goal.returns
returns g c = λ case found earlier blocks are known.
    left_end (g.V.Visit.rule case found) (g.V.Visit.knows c.loop-place.visitor case found) earlier blocks
    (blocks_by c.args.cuts.now c.args.reports.now) (blocks_by (drop c.loop-place.place c.args.cuts.now) (drop c.loop-place.place c.args.reports.now))
    c.loop-place.count c.loop-place.tracks (cuts_over c.args.cuts.now c.args.reports.now c.loop-place.place c.loop-place-test.false)
    (c.loop-place.invariant case found earlier blocks are known)
