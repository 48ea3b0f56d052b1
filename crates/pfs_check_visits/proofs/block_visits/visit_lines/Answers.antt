use Rattle.pfs_check_walk.specs.Walks.{onto}
use Rattle.pfs_check_visits.proofs.LineVisits.{ends_end, lines_end, lines_first, lines_lacking, lines_more}
use Rattle.pfs_check_visits.proofs.VisitSteps.{read_at}
use Rattle.pfs_check_visits.proofs.block_visits.visit_lines.Goals as goal

pub loop-place-init : goal.loop-place-init
loop-place-init g c = λ case found earlier context told known.
    lines_first (g.V.Visit.rule case found) (g.V.Visit.knows c.args.visitor.now case found) earlier c.args.spot.phase c.args.spot.session
    context c.args.lines.now c.args.ends.now c.args.entries.now c.args.track.now told known

pub returns-then-place-ends : goal.returns-then-place-ends
returns-then-place-ends g c = λ case found earlier context told known.
    ends_end (g.V.Visit.rule case found) (g.V.Visit.knows c.loop-place.visitor case found) earlier c.args.spot.phase c.args.spot.session
    context c.args.lines.now c.args.ends.now c.args.entries.now c.loop-place.place c.loop-place.start c.loop-place.count c.loop-place.track
    c.if-place-ends.true (c.loop-place.invariant case found earlier context told known)

pub loop-place-preserved : goal.loop-place-preserved
loop-place-preserved g c = λ case found earlier context told known.
    let under = c.loop-place.invariant case found earlier context told known in
    let visited = rw c.in-Kept.is at (c.in_ok-visited.ensures case found (onto earlier under.at.done) under.now under.told under.at.kept.known) in
    lines_more (g.V.Visit.rule case found) (g.V.Visit.knows c.loop-place.visitor case found)
    (g.V.Visit.knows c.visit_line.new.visitor case found) earlier c.args.spot.phase c.args.spot.session context
    c.args.lines.now c.args.ends.now c.args.entries.now c.loop-place.place c.loop-place.start c.loop-place.count c.loop-place.track
    c.visit_line.new.track _ _ c.in-Kept.more _ under c.loop-place-test.true
    c.if-place-ends.false
    (read_at c.args.lines.now c.loop-place.place _ c.loop-place-test.true) (read_at c.args.ends.now c.loop-place.place 0 c.if-place-ends.false)
    visited.0 visited.1 c.in_ok-next-in-Kept.ensures

pub returns-in-Lacking : goal.returns-in-Lacking
returns-in-Lacking g c = λ case found earlier context told known.
    let under = c.loop-place.invariant case found earlier context told known in
    lines_lacking (g.V.Visit.rule case found) (g.V.Visit.knows c.loop-place.visitor case found) earlier c.args.spot.phase
    c.args.spot.session context c.args.lines.now c.args.ends.now c.args.entries.now c.loop-place.place c.loop-place.start c.loop-place.count
    c.loop-place.track _ _ c.in-Lacking.at _ under c.loop-place-test.true
    c.if-place-ends.false
    (read_at c.args.lines.now c.loop-place.place _ c.loop-place-test.true) (read_at c.args.ends.now c.loop-place.place 0 c.if-place-ends.false)
    (rw c.in-Lacking.is at (c.in_ok-visited.ensures case found (onto earlier under.at.done) under.now under.told under.at.kept.known))
    c.in_ok-lacking-in-Lacking.ensures

pub returns : goal.returns
returns g c = λ case found earlier context told known.
    lines_end (g.V.Visit.rule case found) (g.V.Visit.knows c.loop-place.visitor case found) earlier c.args.spot.phase c.args.spot.session
    context c.args.lines.now c.args.ends.now c.args.entries.now c.loop-place.place c.loop-place.start c.loop-place.count c.loop-place.track
    c.loop-place-test.false (c.loop-place.invariant case found earlier context told known)
