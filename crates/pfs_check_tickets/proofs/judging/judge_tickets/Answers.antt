use Rattle.std.proofs.Common.{ap, subst}
use Rattle.pfs_model.specs.EntryPlaces.{places}
use Rattle.pfs_runs.specs.Runs.{all_blocks}
use Rattle.pfs_check_cut.specs.CutReports.{phases_by}
use Rattle.pfs_check_faults.specs.ReportCases.{entries_of}
use Rattle.pfs_check_faults.specs.ShapeFaults.{IsCut}
use Rattle.pfs_check_visits.specs.ReportVisits.{entries_by}
use Rattle.pfs_check_tickets.specs.PutCounts.{AreCounted}
use Rattle.pfs_check_tickets.specs.RisingPuts.{AreTicketsOf}
use Rattle.pfs_check_tickets.specs.ShownPuts.{AreShown}
use Rattle.pfs_check_tickets.proofs.TicketsKept.{tickets_kept, tickets_wrong}
use Rattle.pfs_check_tickets.proofs.judging.judge_tickets.Goals as goal

pub returns-in-None : goal.returns-in-None
returns-in-None c = λ case found same blocks shape.
    let cut =
    subst (λ z. IsCut case.phases z (phases_by c.args.cuts.now c.args.report.now.phases)) same
    (subst (λ z. IsCut case.phases case.report z) blocks shape) in
    let collected = c.in_ok-counts.ensures case found blocks shape in
    let visitor = c.ask_report.new.visitor in
    tickets_kept found c.args.report.now (entries_by c.args.cuts.now c.args.report.now)
    (λ earlier. AreCounted (entries_of found) visitor.counts × AreTicketsOf (entries_of found) visitor.tickets × AreShown earlier visitor.shown)
    (ap (λ z. places (all_blocks z)) blocks)
    (rw c.in-None.is at (c.in_ok-line.ensures case.phases cut case found (collected.0, collected.1, c.new.ensures)))

pub returns : goal.returns
returns c = λ case found same blocks shape.
    let cut =
    subst (λ z. IsCut case.phases z (phases_by c.args.cuts.now c.args.report.now.phases)) same
    (subst (λ z. IsCut case.phases case.report z) blocks shape) in
    let collected = c.in_ok-counts.ensures case found blocks shape in
    let visitor = c.ask_report.new.visitor in
    tickets_wrong case found c.args.report.now (entries_by c.args.cuts.now c.args.report.now)
    (λ earlier. AreCounted (entries_of found) visitor.counts × AreTicketsOf (entries_of found) visitor.tickets × AreShown earlier visitor.shown)
    c.in-Some.line same (ap (λ z. places (all_blocks z)) blocks)
    (rw c.in-Some.is at (c.in_ok-line.ensures case.phases cut case found (collected.0, collected.1, c.new.ensures)))
