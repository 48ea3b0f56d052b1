use Rattle.std.proofs.Common.{ap, sym, subst, []}
use Rattle.pfs_model.specs.EntryPlaces.{places}
use Rattle.pfs_runs.specs.Runs.{all_blocks}
use Rattle.pfs_check_faults.specs.ReportCases.{entries_of}
use Rattle.pfs_check_visits.specs.ReportVisits.{entries_by}
use Rattle.pfs_check_visits.proofs.EntryCounts.{all_known}
use Rattle.pfs_check_walk.specs.Walks.{onto}
use Rattle.pfs_check_tickets.specs.PutCounts.{AreByPhases, AreCounted}
use Rattle.pfs_check_tickets.specs.RisingPuts.{AreTicketsOf}
use Rattle.pfs_check_tickets.proofs.CountFacts.{all_by_phases, counted_all}
use Rattle.pfs_check_tickets.proofs.RisingFacts.{tickets_all}
use Rattle.pfs_check_tickets.proofs.judging.collect_tickets.Goals as goal

pub returns : goal.returns
returns c = λ case found blocks shape.
    let all = entries_by c.args.cuts.now c.args.report.now in
    let counts = c.visit_report.new.visitor.counts in
    let tickets = c.visit_report.new.visitor.tickets in
    let known =
    subst (λ z. (AreByPhases (onto [] z) → AreCounted (onto [] z) counts) × AreTicketsOf (onto [] z) tickets)
    (sym (ap (λ z. places (all_blocks z)) blocks))
    (all_known all (λ earlier. (AreByPhases earlier → AreCounted earlier counts) × AreTicketsOf earlier tickets) (Unit {0})
    c.in_ok-_visited._visited (c.in_ok-_visited.ensures case found (λ phases. c.new-collecting.ensures.counts, c.new-collecting.ensures.tickets))) in (
      counted_all counts (entries_of found) (known.0 (all_by_phases (entries_of found) (c.phases_rise.ensures (all_blocks found.blocks) shape.shaped))),
      tickets_all tickets (entries_of found) known.1,
    )
