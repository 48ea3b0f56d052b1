use Rattle.std.proofs.Common.{[], ap, subst, sym}
use Rattle.pfs_model.specs.EntryPlaces.{places}
use Rattle.pfs_runs.specs.Runs.{all_blocks}
use Rattle.pfs_check_visits.specs.ReportVisits.{entries_by}
use Rattle.pfs_check_visits.proofs.EntryCounts.{all_known}
use Rattle.pfs_check_finals.specs.LostCounts.{AreCounted}
use Rattle.pfs_check_finals.proofs.LossCounts.{counted_all, counted_none}
use Rattle.pfs_check_finals.proofs.losing.collect_losses.Goals as goal

pub returns : goal.returns
returns c = λ case found blocks.
    let all = entries_by c.args.cuts.now c.args.report.now in
    subst (AreCounted c.visit_report.new.visitor.phases.items) (sym (ap (λ z. places (all_blocks z)) blocks))
    (counted_all c.visit_report.new.visitor.phases.items all
    (all_known all (λ earlier. AreCounted c.visit_report.new.visitor.phases.items earlier) (Unit {0}) c.in_ok-_visited._visited
    (c.in_ok-_visited.ensures case found (subst (λ z. AreCounted z []) (sym c.new.ensures.items) counted_none))))
