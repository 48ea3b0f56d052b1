use Rattle.std.proofs.Common.{ap}
use Rattle.pfs_model.specs.EntryPlaces.{places}
use Rattle.pfs_runs.specs.Runs.{all_blocks}
use Rattle.pfs_check_visits.specs.ReportVisits.{entries_by}
use Rattle.pfs_check_moves.proofs.PrintedFacts.{all_printed}
use Rattle.pfs_check_moves.proofs.collecting.collect_moves.Goals as goal

pub returns : goal.returns
returns c = λ case found blocks.
    all_printed found (entries_by c.args.cuts.now c.args.report.now) c.visit_report.new.visitor.printed.kept (Unit {0}) c.in_ok-_visited._visited
    (ap (λ z. places (all_blocks z)) blocks) (c.in_ok-_visited.ensures case found c.new.ensures)
