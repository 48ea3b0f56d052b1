use Rattle.std.proofs.Common.{List, sym, subst}
use Rattle.pfs_model.specs.EntryPlaces.{Block, places}
use Rattle.pfs_runs.specs.Runs.{all_blocks}
use Rattle.pfs_check_visits.specs.ReportVisits.{AreNumbersAsked, entries_by}
use Rattle.pfs_check_visits.proofs.BlockVisits.{numbers_asked}
use Rattle.pfs_check_visits.proofs.report_visits.visit_numbers.Goals as goal

pub returns : goal.returns
returns c = λ case found same.
    subst (λ (z : List (List Block)). AreNumbersAsked (places (all_blocks z)) c.in_ok-visited.visited) (sym same)
    (numbers_asked (entries_by c.args.cuts.now c.args.report.now) (λ _. Unit {0}) (Unit {0}) c.in_ok-visited.visited
    (c.in_ok-visited.ensures case found tt))
