use Rattle.std.proofs.Common.{ap}
use Rattle.std.proofs.lemmas.Result.{IfOk-weaker}
use Rattle.pfs_model.specs.EntryPlaces.{places}
use Rattle.pfs_runs.specs.Runs.{all_blocks}
use Rattle.pfs_check_faults.specs.ReportCases.{entries_of}
use Rattle.pfs_check_floors.specs.CollectedGivens.{AreCollected}
use Rattle.pfs_check_seen.proofs.SeenFacts.{collected_all}
use Rattle.pfs_check_seen.specs.SeenRules.{in_order}
use Rattle.pfs_check_visits.specs.ReportVisits.{entries_by}
use Rattle.pfs_check_ends.proofs.ShownEnds.{few_visited}
use Rattle.pfs_check_ends.proofs.collecting.collect_ends.Goals as goal

pub returns : goal.returns
returns c = λ case found blocks rows words.
    let all = entries_by c.args.cuts.now c.args.report.now in
    let alike = ap (λ z. places (all_blocks z)) blocks in
    let visited = c.in_ok-visited.ensures case found c.new-collecting.ensures in
    IfOk-weaker c.into_sights.result _ _ (λ sights are. record {
      sights_are = are;
      few = few_visited (entries_of found) all (λ earlier. AreCollected (in_order earlier) c.visit_report.new.visitor.collected) (Unit {0}) c.in_ok-visited.visited alike visited c.in_ok-check_few.ensures;
    })
    (c.into_sights.ensures (entries_of found)
    (collected_all found all c.visit_report.new.visitor.collected (Unit {0}) c.in_ok-visited.visited alike visited)
    rows words)
