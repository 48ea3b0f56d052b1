use Rattle.std.proofs.Common.{ap, arith}
use Rattle.pfs_model.specs.EntryPlaces.{places}
use Rattle.pfs_runs.specs.Runs.{all_blocks}
use Rattle.pfs_check_faults.specs.declared.rules.Rule.TheVariants as rules
use Rattle.pfs_check_faults.specs.ReportCases.{entries_of}
use Rattle.pfs_check_visits.specs.ReportVisits.{entries_by}
use Rattle.pfs_check_caused.proofs.CauseFacts.{noted_all}
use Rattle.pfs_check_caused.proofs.judging.collect_known.Goals as goal

pub returns : goal.returns
returns c = λ case found blocks keeps.
    let noted =
    noted_all found (entries_by c.args.cuts.now c.args.report.now) c.visit_report.new.visitor.givens (Unit {0}) c.in_ok-_visited._visited
    (ap (λ z. places (all_blocks z)) blocks) (c.in_ok-_visited.ensures case found c.new-collecting.ensures) in record {
      sights = c.in_ok-sights.ensures case found blocks (keeps rules.Chain (omega arith)) (keeps rules.Setup (omega arith)).words;
      causes = c.in_ok-causes.ensures (entries_of found) noted;
      rises = c.phases_rise.ensures (all_blocks found.blocks) (keeps rules.Shape (omega arith)).shaped;
    }
