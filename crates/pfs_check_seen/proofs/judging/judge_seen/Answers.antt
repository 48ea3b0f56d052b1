use Rattle.std.proofs.Common.{ap, arith, subst}
use Rattle.pfs_model.specs.EntryPlaces.{places}
use Rattle.pfs_runs.specs.Runs.{all_blocks}
use Rattle.pfs_check_cut.specs.CutReports.{phases_by}
use Rattle.pfs_check_faults.specs.declared.rules.Rule.TheVariants as rules
use Rattle.pfs_check_faults.specs.ReportCases.{entries_of}
use Rattle.pfs_check_faults.specs.ShapeFaults.{IsCut}
use Rattle.pfs_check_floors.specs.RowNames.{AreSightsOf}
use Rattle.pfs_check_visits.specs.ReportVisits.{entries_by}
use Rattle.pfs_check_seen.proofs.SeenFacts.{seen_kept, seen_wrong}
use Rattle.pfs_check_seen.proofs.judging.judge_seen.Goals as goal

pub returns-in-None : goal.returns-in-None
returns-in-None c = λ case found same blocks keeps.
    let all = entries_by c.args.cuts.now c.args.report.now in
    let alike = ap (λ z. places (all_blocks z)) blocks in
    let cut =
    subst (λ z. IsCut case.phases z (phases_by c.args.cuts.now c.args.report.now.phases)) same
    (subst (λ z. IsCut case.phases case.report z) blocks (keeps rules.Shape (omega arith))) in
    let known = c.in_ok-sights.ensures case found blocks (keeps rules.Chain (omega arith)) (keeps rules.Setup (omega arith)).words in
    seen_kept case found c.args.report.now all (λ earlier. AreSightsOf (entries_of found) earlier c.ask_report.new.visitor.sights) alike
    (rw c.in-None.is at (c.in_ok-line.ensures case.phases cut case found known))

pub returns : goal.returns
returns c = λ case found same blocks keeps.
    let all = entries_by c.args.cuts.now c.args.report.now in
    let alike = ap (λ z. places (all_blocks z)) blocks in
    let cut =
    subst (λ z. IsCut case.phases z (phases_by c.args.cuts.now c.args.report.now.phases)) same
    (subst (λ z. IsCut case.phases case.report z) blocks (keeps rules.Shape (omega arith))) in
    let known = c.in_ok-sights.ensures case found blocks (keeps rules.Chain (omega arith)) (keeps rules.Setup (omega arith)).words in
    seen_wrong case found c.args.report.now all (λ earlier. AreSightsOf (entries_of found) earlier c.ask_report.new.visitor.sights)
    c.in-Some.line same alike (rw c.in-Some.is at (c.in_ok-line.ensures case.phases cut case found known))
