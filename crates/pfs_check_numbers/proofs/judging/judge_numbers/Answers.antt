use Rattle.std.proofs.Common.{ap, arith, subst}
use Rattle.pfs_model.specs.EntryPlaces.{places}
use Rattle.pfs_runs.specs.Runs.{all_blocks}
use Rattle.pfs_check_cut.specs.CutReports.{phases_by}
use Rattle.pfs_check_faults.specs.declared.rules.Rule.TheVariants as rules
use Rattle.pfs_check_faults.specs.ShapeFaults.{IsCut}
use Rattle.pfs_check_numbers.specs.OrderAnswers.{AreOrdersOf}
use Rattle.pfs_check_visits.specs.ReportVisits.{entries_by}
use Rattle.pfs_check_numbers.proofs.NumberFacts.{numbers_kept, numbers_wrong}
use Rattle.pfs_check_numbers.proofs.judging.judge_numbers.Goals as goal

pub returns-in-None : goal.returns-in-None
returns-in-None c = λ case found same blocks keeps are.
    let all = entries_by c.args.cuts.now c.args.report.now in
    let alike = ap (λ z. places (all_blocks z)) blocks in
    let cut =
    subst (λ z. IsCut case.phases z (phases_by c.args.cuts.now c.args.report.now.phases)) same
    (subst (λ z. IsCut case.phases case.report z) blocks (keeps rules.Shape (omega arith))) in
    let asked = rw c.in-None.is at (c.in_ok-line.ensures case.phases cut case found are) in
    (numbers_kept case found c.args.report.now all (λ earlier. AreOrdersOf case found c.ask_report.new.visitor.orders) alike asked, asked.1)

pub returns-in-Some : goal.returns-in-Some
returns-in-Some c = λ case found same blocks keeps are.
    let all = entries_by c.args.cuts.now c.args.report.now in
    let alike = ap (λ z. places (all_blocks z)) blocks in
    let cut =
    subst (λ z. IsCut case.phases z (phases_by c.args.cuts.now c.args.report.now.phases)) same
    (subst (λ z. IsCut case.phases case.report z) blocks (keeps rules.Shape (omega arith))) in
    numbers_wrong case found c.args.report.now all (λ earlier. AreOrdersOf case found c.ask_report.new.visitor.orders)
    c.in-Some.line same alike (rw c.in-Some.is at (c.in_ok-line.ensures case.phases cut case found are))
