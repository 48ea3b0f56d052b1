use Rattle.std.proofs.Common.{ap, arith, subst, sym}
use Rattle.pfs_model.specs.EntryPlaces.{places}
use Rattle.pfs_runs.specs.Runs.{all_blocks}
use Rattle.pfs_check_cut.specs.CutReports.{phases_by}
use Rattle.pfs_check_faults.specs.declared.rules.Rule.TheVariants as rules
use Rattle.pfs_check_faults.specs.ShapeFaults.{IsCut}
use Rattle.pfs_check_visits.specs.ReportVisits.{entries_by}
use Rattle.pfs_check_verdicts.specs.VerdictRules.{KnowsSetup}
use Rattle.pfs_check_verdicts.proofs.VerdictFacts.{verdicts_kept, verdicts_wrong}
use Rattle.pfs_check_verdicts.proofs.judging.judge_verdicts.Goals as goal

pub returns-in-None : goal.returns-in-None
returns-in-None c = λ case found setting same blocks keeps.
    let all = entries_by c.args.cuts.now c.args.report.now in
    let alike = ap (λ z. places (all_blocks z)) blocks in
    let cut =
    subst (λ z. IsCut case.phases z (phases_by c.args.cuts.now c.args.report.now.phases)) same
    (subst (λ z. IsCut case.phases case.report z) blocks (keeps rules.Shape (omega arith))) in
    let asked =
    rw c.in-None.is at (c.in_ok-line.ensures case.phases cut case found (record {
      flags = c.in_ok-flags.ensures case found setting blocks;
      stack = ap (λ z. z.limits.statement_stack) (sym setting);
    })) in
    verdicts_kept case found c.args.report.now all (λ earlier. KnowsSetup case found c.ask_report.new.visitor) alike asked

pub returns : goal.returns
returns c = λ case found setting same blocks keeps.
    let all = entries_by c.args.cuts.now c.args.report.now in
    let alike = ap (λ z. places (all_blocks z)) blocks in
    let cut =
    subst (λ z. IsCut case.phases z (phases_by c.args.cuts.now c.args.report.now.phases)) same
    (subst (λ z. IsCut case.phases case.report z) blocks (keeps rules.Shape (omega arith))) in
    let asked =
    rw c.in-Some.is at (c.in_ok-line.ensures case.phases cut case found (record {
      flags = c.in_ok-flags.ensures case found setting blocks;
      stack = ap (λ z. z.limits.statement_stack) (sym setting);
    })) in
    verdicts_wrong case found c.args.report.now all (λ earlier. KnowsSetup case found c.ask_report.new.visitor) c.in-Some.line same alike asked
