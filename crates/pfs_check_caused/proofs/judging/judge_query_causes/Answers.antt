use Rattle.std.proofs.Common.{ap, arith, subst}
use Rattle.pfs_model.specs.EntryPlaces.{places}
use Rattle.pfs_runs.specs.Runs.{all_blocks}
use Rattle.pfs_check_cut.specs.CutReports.{phases_by}
use Rattle.pfs_check_faults.specs.declared.rules.Rule.TheVariants as rules
use Rattle.pfs_check_faults.specs.EntryFaults.{QueryCauseAt}
use Rattle.pfs_check_faults.specs.ReportCases.{entries_of}
use Rattle.pfs_check_faults.specs.ShapeFaults.{IsCut}
use Rattle.pfs_check_visits.specs.ReportVisits.{entries_by}
use Rattle.pfs_check_caused.specs.CauseRules.{AreKnown}
use Rattle.pfs_check_caused.proofs.CauseFacts.{judged}
use Rattle.pfs_check_caused.proofs.judging.judge_query_causes.Goals as goal

pub returns : goal.returns
returns c = λ case found same blocks keeps.
    let cut =
    subst (λ z. IsCut case.phases z (phases_by c.args.cuts.now c.args.report.now.phases)) same
    (subst (λ z. IsCut case.phases case.report z) blocks (keeps rules.Shape (omega arith))) in
    judged case found (QueryCauseAt (entries_of found)) c.args.report.now (entries_by c.args.cuts.now c.args.report.now)
    (λ earlier. AreKnown (entries_of found) earlier c.ask_report.new.visitor.known) c.in_ok-line.line c.rule_of.result same
    (ap (λ z. places (all_blocks z)) blocks) c.rule_of.ensures
    (c.in_ok-line.ensures case.phases cut case found (c.in_ok-known.ensures case found blocks keeps))
