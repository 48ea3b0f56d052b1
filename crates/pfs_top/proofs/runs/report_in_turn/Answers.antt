use Rattle.pfs_law_summaries.specs.SummaryLaws.{IsPlainCountedRun}
use Rattle.pfs_top.proofs.Outcomes.{report_told}
use Rattle.pfs_top.proofs.runs.report_in_turn.Goals as goal

pub returns-in-Ok : goal.returns-in-Ok
returns-in-Ok g c =
    report_told IsPlainCountedRun c.args.script.now.setting c.args.script.now.phases c.in-Ok.report c.in-Ok.ensures _ _ _ c.write_report.result c.write_report.ensures
