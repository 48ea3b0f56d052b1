use Rattle.pfs_journal.proofs.PhaseReadings.{report_answered}
use Rattle.pfs_journal.proofs.phases.read_report.Goals as goal

pub returns-in-End-clause-report : goal.returns-in-End-clause-report
returns-in-End-clause-report c =
    report_answered c.end_report.result c.args.format c.in_ok-phases.phases c.args.lines.now.rest.now c.next.new.lines.rest.now c.read_phases.new.lines.rest.now c.in_ok-first.first c.in_ok-phases.line c.in_ok-first.ensures.taken c.in_ok-phases.ensures.read c.in-End.is c.end_report.ensures.report c.end_report.ensures.whole
