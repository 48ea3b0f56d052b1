use Rattle.std.proofs.Common.{arith}
use Rattle.pfs_check_lines.proofs.ListPlaces.{same_read}
use Rattle.pfs_check_cut.proofs.PhaseSteps.{of_report, opening, phase_extra, phase_fault, phase_missing, phase_taken, phases_done, report_refused}
use Rattle.pfs_check_cut.proofs.SessionSteps.{none_told}
use Rattle.pfs_check_cut.proofs.phases.cut_report.Goals as goal

pub loop-place-init : goal.loop-place-init
loop-place-init c = opening c.args.phases.now c.as_slice-reports.result.now c.new-cuts.result.items c.new-trails.result c.new-cuts.ensures.items
    (none_told c.new-trails.result c.new-trails.ensures.empty)

pub returns-then-place-reports : goal.returns-then-place-reports
returns-then-place-reports c = of_report c.args.phases.now c.args.report.now c.as_slice-reports.result.now _ c.as_slice-reports.ensures
    (phase_missing c.args.phases.now _ _ _ c.loop-place.place c.loop-place.line c.index-phases-place.result c.loop-place.invariant
    c.loop-place-test.true c.if-place-reports.true)

pub returns-in-Err : goal.returns-in-Err
returns-in-Err c = phase_fault c.args.phases.now c.args.report.now c.as_slice-reports.result.now _ _ _ c.loop-place.place c.loop-place.line
    c.index-phases-place.result c.parts.result.now c.in-Err.fault c.as_slice-reports.ensures c.loop-place.invariant c.loop-place-test.true
    c.if-place-reports.false c.index-phases-place.is
    (same_read c.as_slice-reports.result.now c.loop-place.place c.index-reports-place.result c.parts.result.now c.parts.ensures.value c.index-reports-place.is)
    (c.in-Err.ensures _ c.loop-place.invariant.trails_are)

pub returns-in_err-push-in-Ok : goal.returns-in_err-push-in-Ok
returns-in_err-push-in-Ok c = report_refused c.args.phases.now c.args.report.now _ c.from_residual.ensures.1

pub loop-place-preserved : goal.loop-place-preserved
loop-place-preserved c =
    let phase = c.in-Ok.ensures _ c.loop-place.invariant.trails_are in
    rw c.in_ok-push-in-Ok.ensures.items (phase_taken c.args.phases.now c.as_slice-reports.result.now _ c.in-Ok.cut _ _ c.loop-place.place
    c.loop-place.line c.in-Ok.end c.index-phases-place.result c.parts.result.now c.loop-place.invariant c.loop-place-test.true
    c.if-place-reports.false c.index-phases-place.is
    (same_read c.as_slice-reports.result.now c.loop-place.place c.index-reports-place.result c.parts.result.now c.parts.ensures.value c.index-reports-place.is)
    phase.0 phase.1 phase.2)

pub returns-then-phases-reports : goal.returns-then-phases-reports
returns-then-phases-reports c = of_report c.args.phases.now c.args.report.now c.as_slice-reports.result.now _ c.as_slice-reports.ensures
    (phase_extra c.args.phases.now _ _ _ c.loop-place.place c.loop-place.line c.loop-place.invariant c.loop-place-test.false (omega arith))

pub returns : goal.returns
returns c = phases_done c.args.phases.now c.args.report.now c.as_slice-reports.result.now _ _ c.loop-place.place c.loop-place.line
    c.as_slice-reports.ensures c.loop-place.invariant c.loop-place-test.false (omega arith)
