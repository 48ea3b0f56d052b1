use Rattle.std.proofs.Common.{ne_eqb, eq-eqb}
use Rattle.pfs_check_cut.proofs.PhaseSteps.{blocks_fault, phase_done, phase_refused, wrong_number}
use Rattle.pfs_check_cut.proofs.phases.cut_phase.Goals as goal

pub returns-then-report-number : goal.returns-then-report-number
returns-then-report-number c = λ earlier are more reports.
    wrong_number earlier c.args.number c.args.line c.args.phase.now c.args.report.now more reports (ne_eqb _ _ c.if-report-number.true)

pub returns-in_err-first : goal.returns-in_err-first
returns-in_err-first c = λ earlier are. phase_refused earlier c.args.number c.args.line c.args.phase.now c.args.report.now _ c.args.trails.now c.from_residual.ensures.1

pub returns-in-Err : goal.returns-in-Err
returns-in-Err c = λ earlier are.
    blocks_fault earlier c.args.number c.args.line c.in_ok-first.first c.args.phase.now c.args.report.now c.as_slice-saids.result.now
    c.as_slice-reports.result.now c.cut_blocks.new.trails c.cut_blocks.new.trails c.in-Err.fault (eq-eqb _ _ c.if-report-number.false) c.as_slice-saids.ensures
    c.as_slice-reports.ensures c.in_ok-first.ensures (c.in-Err.ensures earlier are)

pub returns-in_err-end-in-Ok : goal.returns-in_err-end-in-Ok
returns-in_err-end-in-Ok c = λ earlier are. phase_refused earlier c.args.number c.args.line c.args.phase.now c.args.report.now _ c.cut_blocks.new.trails c.from_residual-in_err-end-in-Ok.ensures.1

pub returns-in_ok-end-in-Ok : goal.returns-in_ok-end-in-Ok
returns-in_ok-end-in-Ok c = λ earlier are.
    phase_done earlier c.args.number c.args.line c.in_ok-first.first c.in-Ok.last c.in_ok-end-in-Ok.end c.args.phase.now c.args.report.now
    c.as_slice-saids.result.now c.as_slice-reports.result.now c.in-Ok.cuts c.cut_blocks.new.trails (eq-eqb _ _ c.if-report-number.false)
    c.as_slice-saids.ensures c.as_slice-reports.ensures c.in_ok-first.ensures (c.in-Ok.ensures earlier are) c.in_ok-end-in-Ok.ensures
