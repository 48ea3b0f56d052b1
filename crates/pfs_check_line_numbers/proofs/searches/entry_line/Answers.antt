use Rattle.std.proofs.Common.{arith, refl}
use Rattle.pfs_journal.specs.ReportLines.{phase_lines}
use Rattle.pfs_check_line_numbers.proofs.EntryNumbers.{at_err, left_found, left_more, left_over, report_found, report_long, report_passed, same_read}
use Rattle.pfs_check_line_numbers.proofs.LineSteps.{part_long, reach_more}
use Rattle.pfs_check_line_numbers.proofs.searches.entry_line.Goals as goal

pub loop-phase-init : goal.loop-phase-init
loop-phase-init c = record { left = λ tail. refl; line = omega arith }

pub returns-in-On-clause-found : goal.returns-in-On-clause-found
returns-in-On-clause-found c = report_found c.args.report.now c.as_slice-phases.result.now c.args.place c.in-On.line c.as_slice-phases.ensures
    (left_found phase_lines (record { line = 2; left = c.args.place }) c.loop-phase.rest c.as_slice-phases.result.now c.loop-phase.phase-index
    c.parts-parts.result.now c.in-On.line c.loop-phase-test.true
    (same_read c.as_slice-phases.result.now c.loop-phase.phase-index c.phase-item.result c.parts-parts.result.now c.parts-parts.ensures.value c.phase-item.is)
    c.loop-phase.invariant.left (rw c.in-On.is at c.in_ok-found.ensures.found))

pub loop-phase-preserved : goal.loop-phase-preserved
loop-phase-preserved c = record {
  left = left_more phase_lines (record { line = 2; left = c.args.place }) c.loop-phase.rest c.in-Behind.next
      c.as_slice-phases.result.now c.loop-phase.phase-index c.parts-parts.result.now c.loop-phase-test.true
      (same_read c.as_slice-phases.result.now c.loop-phase.phase-index c.phase-item.result c.parts-parts.result.now c.parts-parts.ensures.value c.phase-item.is)
      c.loop-phase.invariant.left (rw c.in-Behind.is at c.in_ok-found.ensures.found);
  line = reach_more phase_lines 2 c.loop-phase.rest.line c.in-Behind.next.line c.loop-phase.phase-index c.as_slice-phases.result.now
      c.parts-parts.result.now c.loop-phase-test.true
      (same_read c.as_slice-phases.result.now c.loop-phase.phase-index c.phase-item.result c.parts-parts.result.now c.parts-parts.ensures.value c.phase-item.is)
      c.loop-phase.invariant.line (rw c.in-Behind.is at c.in_ok-found.ensures.goes);
}

pub returns-clause-found : goal.returns-clause-found
returns-clause-found c = report_passed c.args.report.now c.as_slice-phases.result.now c.args.place c.loop-phase.rest c.as_slice-phases.ensures
    (left_over phase_lines (record { line = 2; left = c.args.place }) c.loop-phase.rest c.as_slice-phases.result.now c.loop-phase.phase-index
    c.loop-phase-test.false c.loop-phase.invariant.left)

pub returns-in_err-found-clause-long : goal.returns-in_err-found-clause-long
returns-in_err-found-clause-long c = at_err c.from_residual.result (report_long c.args.report.now c.as_slice-phases.result.now c.as_slice-phases.ensures
    (part_long phase_lines 2 c.loop-phase.rest.line c.loop-phase.phase-index c.as_slice-phases.result.now c.parts-parts.result.now c.loop-phase-test.true
    (same_read c.as_slice-phases.result.now c.loop-phase.phase-index c.phase-item.result c.parts-parts.result.now c.parts-parts.ensures.value c.phase-item.is)
    c.loop-phase.invariant.line c.in_err-found.ensures.goes))
