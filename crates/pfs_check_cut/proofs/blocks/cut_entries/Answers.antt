use Rattle.std.proofs.Common.{refl, drop}
use Rattle.pfs_check_cut.proofs.BlockSteps.{entries_refused}
use Rattle.pfs_check_cut.proofs.LineSteps.{misfit_line}
use Rattle.pfs_check_cut.proofs.blocks.cut_entries.Goals as goal

pub returns-in_err-ends : goal.returns-in_err-ends
returns-in_err-ends c = λ context told. entries_refused context c.args.line c.args.lines.now c.args.report.now _ c.cut_journal.new.trail c.from_residual.ensures.1

pub behind_entries-requires : goal.behind_entries-requires
behind_entries-requires c = (rw c.in-Misfit.is at (c.in_ok-ends.ensures c.args.trail.now refl)).0

pub returns-in-Parts : goal.returns-in-Parts
returns-in-Parts c = λ context told. rw c.in-Parts.is at (c.in_ok-ends.ensures context told)

pub returns-in_err-first-in-Misfit : goal.returns-in_err-first-in-Misfit
returns-in_err-first-in-Misfit c = λ context told. entries_refused context c.args.line c.args.lines.now c.args.report.now _ c.cut_journal.new.trail c.from_residual-in_err-first-in-Misfit.ensures.1

pub returns-in_err-at-in-Misfit : goal.returns-in_err-at-in-Misfit
returns-in_err-at-in-Misfit c = λ context told. entries_refused context c.args.line c.args.lines.now c.args.report.now _ c.cut_journal.new.trail c.from_residual-in_err-at-in-Misfit.ensures.1

pub returns-in_ok-at-in-Misfit : goal.returns-in_ok-at-in-Misfit
returns-in_ok-at-in-Misfit c = λ context told.
    let misfit = rw c.in-Misfit.is at (c.in_ok-ends.ensures context told) in (
      drop c.in-Misfit.place c.args.report.now.entries,
      misfit.1,
      misfit_line c.args.line _ _ c.in-Misfit.place c.args.report.now _ c.as_slice.ensures misfit.0 c.in_ok-first-in-Misfit.ensures c.in_ok-at-in-Misfit.ensures,
    )
