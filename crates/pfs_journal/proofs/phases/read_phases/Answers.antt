use Rattle.std.proofs.Common.{List, sym, subst}
use Rattle.std.specs.List.{All, flat_map}
use Rattle.pfs_journal.specs.declared.report.PhaseParts.{PhaseParts}
use Rattle.pfs_journal.specs.declared.line.Line.{Line}
use Rattle.pfs_journal.specs.ReportPlaces.{Phases, step, StopsAfter}
use Rattle.pfs_journal.specs.ReportReadings.{IsRead, Grows}
use Rattle.pfs_journal.specs.Reports.{IsPhase}
use Rattle.pfs_journal.specs.Spelling.{phase_text}
use Rattle.pfs_journal.proofs.PartReadings.{read_more}
use Rattle.pfs_journal.proofs.ReaderStops.{passed}
use Rattle.pfs_journal.proofs.phases.read_phases.Goals as goal

pub each_phase-preserved : goal.each_phase-preserved
each_phase-preserved c = (
  read_more phase_text IsPhase c.each_phase.phases.items c.take_phase.new.phases.items c.args.first c.args.lines.now.rest.now c.each_phase.line c.each_phase.lines.rest.now c.in_ok-line-in-Phase.line c.take_phase.new.lines.rest.now c.each_phase.invariant.0
      (subst (λ (line : Line). Grows phase_text IsPhase c.each_phase.phases.items c.take_phase.new.phases.items line c.each_phase.lines.rest.now c.in_ok-line-in-Phase.line c.take_phase.new.lines.rest.now) (sym c.in-Phase.is) c.in_ok-line-in-Phase.ensures.grows),
  λ at stop. c.each_phase.invariant.1 at (subst (λ (line : Line). StopsAfter (step Phases line) c.each_phase.lines.rest.now c.each_phase.lines.taken at) (sym c.in-Phase.is) (c.in_ok-line-in-Phase.ensures.leads at stop)),
)

pub returns-in_err-line-in-Phase-clause-stops : goal.returns-in_err-line-in-Phase-clause-stops
returns-in_err-line-in-Phase-clause-stops c = passed c.from_residual.result c.in_err-line-in-Phase.field-0.0 _ _ c.from_residual.ensures (λ at told. c.each_phase.invariant.1 at (subst (λ (line : Line). StopsAfter (step Phases line) c.each_phase.lines.rest.now c.each_phase.lines.taken at) (sym c.in-Phase.is) told)) c.in_err-line-in-Phase.ensures.stops

pub returns-in_default-clause-read : goal.returns-in_default-clause-read
returns-in_default-clause-read c = subst (λ (parts : List PhaseParts). IsRead (flat_map phase_text parts) (All IsPhase parts) c.args.first c.args.lines.now.rest.now c.each_phase.line c.each_phase.lines.rest.now) (sym c.new.ensures) c.each_phase.invariant.0
