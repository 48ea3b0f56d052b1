use Rattle.std.proofs.Common.{List, sym, subst}
use Rattle.std.specs.List.{All, flat_map}
use Rattle.pfs_journal.specs.declared.values.LostReport.{LostReport}
use Rattle.pfs_journal.specs.declared.line.Line.{Line}
use Rattle.pfs_journal.specs.ReportPlaces.{Counters, Phases, step, StopsAfter}
use Rattle.pfs_journal.specs.ReportReadings.{IsRead, Grows}
use Rattle.pfs_journal.specs.Reports.{IsLost}
use Rattle.pfs_journal.specs.Spelling.{lost_text}
use Rattle.pfs_journal.proofs.PartReadings.{read_more}
use Rattle.pfs_journal.proofs.ReaderStops.{passed, along, lost_end}
use Rattle.pfs_journal.proofs.parts.read_lost.Goals as goal

pub counters-preserved : goal.counters-preserved
counters-preserved c = (
  read_more lost_text IsLost c.counters.counters.items c.take_lost.new.counters.items c.args.first c.args.lines.now.rest.now c.counters.line c.counters.lines.rest.now c.in_ok-line-in-Lost.line c.take_lost.new.lines.rest.now c.counters.invariant.0
      (subst (λ (line : Line). Grows lost_text IsLost c.counters.counters.items c.take_lost.new.counters.items line c.counters.lines.rest.now c.in_ok-line-in-Lost.line c.take_lost.new.lines.rest.now) (sym c.in-Lost.is) c.in_ok-line-in-Lost.ensures.grows),
  λ at stop. c.counters.invariant.1 at (subst (λ (line : Line). StopsAfter (step Counters line) c.counters.lines.rest.now c.counters.lines.taken at) (sym c.in-Lost.is) (c.in_ok-line-in-Lost.ensures.leads at stop)),
)

pub returns-in_err-line-in-Lost-clause-stops : goal.returns-in_err-line-in-Lost-clause-stops
returns-in_err-line-in-Lost-clause-stops c = passed c.from_residual.result c.in_err-line-in-Lost.field-0.0 _ _ c.from_residual.ensures (λ at told. c.counters.invariant.1 at (subst (λ (line : Line). StopsAfter (step Counters line) c.counters.lines.rest.now c.counters.lines.taken at) (sym c.in-Lost.is) told)) c.in_err-line-in-Lost.ensures.stops

pub returns-in_default-clause-read : goal.returns-in_default-clause-read
returns-in_default-clause-read c = subst (λ (parts : List LostReport). IsRead (flat_map lost_text parts) (All IsLost parts) c.args.first c.args.lines.now.rest.now c.counters.line c.counters.lines.rest.now) (sym c.new.ensures) c.counters.invariant.0

pub returns-in_default-clause-leads : goal.returns-in_default-clause-leads
returns-in_default-clause-leads c = λ at stop. c.counters.invariant.1 at (along (step Counters c.counters.line) (step Phases c.counters.line) c.counters.lines.rest.now c.counters.lines.taken at (lost_end c.counters.line (λ x same. c.in_default.not-Lost x same)) stop)
