use Rattle.std.proofs.Common.{List, sym, subst}
use Rattle.std.specs.List.{All, flat_map}
use Rattle.pfs_journal.specs.declared.values.TableReport.{TableReport}
use Rattle.pfs_journal.specs.declared.line.Line.{Line}
use Rattle.pfs_journal.specs.ReportPlaces.{Counters, Results, step, StopsAfter}
use Rattle.pfs_journal.specs.ReportReadings.{IsRead, Grows}
use Rattle.pfs_journal.specs.Reports.{IsTable}
use Rattle.pfs_journal.specs.Spelling.{table_text}
use Rattle.pfs_journal.proofs.PartReadings.{read_more}
use Rattle.pfs_journal.proofs.ReaderStops.{passed, along, tables_end}
use Rattle.pfs_journal.proofs.parts.read_tables.Goals as goal

pub tables-preserved : goal.tables-preserved
tables-preserved c = (
  read_more table_text IsTable c.tables.tables.items c.take_table.new.tables.items c.args.first c.args.lines.now.rest.now c.tables.line c.tables.lines.rest.now c.in_ok-line-in-Table.line c.take_table.new.lines.rest.now c.tables.invariant.0
      (subst (λ (line : Line). Grows table_text IsTable c.tables.tables.items c.take_table.new.tables.items line c.tables.lines.rest.now c.in_ok-line-in-Table.line c.take_table.new.lines.rest.now) (sym c.in-Table.is) c.in_ok-line-in-Table.ensures.grows),
  λ at stop. c.tables.invariant.1 at (subst (λ (line : Line). StopsAfter (step Results line) c.tables.lines.rest.now c.tables.lines.taken at) (sym c.in-Table.is) (c.in_ok-line-in-Table.ensures.leads at stop)),
)

pub returns-in_err-line-in-Table-clause-stops : goal.returns-in_err-line-in-Table-clause-stops
returns-in_err-line-in-Table-clause-stops c = passed c.from_residual.result c.in_err-line-in-Table.field-0.0 _ _ c.from_residual.ensures (λ at told. c.tables.invariant.1 at (subst (λ (line : Line). StopsAfter (step Results line) c.tables.lines.rest.now c.tables.lines.taken at) (sym c.in-Table.is) told)) c.in_err-line-in-Table.ensures.stops

pub returns-in_default-clause-read : goal.returns-in_default-clause-read
returns-in_default-clause-read c = subst (λ (parts : List TableReport). IsRead (flat_map table_text parts) (All IsTable parts) c.args.first c.args.lines.now.rest.now c.tables.line c.tables.lines.rest.now) (sym c.new.ensures) c.tables.invariant.0

pub returns-in_default-clause-leads : goal.returns-in_default-clause-leads
returns-in_default-clause-leads c = λ at stop. c.tables.invariant.1 at (along (step Results c.tables.line) (step Counters c.tables.line) c.tables.lines.rest.now c.tables.lines.taken at (tables_end c.tables.line (λ x same. c.in_default.not-Table x same)) stop)
