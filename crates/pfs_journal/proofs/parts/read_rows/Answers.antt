use Rattle.std.proofs.Common.{List, None, refl, ◌≡◌, sym, ap, subst, ◌∙◌}
use Rattle.std.specs.List.{All, flat_map}
use Rattle.pfs_text.specs.declared.values.RowValue.{RowValue}
use Rattle.pfs_journal.specs.declared.line.Line.{Line}
use Rattle.pfs_journal.specs.ReportPlaces.{Place, Named, Results, Rows, step}
use Rattle.pfs_journal.specs.ReportReadings.{IsRead, Grows}
use Rattle.pfs_journal.specs.Reports.{IsRow}
use Rattle.pfs_journal.specs.Spelling.{row_text}
use Rattle.pfs_journal.proofs.PartReadings.{read_more}
use Rattle.pfs_journal.proofs.ReaderStops.{passed, along, after_row, pushed_place, rows_place, some_place, rows_end, named_ends}
use Rattle.pfs_journal.proofs.parts.read_rows.Goals as goal

pub rows-preserved : goal.rows-preserved
rows-preserved c = (
  read_more row_text IsRow c.rows.rows.items c.take_row.new.rows.items c.args.first c.args.lines.now.rest.now c.rows.line c.rows.lines.rest.now c.in_ok-line-in-Row.line c.take_row.new.lines.rest.now c.rows.invariant.0
      (subst (λ (line : Line). Grows row_text IsRow c.rows.rows.items c.take_row.new.rows.items line c.rows.lines.rest.now c.in_ok-line-in-Row.line c.take_row.new.lines.rest.now) (sym c.in-Row.is) c.in_ok-line-in-Row.ensures.grows),
  λ at stop.
      let grows = c.in_ok-line-in-Row.ensures.grows in
      let here = along (step Rows c.in_ok-line-in-Row.line) (step (rows_place c.take_row.new.rows.items) c.in_ok-line-in-Row.line) c.take_row.new.lines.rest.now c.take_row.new.lines.taken at
      (ap (λ (place : Place). step place c.in_ok-line-in-Row.line) (sym (pushed_place c.rows.rows.items c.take_row.new.rows.items grows.part grows.pushed))) stop in
      c.rows.invariant.1 at (after_row c.rows.rows.items c.rows.line c.in-Row.row c.rows.lines.rest.now c.rows.lines.taken at c.in-Row.is (c.in_ok-line-in-Row.ensures.leads Rows at here)),
)

pub returns-in_err-line-in-Row-clause-stops : goal.returns-in_err-line-in-Row-clause-stops
returns-in_err-line-in-Row-clause-stops c = passed c.from_residual.result c.in_err-line-in-Row.field-0.0 _ _ c.from_residual.ensures
    (λ at told. c.rows.invariant.1 at (after_row c.rows.rows.items c.rows.line c.in-Row.row c.rows.lines.rest.now c.rows.lines.taken at c.in-Row.is (told Rows (λ same. absurd (cc same))))) c.in_err-line-in-Row.ensures.stops

pub returns-in_default-clause-read : goal.returns-in_default-clause-read
returns-in_default-clause-read c = subst (λ (parts : List (List RowValue)). IsRead (flat_map row_text parts) (All IsRow parts) c.args.first c.args.lines.now.rest.now c.rows.line c.rows.lines.rest.now) (sym c.new.ensures) c.rows.invariant.0

pub returns-in_default-clause-leads : goal.returns-in_default-clause-leads
returns-in_default-clause-leads c = λ some at stop.
    let place : rows_place c.rows.rows.items ≡ Rows = some_place c.rows.rows.items (λ none. some (c.new.ensures ∙ none)) in
    c.rows.invariant.1 at (along (step (rows_place c.rows.rows.items) c.rows.line) (step Results c.rows.line) c.rows.lines.rest.now c.rows.lines.taken at
    (ap (λ (p : Place). step p c.rows.line) place ∙ rows_end c.rows.line (λ x same. c.in_default.not-Row x same)) stop)

pub returns-in_default-clause-none : goal.returns-in_default-clause-none
returns-in_default-clause-none c = λ none.
    let place : rows_place c.rows.rows.items ≡ Named = ap rows_place (sym c.new.ensures ∙ none) in
    c.rows.invariant.1 c.rows.lines.taken (along (step (rows_place c.rows.rows.items) c.rows.line) None c.rows.lines.rest.now c.rows.lines.taken c.rows.lines.taken
    (ap (λ (p : Place). step p c.rows.line) place ∙ named_ends c.rows.line (λ x same. c.in_default.not-Row x same)) refl)
