use Rattle.std.proofs.Common.{ℕ, suc, None, refl, ◌≡◌, ◌-◌, ◌+◌, sym, ap, subst, arith}
use Rattle.pfs_journal.specs.declared.line.Line.{Line}
use Rattle.pfs_journal.specs.ReportPlaces.{Journal, step}
use Rattle.pfs_journal.specs.ReportReadings.{Grows}
use Rattle.pfs_journal.specs.Reports.{IsRow}
use Rattle.pfs_journal.specs.Spelling.{row_text}
use Rattle.pfs_journal.proofs.PartReadings.{read_more}
use Rattle.pfs_journal.proofs.ReaderStops.{passed, bad_at, along, after_due, due_stops, pushed_length}
use Rattle.pfs_journal.proofs.parts.read_answer.Goals as goal

pub loop-place-preserved : goal.loop-place-preserved
loop-place-preserved c =
    let number = c.args.number in
    let place = c.loop-place.place in
    let grows = c.in_ok-line-in-Row.ensures.grows in
    let size : number - place ≡ suc (number - (place + 1)) = omega (arith, c.loop-place-test.true) in (
      read_more row_text IsRow c.loop-place.rows.items c.take_row.new.rows.items c.args.first c.args.lines.now.rest.now c.loop-place.line c.loop-place.lines.rest.now c.in_ok-line-in-Row.line c.take_row.new.lines.rest.now c.loop-place.invariant.0
          (subst (λ (line : Line). Grows row_text IsRow c.loop-place.rows.items c.take_row.new.rows.items line c.loop-place.lines.rest.now c.in_ok-line-in-Row.line c.take_row.new.lines.rest.now) (sym c.in-Row.is) grows),
      pushed_length c.loop-place.rows.items c.take_row.new.rows.items grows.part place grows.pushed c.loop-place.invariant.1,
      λ at stop. c.loop-place.invariant.2 at (after_due (number - place) (number - (place + 1)) c.loop-place.line c.in-Row.row c.loop-place.lines.rest.now c.loop-place.lines.taken at size c.in-Row.is (c.in_ok-line-in-Row.ensures.leads (Journal (number - (place + 1))) at stop)),
    )

pub returns-in_err-line-in-Row-clause-stops : goal.returns-in_err-line-in-Row-clause-stops
returns-in_err-line-in-Row-clause-stops c =
    let number = c.args.number in
    let place = c.loop-place.place in
    let size : number - place ≡ suc (number - (place + 1)) = omega (arith, c.loop-place-test.true) in
    passed c.from_residual.result c.in_err-line-in-Row.field-0.0 _ _ c.from_residual.ensures
    (λ at told. c.loop-place.invariant.2 at (after_due (number - place) (number - (place + 1)) c.loop-place.line c.in-Row.row c.loop-place.lines.rest.now c.loop-place.lines.taken at size c.in-Row.is (told (Journal (number - (place + 1))) (λ same. absurd (cc same))))) c.in_err-line-in-Row.ensures.stops

pub returns-in_default-clause-stops : goal.returns-in_default-clause-stops
returns-in_default-clause-stops c =
    let number = c.args.number in
    let place = c.loop-place.place in
    let size : number - place ≡ suc (number - (place + 1)) = omega (arith, c.loop-place-test.true) in
    bad_at c.last_is_wrong.result c.loop-place.lines.taken _ c.last_is_wrong.ensures
    (c.loop-place.invariant.2 c.loop-place.lines.taken (along (step (Journal (number - place)) c.loop-place.line) None c.loop-place.lines.rest.now c.loop-place.lines.taken c.loop-place.lines.taken
    (due_stops (number - place) (number - (place + 1)) c.loop-place.line size (λ x same. c.in_default.not-Row x same)) refl))

pub returns-clause-leads : goal.returns-clause-leads
returns-clause-leads c = λ at stop.
    let none : c.args.number - c.loop-place.place ≡ 0 = omega (arith, c.loop-place-test.false) in
    c.loop-place.invariant.2 at (along (step (Journal (c.args.number - c.loop-place.place)) c.loop-place.line) (step (Journal 0) c.loop-place.line) c.loop-place.lines.rest.now c.loop-place.lines.taken at (ap (λ (due : ℕ). step (Journal due) c.loop-place.line) none) stop)
