use Rattle.std.proofs.Common.{sym, ◌∙◌}
use Rattle.std.proofs.lemmas.Bool.{false≢true}
use Rattle.pfs_journal.proofs.AnswerFits.{fits_here, fits_not}
use Rattle.pfs_journal.proofs.checks.place_behind.Goals as goal

pub returns-then-has_rows : goal.returns-then-has_rows
returns-then-has_rows c = λ rest.
    let is = c.has_rows.ensures.0 c.if-has_rows.true in
    fits_here c.args.entry.now rest c.in-Some.number c.args.answers.now c.args.place (sym c.rows_asked.ensures ∙ c.in-Some.is) is.0 is.1

pub returns-else-has_rows : goal.returns-else-has_rows
returns-else-has_rows c = λ rest.
    fits_not c.args.entry.now rest c.in-Some.number c.args.answers.now c.args.place (sym c.rows_asked.ensures ∙ c.in-Some.is) (λ is. false≢true (sym c.if-has_rows.false ∙ c.has_rows.ensures.1 is))
