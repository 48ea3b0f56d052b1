use Rattle.std.proofs.Common.{[], List, drop, subst, sym, ◌∙◌}
use Rattle.std.specs.List.{All, slice_index_or}
use Rattle.std.proofs.lemmas.Result.{on_ok_weaker}
use Rattle.pfs_text.specs.declared.values.RowValue.{RowValue}
use Rattle.pfs_journal.specs.declared.line.Line.TheVariants as says
use Rattle.pfs_journal.specs.LineWords.{FitsLine}
use Rattle.pfs_journal.specs.Spelling.{is_answered}
use Rattle.pfs_journal.proofs.WrittenFits.{answer_fits, no_answer_fits, rows_fit}
use Rattle.pfs_journal.proofs.writing.put_answer.Goals as goal

pub returns-then-is_answered-clause-fits : goal.returns-then-is_answered-clause-fits
returns-then-is_answered-clause-fits g c =
    let rows = slice_index_or (drop c.args.place c.args.answers.now) 0 [] in
    on_ok_weaker c.put_each.result
    (λ a. answer_fits (is_answered c.args.entry.now) rows (sym c.is_answered.ensures ∙ c.if-is_answered.true) (rows_fit rows (subst (λ (rs : List (List RowValue)). All (λ row. FitsLine (says.Row row)) rs) c.answer_at.ensures a)))
    c.put_each.ensures.fits

pub returns-else-is_answered-clause-fits : goal.returns-else-is_answered-clause-fits
returns-else-is_answered-clause-fits g c = no_answer_fits (is_answered c.args.entry.now) (slice_index_or (drop c.args.place c.args.answers.now) 0 []) (sym c.is_answered.ensures ∙ c.if-is_answered.false)
