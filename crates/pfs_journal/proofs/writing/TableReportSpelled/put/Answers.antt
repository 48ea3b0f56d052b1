use Rattle.std.proofs.Common.{subst}
use Rattle.std.specs.List.{All}
use Rattle.std.proofs.lemmas.List.Elements.{All-cons, All-nil}
use Rattle.std.proofs.lemmas.Result.{on_ok_weaker}
use Rattle.pfs_journal.specs.declared.line.Line.TheVariants as says
use Rattle.pfs_journal.specs.LineWords.{FitsField, FitsLine}
use Rattle.pfs_journal.specs.ReportLines.{row_lines}
use Rattle.pfs_journal.proofs.WrittenFits.{rows_fit}
use Rattle.pfs_journal.proofs.writing.TableReportSpelled.put.Goals as goal

pub returns-clause-fits : goal.returns-clause-fits
returns-clause-fits g c =
    let table = c.args.self.now in
    on_ok_weaker c.put_each.result (λ rows. All-cons FitsLine (says.Table table.name) (row_lines table.rows) (All-nil FitsField) (rows_fit table.rows (subst (All (λ row. FitsLine (says.Row row))) c.as_slice.ensures rows))) c.put_each.ensures.fits
