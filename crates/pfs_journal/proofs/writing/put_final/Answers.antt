use Rattle.std.proofs.lemmas.List.Elements.{All-cons, All-nil}
use Rattle.std.proofs.lemmas.Result.{on_ok_weaker}
use Rattle.pfs_journal.specs.declared.line.Line.TheVariants as says
use Rattle.pfs_journal.specs.LineWords.{FitsField, FitsLine}
use Rattle.pfs_journal.proofs.writing.put_final.Goals as goal

pub returns-clause-fits : goal.returns-clause-fits
returns-clause-fits g c = on_ok_weaker c.put_results.result (λ rest. All-cons FitsLine says.Final _ (All-nil FitsField) rest) c.put_results.ensures.fits
