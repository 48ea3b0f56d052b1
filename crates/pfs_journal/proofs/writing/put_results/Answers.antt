use Rattle.std.proofs.lemmas.List.Elements.{All-append, All-map}
use Rattle.std.specs.List.{flat_map}
use Rattle.std.specs.Prelude.{map}
use Rattle.std.proofs.lemmas.Result.{on_ok_weaker}
use Rattle.pfs_journal.specs.declared.line.Line.TheVariants as says
use Rattle.pfs_journal.specs.LineWords.{FitsLine}
use Rattle.pfs_journal.specs.ReportLines.{table_lines}
use Rattle.pfs_journal.proofs.WrittenFits.{each_fits}
use Rattle.pfs_journal.proofs.writing.put_results.Goals as goal

pub returns-clause-fits : goal.returns-clause-fits
returns-clause-fits g c =
    let tables = c.args.tables.now in
    let lost = c.args.lost.now in
    on_ok_weaker c.put_each-2.result (λ rest. All-append FitsLine (flat_map table_lines tables) (map says.Lost lost) (each_fits table_lines tables c.in_ok-put_each.ensures.fits) (All-map FitsLine says.Lost lost rest)) c.put_each-2.ensures.fits
