use Rattle.std.proofs.Common.{◌∷◌, []}
use Rattle.std.proofs.lemmas.List.Elements.{All-append, All-cons, All-nil}
use Rattle.std.specs.List.{flat_map}
use Rattle.pfs_journal.specs.declared.line.Line.TheVariants as says
use Rattle.pfs_journal.specs.LineWords.{FitsField, FitsLine}
use Rattle.pfs_journal.specs.ReportLines.{phase_lines}
use Rattle.pfs_journal.proofs.WrittenFits.{each_fits, so_ok}
use Rattle.pfs_journal.proofs.writing.put_phases.Goals as goal

pub returns-clause-fits : goal.returns-clause-fits
returns-clause-fits g c =
    let phases = c.args.phases.now in
    so_ok _ c.write_all.result (All-append FitsLine (flat_map phase_lines phases) (says.End ∷ []) (each_fits phase_lines phases c.in_ok-put_each.ensures.fits) (All-cons FitsLine says.End [] (All-nil FitsField) (All-nil FitsLine)))
