use Rattle.std.proofs.Common.{◌∷◌, subst}
use Rattle.std.proofs.lemmas.List.Elements.{All-append}
use Rattle.std.specs.List.{All, flat_map}
use Rattle.std.proofs.lemmas.Result.{on_ok_weaker}
use Rattle.pfs_journal.specs.declared.line.Line.TheVariants as says
use Rattle.pfs_journal.specs.LineWords.{FitsLine}
use Rattle.pfs_journal.specs.ReportLines.{block_lines, results_lines}
use Rattle.pfs_journal.proofs.WrittenFits.{each_fits}
use Rattle.pfs_journal.proofs.writing.put_body.Goals as goal

pub returns-clause-fits : goal.returns-clause-fits
returns-clause-fits g c =
    let phase = c.args.phase.now in
    let at_tables = subst (λ tables. All FitsLine (says.Final ∷ results_lines tables c.as_slice-3.result.now)) c.as_slice-2.ensures in
    let at_lost = subst (λ lost. All FitsLine (says.Final ∷ results_lines phase.tables lost)) c.as_slice-3.ensures in
    on_ok_weaker c.put_final.result (λ rest. All-append FitsLine (flat_map block_lines phase.blocks) (says.Final ∷ results_lines phase.tables phase.lost) (each_fits block_lines phase.blocks (subst (All (λ block. All FitsLine (block_lines block))) c.as_slice.ensures c.in_ok-put_each.ensures.fits)) (at_lost (at_tables rest))) c.put_final.ensures.fits
