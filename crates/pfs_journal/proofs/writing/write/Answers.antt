use Rattle.std.proofs.Common.{◌∷◌, ◌++◌, [], subst}
use Rattle.std.specs.List.{All, flat_map}
use Rattle.pfs_journal.specs.declared.line.Line.TheVariants as says
use Rattle.pfs_journal.specs.ReportLines.{FitsReport, phase_lines}
use Rattle.std.proofs.lemmas.List.Elements.{All-cons}
use Rattle.std.proofs.lemmas.Result.{on_ok_weaker}
use Rattle.pfs_journal.specs.LineWords.{FitsLine}
use Rattle.pfs_journal.proofs.writing.write.Goals as goal

pub returns-clause-fits : goal.returns-clause-fits
returns-clause-fits g c =
    on_ok_weaker c.put_phases.result (λ rest. subst FitsReport c.parts-parts.ensures.value (All-cons FitsLine (says.Head c.parts-parts.result.now.format) (flat_map phase_lines c.parts-parts.result.now.phases ++ says.End ∷ []) c.put_first_line.ensures.fits (subst (λ phases. All FitsLine (flat_map phase_lines phases ++ says.End ∷ [])) c.as_slice.ensures rest))) c.put_phases.ensures.fits
