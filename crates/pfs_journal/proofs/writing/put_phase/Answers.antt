use Rattle.std.proofs.lemmas.List.Elements.{All-cons}
use Rattle.std.proofs.lemmas.Result.{on_ok_weaker}
use Rattle.pfs_journal.specs.LineWords.{FitsLine}
use Rattle.pfs_journal.proofs.writing.put_phase.Goals as goal

pub returns-clause-fits : goal.returns-clause-fits
returns-clause-fits g c = on_ok_weaker c.put_body.result (λ rest. All-cons FitsLine _ _ c.put_phase_line.ensures.fits rest) c.put_body.ensures.fits
