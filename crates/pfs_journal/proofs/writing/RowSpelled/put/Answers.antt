use Rattle.pfs_journal.proofs.WrittenFits.{built_fits}
use Rattle.pfs_journal.proofs.writing.RowSpelled.put.Goals as goal

pub returns-clause-fits : goal.returns-clause-fits
returns-clause-fits g c = built_fits _ _ c.row_line-built.result c.offer.result (λ fits. fits) c.offer.ensures.built c.row_line-built.ensures.fits
