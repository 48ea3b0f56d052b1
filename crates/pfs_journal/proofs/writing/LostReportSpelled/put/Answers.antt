use Rattle.pfs_journal.proofs.WrittenFits.{built_fits, lost_fits}
use Rattle.pfs_journal.proofs.writing.LostReportSpelled.put.Goals as goal

pub returns-clause-fits : goal.returns-clause-fits
returns-clause-fits g c = built_fits _ _ c.lost_line-built.result c.offer.result (lost_fits c.args.self.now) c.offer.ensures.built c.lost_line-built.ensures.fits
