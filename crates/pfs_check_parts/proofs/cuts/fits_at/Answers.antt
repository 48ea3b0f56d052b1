use Rattle.std.proofs.Common.{◌∙◌, arith, sym}
use Rattle.pfs_check_parts.proofs.CutSteps.{fits_there}
use Rattle.pfs_check_parts.proofs.cuts.fits_at.Goals as goal

pub returns-then-at-count-clause-value : goal.returns-then-at-count-clause-value
returns-then-at-count-clause-value c = c.fits.ensures
    ∙ sym (fits_there c.args.ask c.args.entries.now c.args.at _ c.entry.ensures (omega arith))
