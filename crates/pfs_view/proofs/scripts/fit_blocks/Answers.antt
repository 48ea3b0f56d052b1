use Rattle.std.proofs.Common.{arith, refl}
use Rattle.pfs_view.specs.Scripts.{fits_block}
use Rattle.pfs_view.proofs.ScriptFits.{fits_all, fits_not, fits_on}
use Rattle.pfs_view.proofs.scripts.fit_blocks.Goals as goal

pub loop-place-init : goal.loop-place-init
loop-place-init c = refl

pub loop-place-preserved : goal.loop-place-preserved
loop-place-preserved c = fits_on fits_block c.args.blocks.now c.args.reports.now c.loop-place.place c.index-blocks-place.result c.in_ok-fits.fits _ (omega arith) c.index-blocks-place.is c.in_ok-fits.ensures c.if-not-fits.false c.loop-place.invariant

pub returns-then-not-fits : goal.returns-then-not-fits
returns-then-not-fits c = fits_not fits_block c.args.blocks.now c.args.reports.now c.loop-place.place c.index-blocks-place.result c.in_ok-fits.fits _ (omega arith) c.index-blocks-place.is c.in_ok-fits.ensures c.if-not-fits.true c.loop-place.invariant

pub returns : goal.returns
returns c = fits_all fits_block c.args.blocks.now c.args.reports.now c.loop-place.place _ (omega arith) c.loop-place.invariant
