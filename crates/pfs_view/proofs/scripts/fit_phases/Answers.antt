use Rattle.std.proofs.Common.{arith, refl}
use Rattle.pfs_view.specs.Scripts.{fits_phase, fits_phases}
use Rattle.pfs_view.proofs.ScriptFits.{fits_all, fits_not, fits_on}
use Rattle.pfs_view.proofs.scripts.fit_phases.Goals as goal

pub loop-place-init : goal.loop-place-init
loop-place-init c = refl

pub loop-place-preserved : goal.loop-place-preserved
loop-place-preserved c = fits_on fits_phase c.args.phases.now c.args.reports.now c.loop-place.place c.index-phases-place.result c.in_ok-fits.fits _ (omega arith) c.index-phases-place.is c.in_ok-fits.ensures c.if-not-fits.false c.loop-place.invariant

pub returns-then-not-fits : goal.returns-then-not-fits
unfolding fits_phases
returns-then-not-fits c = fits_not fits_phase c.args.phases.now c.args.reports.now c.loop-place.place c.index-phases-place.result c.in_ok-fits.fits _ (omega arith) c.index-phases-place.is c.in_ok-fits.ensures c.if-not-fits.true c.loop-place.invariant

pub returns : goal.returns
unfolding fits_phases
returns c = fits_all fits_phase c.args.phases.now c.args.reports.now c.loop-place.place _ (omega arith) c.loop-place.invariant
