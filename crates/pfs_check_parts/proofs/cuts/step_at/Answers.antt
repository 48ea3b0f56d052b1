use Rattle.std.proofs.Common.{sym, ◌∙◌, arith}
use Rattle.pfs_check_parts.proofs.CutSteps.{next, one_yes, maybe_yes}
use Rattle.pfs_check_parts.proofs.cuts.step_at.Goals as goal

pub returns-then-fits_at-clause-stop : goal.returns-then-fits_at-clause-stop
returns-then-fits_at-clause-stop c = rw (c.in-One.is, next c.args.entries.now c.args.at)
    (one_yes c.args.item.ask _ (sym c.fits_at.ensures.value ∙ c.if-fits_at.true))

pub returns-then-fits_at-2-clause-stop : goal.returns-then-fits_at-2-clause-stop
returns-then-fits_at-2-clause-stop c = rw (c.in-Maybe.is, next c.args.entries.now c.args.at)
    (maybe_yes c.args.item.ask _ (sym c.fits_at-in-Maybe.ensures.value ∙ c.if-fits_at-2.true))

pub overflow_add-result : goal.overflow_add-result
overflow_add-result c = omega (arith, c.fits_at.ensures.few c.if-fits_at.true)

pub overflow_add-result-then-fits_at-2 : goal.overflow_add-result-then-fits_at-2
overflow_add-result-then-fits_at-2 c = omega (arith, c.fits_at-in-Maybe.ensures.few c.if-fits_at-2.true)
