use Rattle.std.proofs.Common.{sym, ◌∙◌, ap, arith}
use Rattle.pfs_model.specs.Cuts.{behind}
use Rattle.pfs_check_parts.proofs.CutSteps.{next, behind_yes, behind_no}
use Rattle.pfs_check_parts.proofs.cuts.behind.Goals as goal

pub skipping-preserved : goal.skipping-preserved
skipping-preserved c = record {
  same = ap (λ z. behind c.args.ask z) (next c.args.entries.now c.skipping.end)
      ∙ behind_yes c.args.ask _ (sym c.fits_at.ensures.value ∙ c.skipping-test.true) ∙ c.skipping.invariant.same;
  within = omega (arith, c.fits_at.ensures.within c.skipping-test.true);
  onward = omega arith;
}

pub returns-clause-place : goal.returns-clause-place
returns-clause-place c =
    sym c.skipping.invariant.same ∙ behind_no c.args.ask _ (sym c.fits_at.ensures.value ∙ c.skipping-test.false)

pub overflow_add-end : goal.overflow_add-end
overflow_add-end c = omega (arith, c.fits_at.ensures.few c.skipping-test.true)
