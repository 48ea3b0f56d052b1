use Rattle.std.proofs.Common.{arith, subst}
use Rattle.std.proofs.lemmas.Grind.{common_steps}
use Rattle.std.proofs.lemmas.List.Elements.{All-more}
use Rattle.pfs_text.specs.declared.values.RowValue.{RowValue}
use Rattle.pfs_journal.specs.LineWords.{FitsValue}
use Rattle.pfs_journal.proofs.lines.put_values.Goals as goal

pub loop-value-preserved : goal.loop-value-preserved
loop-value-preserved c = (
  grind (arith, common_steps),
  All-more FitsValue c.args.values.now c.loop-value.value-index c.value-item.result c.loop-value-test.true c.loop-value.invariant.1 (subst (λ (v : RowValue). FitsValue v) c.value-item.is c.in_ok-put_value.ensures.fits),
)
