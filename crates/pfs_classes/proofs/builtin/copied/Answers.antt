use Rattle.std.proofs.Common.{◌∙◌, List, ℕ, ap}
use Rattle.pfs_names.specs.InternedTexts.{interned}
use Rattle.pfs_classes.proofs.RowTexts.{interned_next}
use Rattle.pfs_classes.proofs.builtin.copied.Goals as goal

pub loop-id-preserved : goal.loop-id-preserved
loop-id-preserved c =
    c.in_ok-intern.ensures.ok
    ∙ (ap (λ (texts : List (List ℕ)). interned texts c.get.result.now) c.loop-id.invariant
    ∙ interned_next c.args.names.now c.loop-id.id c.get.result.now c.count-id-end.ensures.names c.get.ensures)
