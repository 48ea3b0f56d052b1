use Rattle.std.proofs.Common.{rules, ◌++◌, [], ◌∷◌, sym, ◌∙◌, ap}
use Rattle.pfs_setups.proofs.LoopLists.{took_one}
use Rattle.pfs_setups.proofs.names.texts_of.Goals as goal

pub loop-id-preserved : goal.loop-id-preserved
loop-id-preserved c =
    let text = c.in_ok-from_slice.field-0 in
    c.in_ok-push.ensures.items
    ∙ (ap (λ items. items ++ text ∷ []) c.loop-id.invariant ∙ sym (took_one c.args.names.now c.loop-id.id text (search rules)))
