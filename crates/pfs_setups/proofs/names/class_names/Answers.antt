use Rattle.std.proofs.Common.{rules, ◌++◌, [], ◌∷◌, map, sym, ◌∙◌, ap, arith}
use Rattle.std.specs.List.{range_with_len}
use Rattle.std.proofs.lemmas.List.FromFn.{map-range_with_len_more}
use Rattle.pfs_setups.specs.SetupRows.{name_of_class}
use Rattle.pfs_setups.proofs.names.class_names.Goals as goal

pub loop-id-preserved : goal.loop-id-preserved
loop-id-preserved c =
    let f = name_of_class c.args.classes.now in
    c.in_ok-push.ensures.items
    ∙ (ap (λ items. items ++ c.name_of_class.result ∷ []) c.loop-id.invariant
    ∙ (ap (λ name. map f (range_with_len 0 c.loop-id.id) ++ name ∷ []) (search rules)
    ∙ sym (map-range_with_len_more f 0 c.loop-id.id c.loop-id.id (omega arith))))
