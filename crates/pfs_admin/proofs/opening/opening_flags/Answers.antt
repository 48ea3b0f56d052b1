use Rattle.std.proofs.Common.{rules, ◌++◌, [], ◌∷◌, map, sym, ◌∙◌, ap, arith}
use Rattle.std.specs.List.{range_with_len}
use Rattle.std.proofs.lemmas.List.FromFn.{map-range_with_len_more}
use Rattle.pfs_admin.specs.OpeningState.{word_flags}
use Rattle.pfs_admin.proofs.opening.opening_flags.Goals as goal

pub loop-at-preserved : goal.loop-at-preserved
loop-at-preserved c =
    let f = word_flags c.args.setting.now c.args.objects.now in
    c.in_ok-push.ensures.items
    ∙ (ap (λ items. items ++ c.word_flags.result ∷ []) c.loop-at.invariant
    ∙ (ap (λ flags. map f (range_with_len 0 c.loop-at.at) ++ flags ∷ []) (search rules)
    ∙ sym (map-range_with_len_more f 0 c.loop-at.at c.loop-at.at (omega arith))))
