use Rattle.std.proofs.Common.{◌∙◌, ap, map, Some}
use Rattle.pfs_admin.specs.OpeningState.{opening_flags}
use Rattle.pfs_levels.specs.PlainStore.{word}
use Rattle.pfs_test_store.proofs.admin.store.Goals as goal

pub returns-clause-words : goal.returns-clause-words
returns-clause-words c =
    c.in_ok-rows.ensures.words
    ∙ ap (λ fs. Some (map (word 0) fs)) (c.as_slice.ensures.value ∙ c.in_ok-flags.ensures.flags ∙ ap (λ os. opening_flags c.args.setting.now os) c.in_ok-objects.ensures)

pub returns-clause-left : goal.returns-clause-left
returns-clause-left c = c.in_ok-rows.ensures.left

pub returns-clause-draws : goal.returns-clause-draws
returns-clause-draws c = c.in_ok-rows.ensures.draws

pub returns-clause-hand : goal.returns-clause-hand
returns-clause-hand c = c.in_ok-rows.ensures.hand
