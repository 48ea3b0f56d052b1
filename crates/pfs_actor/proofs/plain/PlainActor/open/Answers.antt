use Rattle.std.proofs.Common.{ℕ, ◌≡◌, List, Some, ap, map, sym, ◌∙◌}
use Rattle.pfs_admin.specs.AdministrationStates.{State as Administration}
use Rattle.pfs_admin.specs.Fold.{state_from}
use Rattle.pfs_admin.specs.OpeningState.{opened, opening_flags}
use Rattle.pfs_classes.specs.declared.setting.Setting.{Setting}
use Rattle.pfs_levels.specs.PlainStore.{labels_after, word}
use Rattle.pfs_actor.proofs.plain.PlainActor.open.Goals as goal

pub returns-clause-opened : goal.returns-clause-opened
unfolding labels_after state_from
returns-clause-opened g c = λ start is.
    let flags = c.as_slice.ensures.value ∙ (c.in_ok-flags.ensures.flags ∙ ap (opening_flags c.args.setting.now) c.in_ok-objects.ensures) in
    (c.in_ok-new.ensures.opened start (is ∙ sym flags), c.in_ok-open.ensures ∙ ap (λ (z : Setting). opened z) (sym c.requires.setting))

pub invariant_of-result : goal.invariant_of-result
invariant_of-result g c =
    let flags = c.as_slice.ensures.value ∙ (c.in_ok-flags.ensures.flags ∙ ap (opening_flags c.args.setting.now) c.in_ok-objects.ensures) in
    record {
      idle = c.in_ok-new.ensures.hand;
      lent = c.in_ok-new.ensures.words ∙ (ap (λ (z : List ℕ). Some (map (word 0) z)) flags ∙ sym (ap (λ (z : Administration). Some z.words) c.in_ok-open.ensures));
    }
