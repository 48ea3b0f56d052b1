use Rattle.std.proofs.Common.{sym, subst, ◌∙◌, ap, map}
use Rattle.pfs_check_turns.specs.ReplayTurns.{AreAlong, AreInOrder, IsOrderOf, place_of}
use Rattle.pfs_check_turns.proofs.OrderedReplays.{along_turns, sorted_turns, turns_moved, turns_order}
use Rattle.pfs_check_turns.proofs.StepLists.{listed_steps, sorted_steps, steps_moved}
use Rattle.pfs_check_turns.proofs.turns.order_of.Goals as goal

pub turns_along-requires : goal.turns_along-requires
turns_along-requires c = subst AreInOrder (sym c.as_slice.ensures.value) (sorted_steps _ c.in_ok-sort.ensures.sorted)

pub returns : goal.returns
returns c =
    let steps = steps_moved c.args.changes.now c.in_ok-steps.steps.items c.sort.new.self.items c.in_ok-sort.ensures.permutation
    (listed_steps c.args.changes.now c.in_ok-steps.steps.items c.in_ok-steps.ensures) in
    let turns = along_turns c.args.changes.now c.sort.new.self.items c.in_ok-turns.turns.items steps (sorted_steps c.sort.new.self.items c.in_ok-sort.ensures.sorted)
    (subst (λ z. AreAlong z c.in_ok-turns.turns.items) c.as_slice.ensures.value c.in_ok-turns.ensures) in
    subst (IsOrderOf c.args.changes.now) (sym (c.in_ok-order.ensures ∙ ap (map place_of) c.as_slice-2.ensures.value))
    (turns_order c.args.changes.now c.sort-2.new.self.items
    (turns_moved c.args.changes.now c.in_ok-turns.turns.items c.sort-2.new.self.items c.in_ok-sort-2.ensures.permutation turns)
    (sorted_turns c.sort-2.new.self.items c.in_ok-sort-2.ensures.sorted))
