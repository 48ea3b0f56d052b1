use Rattle.std.proofs.Common.{◌+◌, [], ◌∷◌, ◌++◌, refl, sym, subst, arith}
use Rattle.std.proofs.lemmas.Option.{slice_get-get_or}
use Rattle.pfs_check_turns.proofs.StepLists.{ListedSoFar, all_listed, list_more, none_listed}
use Rattle.pfs_check_turns.proofs.turns.steps_of.Goals as goal

pub loop-place-init : goal.loop-place-init
loop-place-init c = none_listed c.args.changes.now _ 0 c.new-steps.ensures.items refl

pub loop-place-preserved : goal.loop-place-preserved
loop-place-preserved c = rw c.in_ok-push.ensures.items
    (subst (λ z. ListedSoFar c.args.changes.now (c.loop-place.steps.items ++ z ∷ []) (c.loop-place.place + 1)) (sym c.step_of.ensures)
    (list_more c.args.changes.now c.loop-place.steps.items c.loop-place.place _ (slice_get-get_or c.args.changes.now c.loop-place.place _ c.loop-place-test.true)
    c.loop-place.invariant))

pub returns : goal.returns
returns c =
    all_listed c.args.changes.now c.loop-place.steps.items c.loop-place.place (omega (arith, c.loop-place-test.false, c.loop-place.auto.place-end))
    c.loop-place.invariant
