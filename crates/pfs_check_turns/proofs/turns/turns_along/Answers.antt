use Rattle.std.proofs.Common.{◌+◌, [], ◌∷◌, ◌++◌, get_or, refl, sym, subst, arith}
use Rattle.std.proofs.lemmas.Option.{slice_get-get_or}
use Rattle.pfs_check_turns.proofs.TurnLists.{AlongSoFar, all_along, along_more, none_along}
use Rattle.pfs_check_turns.specs.declared.turns.Step.{Step}
use Rattle.pfs_check_turns.proofs.turns.turns_along.Goals as goal

no_step : Step
no_step = record { row = 0; version = 0; action = 0; place = 0 }

pub loop-step-init : goal.loop-step-init
loop-step-init c = none_along c.args.steps.now _ _ 0 c.new-turns.ensures.items refl (refl, refl)

pub loop-step-preserved : goal.loop-step-preserved
unfolding no_step
loop-step-preserved c = rw c.in_ok-push.ensures.items
    (subst (λ z. AlongSoFar c.args.steps.now (c.loop-step.turns.items ++ z ∷ []) z (c.loop-step.step-index + 1)) (sym c.next_turn-last.ensures)
    (along_more c.args.steps.now c.loop-step.turns.items c.loop-step.last c.loop-step.step-index (get_or c.args.steps.now c.loop-step.step-index no_step) c.requires
    (slice_get-get_or c.args.steps.now c.loop-step.step-index no_step c.loop-step-test.true) c.loop-step.invariant))

pub returns : goal.returns
returns c =
    all_along c.args.steps.now c.loop-step.turns.items c.loop-step.last c.loop-step.step-index
    (omega (arith, c.loop-step-test.false, c.loop-step.auto.step-index-end)) c.loop-step.invariant
