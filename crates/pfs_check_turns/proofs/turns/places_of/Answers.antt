use Rattle.std.proofs.Common.{[], ◌∷◌, ◌++◌, get_or, sym, ◌∙◌, ap, map}
use Rattle.std.proofs.lemmas.List.{map_more, take_all}
use Rattle.pfs_check_turns.specs.declared.turns.Turn.{Turn}
use Rattle.pfs_check_turns.specs.ReplayTurns.{place_of}
use Rattle.pfs_check_turns.proofs.turns.places_of.Goals as goal

no_turn : Turn
no_turn = record { action = 0; at = 0; row = 0; version = 0; place = 0 }

pub loop-turn-preserved : goal.loop-turn-preserved
unfolding no_turn
loop-turn-preserved c =
    c.in_ok-push.ensures.items
    ∙ ap (λ z. z ++ place_of (get_or c.args.turns.now c.loop-turn.turn-index no_turn) ∷ []) c.loop-turn.invariant
    ∙ sym (map_more place_of c.args.turns.now c.loop-turn.turn-index no_turn c.loop-turn-test.true)

pub returns : goal.returns
returns c = c.loop-turn.invariant ∙ ap (map place_of) (take_all c.loop-turn.turn-index c.args.turns.now c.loop-turn-test.false)
