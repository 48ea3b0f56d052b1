use Rattle.std.proofs.Common.{◌≡◌, ◌+◌, ap, ◌∙◌, arith}
use Rattle.pfs_levels.specs.Moves.{cost}
use Rattle.pfs_levels.proofs.FlushSteps.{cost_then}
use Rattle.pfs_admin.specs.WordChanges.{up_to}
use Rattle.pfs_admin.specs.Truncations.{asks_at, place_asks}
use Rattle.pfs_admin.proofs.TruncationCosts.{level_most}
use Rattle.pfs_admin.proofs.LevelMoves.{up_next, level_front, level_whole}
use Rattle.pfs_admin.proofs.charges.level_cost.Goals as goal

pub loop-place-preserved : goal.loop-place-preserved
loop-place-preserved c =
    let f = asks_at c.args.containers.now.now.places c.args.cells.now c.args.level in
    let i = c.loop-place.place in
    let here : c.place_cost-sum.result ≡ cost (f i) = c.place_cost-sum.ensures ∙ ap (λ z. cost (place_asks c.args.cells.now z)) c.source_at-source.ensures.source in
    omega (arith, here, c.loop-place.invariant, cost_then (up_to f i) (f i), ap cost (up_next f i))

pub overflow_add-sum : goal.overflow_add-sum
overflow_add-sum c =
    let f = asks_at c.args.containers.now.now.places c.args.cells.now c.args.level in
    let i = c.loop-place.place in
    let here : c.place_cost-sum.result ≡ cost (f i) = c.place_cost-sum.ensures ∙ ap (λ z. cost (place_asks c.args.cells.now z)) c.source_at-source.ensures.source in
    omega (
      arith,
      here,
      c.loop-place.invariant,
      cost_then (up_to f i) (f i),
      ap cost (up_next f i),
      level_front c.args.containers.now.now.places c.args.cells.now c.args.level (i + 1) (omega arith),
      level_most c.args.containers.now.now.places c.args.cells.now c.args.level,
      c.requires,
    )

pub returns : goal.returns
returns c = c.loop-place.invariant ∙ ap cost (level_whole c.args.containers.now.now.places c.args.cells.now c.args.level c.loop-place.place (omega arith))
