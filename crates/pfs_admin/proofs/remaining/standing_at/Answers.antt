use Rattle.std.proofs.Common.{◌≡◌, ◌∙◌, ap, arith, length-set, get_or-set_same, get_or-set_other, below_more, false, is_some}
use Rattle.pfs_admin.specs.Truncations.{is_there}
use Rattle.pfs_admin.proofs.remaining.standing_at.Goals as goal

pub loop-place-preserved : goal.loop-place-preserved
loop-place-preserved c =
    let there = c.loop-place.there in
    let at = c.loop-place.place in
    let long = c.loop-place.invariant.0 in
    let here : c.is_some.result ≡ is_there c.args.containers.now.now.places c.args.level at =
    c.is_some.ensures ∙ ap is_some c.source_at.ensures.source in (
      length-set there at c.is_some.result ∙ long,
      below_more _ _
          (λ k low. get_or-set_other there at k c.is_some.result false (λ e. absurd (omega (arith, e))) ∙ c.loop-place.invariant.1 k low)
          (get_or-set_same there at c.is_some.result false (omega (arith, long)) ∙ here),
    )
