use Rattle.std.proofs.Common.{◌≡◌, ◌+◌, ◌*◌, refl, ap, ◌∙◌, arith}
use Rattle.pfs_gen.specs.Draws.{state_after}
use Rattle.pfs_gen.proofs.NumberLists.{units_none, units_more}
use Rattle.pfs_gen.proofs.units.put_units.Goals as goal

pub loop-place-init : goal.loop-place-init
loop-place-init c = λ number unit from.
    let e : unit ≡ unit + 0 = omega arith in
    (units_none number unit c.args.out.now.items, from ∙ ap (λ k. state_after number (4 * k)) e)

pub loop-place-preserved : goal.loop-place-preserved
loop-place-preserved c = λ number unit from.
    let place = c.loop-place.place in
    let i = c.loop-place.invariant number unit from in
    let e : unit + place + 1 ≡ unit + (place + 1) = omega arith in (
      units_more number unit place (unit + place) c.args.out.now.items c.loop-place.out.items c.put_unit.new.out.items refl i.0 (c.in-Ok.ensures.text number (unit + place) i.1),
      c.in-Ok.ensures.next number (unit + place) i.1 ∙ ap (λ k. state_after number (4 * k)) e,
    )
