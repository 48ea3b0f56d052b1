use Rattle.std.proofs.Common.{◌≡◌, ◌∙◌, ◌+◌, ◌-◌, ◌<◌, ap, refl, sym, subst, length, drop, get_or, arith}
use Rattle.std.specs.List.{remove}
use Rattle.std.proofs.lemmas.List.{drop_all}
use Rattle.pfs_matching.specs.KeyedRows.{without_named}
use Rattle.pfs_matching.proofs.NamedPlaces.{removes_more, unnamed_from-none}
use Rattle.pfs_matching.proofs.places.remove_places.Goals as goal

-- no place is taken yet
pub loop-left-init : goal.loop-left-init
loop-left-init g c = (
  sym (ap (λ ps. without_named ps c.args.rows.now.items) (drop_all (length c.args.places.now) c.args.places.now (omega arith)) ∙ unnamed_from-none c.args.rows.now.items 0),
  omega arith,
  refl,
)

pub remove-requires : goal.remove-requires
remove-requires g c =
    let next : (c.loop-left.left - 1) + 1 ≡ c.loop-left.left = omega arith in
    let now = c.loop-left.invariant.0 ∙ ap (λ n. without_named (drop n c.args.places.now) c.args.rows.now.items) (sym next) in
    let step = removes_more c.args.rows.now.items c.args.places.now (c.loop-left.left - 1) c.requires.ascending c.requires.inside (omega (arith, c.loop-left.invariant.1)) in
    let inside = subst (λ rs. get_or c.args.places.now (c.loop-left.left - 1) 0 < length rs) (sym now) step.1 in
    omega (arith, inside)

pub loop-left-preserved : goal.loop-left-preserved
loop-left-preserved g c =
    let next : (c.loop-left.left - 1) + 1 ≡ c.loop-left.left = omega arith in
    let now = c.loop-left.invariant.0 ∙ ap (λ n. without_named (drop n c.args.places.now) c.args.rows.now.items) (sym next) in
    let step = removes_more c.args.rows.now.items c.args.places.now (c.loop-left.left - 1) c.requires.ascending c.requires.inside (omega (arith, c.loop-left.invariant.1)) in (
      c.remove.ensures.items ∙ ap (λ rs. remove rs (get_or c.args.places.now (c.loop-left.left - 1) 0)) now ∙ sym step.0,
      omega (arith, c.loop-left.invariant.1),
      c.remove.ensures.capacity ∙ c.loop-left.invariant.2,
    )
