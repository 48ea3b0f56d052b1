use Rattle.std.proofs.Common.{◌∙◌, ◌<◌, ap, refl, sym, subst, length, take, get_or, set}
use Rattle.std.proofs.lemmas.List.{get_or_read}
use Rattle.pfs_matching.proofs.NamedPlaces.{changed_from-none, changes_more, length-changed_from}
use Rattle.pfs_matching.proofs.keyed_rows.change_places.Goals as goal

-- no row is changed yet
pub loop-place-init : goal.loop-place-init
loop-place-init g c = (sym (changed_from-none (g.R.KeyedRow.changed c.args.change.now) c.args.rows.now.items 0), refl)

-- the row at this place is as it was, and is changed
pub loop-place-preserved : goal.loop-place-preserved
loop-place-preserved g c =
    let before = c.loop-place.invariant.0 in
    let inside : get_or c.args.places.now c.loop-place.place-index 0 < length c.loop-place.rows.items =
    subst (λ n. get_or c.args.places.now c.loop-place.place-index 0 < n) (sym (ap length before ∙ length-changed_from (g.R.KeyedRow.changed c.args.change.now) c.args.rows.now.items 0 (take c.loop-place.place-index c.args.places.now))) (c.requires.inside c.loop-place.place-index 0 c.loop-place-test.true) in
    let read = get_or_read c.loop-place.rows.items (get_or c.args.places.now c.loop-place.place-index 0) c.index_mut.result.now inside c.index_mut.ensures.value c.change.new.self in
    let is = c.change.ensures ∙ ap (g.R.KeyedRow.changed c.args.change.now) read ∙ ap (λ rs. g.R.KeyedRow.changed c.args.change.now (get_or rs (get_or c.args.places.now c.loop-place.place-index 0) c.change.new.self)) before in
    let step = changes_more (g.R.KeyedRow.changed c.args.change.now) c.args.rows.now.items c.args.places.now c.loop-place.place-index c.change.new.self c.requires.ascending c.requires.inside c.loop-place-test.true is in
    (ap (λ rs. set rs (get_or c.args.places.now c.loop-place.place-index 0) c.change.new.self) before ∙ sym step, c.loop-place.invariant.1)
