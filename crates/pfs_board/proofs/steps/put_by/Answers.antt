use Rattle.std.proofs.Common.{◌≡◌, ◌∙◌, ℕ, ◌+◌, ◌*◌, ◌/◌, length, take, get_or, sym, refl, ap, arith}
use Rattle.std.proofs.lemmas.List.{take_all, take_more, length-take-le}
use Rattle.pfs_board.specs.Knowledge.{corner, version_held, found_in, published_at}
use Rattle.pfs_board.specs.SeatDemands.{IsAt}
use Rattle.pfs_board.proofs.CallSteps.{row_in, corner_in, word_in, at_next, holding, store_call, store_next, publish_call, publish_next}
use Rattle.pfs_board.proofs.Looks.{weigh_keeps}
use Rattle.pfs_board.proofs.steps.put_by.Goals as goal

pub load-word-requires : goal.load-word-requires
load-word-requires g c = let at = c.requires.at in let row = c.requires.row in
    (at.same, at.inside, weigh_keeps g.V.Kept.stands_for c.args.top.now.key.items _ _ c.args.seat.now.me c.args.row _ _ _ (row_in _ _ _ _ c.args.row at) at.live row.1)

pub store-requires : goal.store-requires
store-requires g c = let low = c.loop-i-test.true in let v = c.loop-i.invariant in let same = c.load-word.ensures.2.0 in let wide : length c.args.content.now ≡ 16 = c.told-content in
    let at : IsAt c.load-word.new.seat.table_id c.args.top.now.table_id c.args.top.now.key.items c.load-word.new.seat.me.0 c.args.row =
    at_next _ _ _ _ _ _ c.args.row c.requires.at c.load-word.ensures.0 (λ i. length (same i).0.rows) (λ i. (same i).0.live) in (
      v.table ∙ at.same,
      word_in _ _ _ _ c.args.row c.loop-i.i at low,
      store_call g.V.Kept.stands_for c.args.top.now.key.items _ _ c.load-word.new.seat.me c.loop-i.seat.me _ _ c.args.row c.loop-i.i _ _ _ (take c.loop-i.i c.args.content.now) v.me at (length-take-le c.loop-i.i c.args.content.now (omega arith)) low,
    )

pub loop-i-preserved : goal.loop-i-preserved
loop-i-preserved g c = let low = c.loop-i-test.true in let v = c.loop-i.invariant in let same = c.load-word.ensures.2.0 in let wide : length c.args.content.now ≡ 16 = c.told-content in
    let at : IsAt c.load-word.new.seat.table_id c.args.top.now.table_id c.args.top.now.key.items c.load-word.new.seat.me.0 c.args.row =
    at_next _ _ _ _ _ _ c.args.row c.requires.at c.load-word.ensures.0 (λ i. length (same i).0.rows) (λ i. (same i).0.live) in record {
      table = c.store.ensures.0 ∙ v.table;
      me = store_next g.V.Kept.stands_for c.args.top.now.key.items c.load-word.new.seat.me c.loop-i.seat.me c.store.new.seat.me c.args.row (version_held (corner c.load-word.new.seat.me.0 c.args.row).stage) (get_or c.args.content.now c.loop-i.i 0) (found_in (corner c.load-word.new.seat.me.0 c.args.row).stage)
          (take c.loop-i.i c.args.content.now) (corner_in _ _ _ _ c.args.row at) v.me (c.store.ensures.2 c.args.row c.loop-i.i refl low)
          ∙ ap (holding g.V.Kept.stands_for c.args.top.now.key.items c.load-word.new.seat.me c.args.row (version_held (corner c.load-word.new.seat.me.0 c.args.row).stage) (found_in (corner c.load-word.new.seat.me.0 c.args.row).stage)) (sym (take_more c.args.content.now c.loop-i.i 0 (omega arith)));
    }

pub store-requires-2 : goal.store-requires-2
store-requires-2 g c = let v = c.loop-i.invariant in let same = c.load-word.ensures.2.0 in let wide : length c.args.content.now ≡ 16 = c.told-content in let past = c.loop-i-test.false in let end = c.loop-i.auto.i-end in
    let at : IsAt c.load-word.new.seat.table_id c.args.top.now.table_id c.args.top.now.key.items c.load-word.new.seat.me.0 c.args.row =
    at_next _ _ _ _ _ _ c.args.row c.requires.at c.load-word.ensures.0 (λ i. length (same i).0.rows) (λ i. (same i).0.live) in
    let weighed = (c.load-word.ensures.2.1 c.args.row refl).0 in let k : ℕ = version_held (corner c.load-word.new.seat.me.0 c.args.row).stage in
    let word : c.load-word.result ≡ 4 * k + 1 = weighed ∙ (λ i. 4 * version_held (corner (sym same i).0 c.args.row).stage + 1) in
    let counts : c.new.result / 4 ≡ k = ap (λ n. n / 4) (c.new.ensures ∙ word) ∙ omega arith in (
      v.table ∙ at.same,
      at.inside,
      publish_call g.V.Kept.stands_for c.args.top.now.key.items _ _ c.load-word.new.seat.me c.loop-i.seat.me _ _ c.args.row k c.word.result _ (take c.loop-i.i c.args.content.now) v.me at c.requires.row.0 (length-take-le c.loop-i.i c.args.content.now (omega arith) ∙ omega arith)
          (c.word.ensures.same ∙ (c.in-Some.ensures.some.1 ∙ ap (λ n. 4 * (n + 1) + 2) counts)),
    )

pub returns-clause-seat : goal.returns-clause-seat
returns-clause-seat g c = let v = c.loop-i.invariant in let me = v.me in let x = c.store-2.ensures.2 c.args.row refl in let same = c.load-word.ensures.2.0 in
    (c.store-2.ensures.0 ∙ (v.table ∙ c.load-word.ensures.0), (λ i. (x i).1) ∙ ((λ i. (me i).1) ∙ (λ i. (same i).1)))

pub returns-clause-view : goal.returns-clause-view
returns-clause-view g c = let v = c.loop-i.invariant in let same = c.load-word.ensures.2.0 in let wide : length c.args.content.now ≡ 16 = c.told-content in let past = c.loop-i-test.false in
    let at : IsAt c.load-word.new.seat.table_id c.args.top.now.table_id c.args.top.now.key.items c.load-word.new.seat.me.0 c.args.row =
    at_next _ _ _ _ _ _ c.args.row c.requires.at c.load-word.ensures.0 (λ i. length (same i).0.rows) (λ i. (same i).0.live) in
    let all : take c.loop-i.i c.args.content.now ≡ c.args.content.now = take_all c.loop-i.i c.args.content.now (omega arith) in
    let e = publish_next g.V.Kept.stands_for c.args.top.now.key.items c.load-word.new.seat.me c.loop-i.seat.me c.store-2.new.seat.me c.args.row (version_held (corner c.load-word.new.seat.me.0 c.args.row).stage) (found_in (corner c.load-word.new.seat.me.0 c.args.row).stage)
    (take c.loop-i.i c.args.content.now) (corner_in _ _ _ _ c.args.row at) v.me (c.store-2.ensures.2 c.args.row refl) in
    let w_is : c.store-2.new.seat.me.0 ≡ published_at c.load-word.new.seat.me.0 c.args.row (version_held (corner c.load-word.new.seat.me.0 c.args.row).stage) (found_in (corner c.load-word.new.seat.me.0 c.args.row).stage) (take c.loop-i.i c.args.content.now) = λ i. (e i).0 in
    w_is ∙ (λ i. published_at (same i).0 c.args.row (version_held (corner (same i).0 c.args.row).stage) (found_in (corner (same i).0 c.args.row).stage) (all i))
