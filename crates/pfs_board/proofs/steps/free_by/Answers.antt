use Rattle.std.proofs.Common.{◌≡◌, ◌∙◌, ℕ, ◌+◌, ◌*◌, ◌/◌, refl, ap, arith}
use Rattle.pfs_board.specs.Knowledge.{corner, version_held, weighed, freed}
use Rattle.pfs_board.proofs.CallSteps.{row_in, at_next, free_call}
use Rattle.pfs_board.proofs.Looks.{weigh_keeps}
use Rattle.pfs_board.proofs.steps.free_by.Goals as goal

pub load-word-requires : goal.load-word-requires
load-word-requires g c = let at = c.requires.at in let row = c.requires.row in
    (at.same, at.inside, weigh_keeps g.V.Kept.stands_for c.args.top.now.key.items _ _ c.args.seat.now.me c.args.row _ _ _ (row_in _ _ _ _ c.args.row at) at.live row.1)

pub store-requires : goal.store-requires
store-requires g c = let at = c.requires.at in let row = c.requires.row in let e = c.load-word.ensures in let word = (e.2.1 c.args.row refl).0 in let k : ℕ = version_held (corner c.args.seat.now.me.0 c.args.row).stage in
    let counts : c.new.result / 4 ≡ k = ap (λ n. n / 4) (c.new.ensures ∙ word) ∙ omega arith in (
      e.0 ∙ at.same,
      at.inside,
      free_call g.V.Kept.stands_for c.args.top.now.key.items _ _ (weighed c.args.seat.now.me.0, c.args.seat.now.me.1) c.load-word.new.seat.me _ _ c.args.row c.word-free.result e.2.0 (at_next _ _ _ _ c.args.seat.now.me.0 (weighed c.args.seat.now.me.0) c.args.row at refl refl refl) row.0 row.1 (c.word-free.ensures.same ∙ (c.to_free.ensures ∙ (ap (λ n. 4 * n + 0) counts ∙ omega arith))),
    )

pub returns-clause-seat : goal.returns-clause-seat
returns-clause-seat g c = let e = c.load-word.ensures in let same = e.2.0 in let x = c.store.ensures.2 c.args.row refl in (c.store.ensures.0 ∙ e.0, (λ i. (x i).1) ∙ (λ i. (same i).1))

pub returns-clause-view : goal.returns-clause-view
returns-clause-view g c = let same = c.load-word.ensures.2.0 in let x = c.store.ensures.2 c.args.row refl in let w_is : c.store.new.seat.me.0 ≡ freed c.load-word.new.seat.me.0 c.args.row = λ i. (x i).0 in w_is ∙ (λ i. freed (same i).0 c.args.row)
