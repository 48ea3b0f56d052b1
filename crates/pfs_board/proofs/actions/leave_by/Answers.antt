use Rattle.std.proofs.Common.{◌≡◌, ◌∙◌, ◌∷◌, ◌++◌, [], ℕ, ◌+◌, ◌*◌, ◌/◌, true, List, subst, inr, refl, sym, ap, arith}
use Rattle.std.specs.Prelude.{Option, Some}
use Rattle.atomic_table.specs.Table.{rest}
use Rattle.pfs_board.specs.declared.view.View.{View}
use Rattle.pfs_board.specs.Knowledge.{corner, version_held, stored_in, weighed, halfway}
use Rattle.pfs_board.proofs.CallSteps.{row_in}
use Rattle.pfs_board.proofs.ActionEnds.{leave_keeps}
use Rattle.pfs_board.proofs.ValueLoans.{holding_is, fetch_keeps}
use Rattle.pfs_board.proofs.Looks.{weigh_keeps}
use Rattle.pfs_board.proofs.SlotFacts.{calm_stored}
use Rattle.pfs_board.proofs.actions.leave_by.Goals as goal

pub load-requires : goal.load-requires
load-requires g c = let at = c.requires.at in (at.same, at.inside, fetch_keeps g.V.Kept.stands_for c.args.top.now.key.items _ _ c.args.seat.now.me (row_in _ _ _ _ 0 at) at.live c.requires.calm.1 (inr c.requires.inside))

pub load-word-requires : goal.load-word-requires
load-word-requires g c = let at = c.requires.at in let x = c.load.ensures in let l = x.2.0 in let e = c.exchange.ensures in
    let v_is : c.exchange.new.seat.me.0 ≡ halfway c.args.seat.now.me.0 true = (λ i. (e.3 i).0) ∙ (λ i. (l i).0) in (
      e.0 ∙ (x.0 ∙ at.same),
      at.inside,
      weigh_keeps g.V.Kept.stands_for c.args.top.now.key.items _ _ c.exchange.new.seat.me 0 _ _ _ (row_in _ _ _ _ 0 at) (ap (λ (v : View). v.live) v_is ∙ at.live)
          (ap (λ (v : View). (corner v 0).stage) v_is ∙ holding_is (corner c.args.seat.now.me.0 0).stage (x.2.1 c.requires.inside).holds),
    )

pub store-requires : goal.store-requires
store-requires g c = let at = c.requires.at in let x = c.load.ensures in let l = x.2.0 in let e = c.exchange.ensures in let w = c.load-word.ensures in let slots = c.requires.slots in let ending = x.2.1 c.requires.inside in
    let v_is : c.load-word.new.seat.me.0 ≡ weighed (halfway c.args.seat.now.me.0 true) = (λ i. (w.2.0 i).0) ∙ ((λ i. weighed (e.3 i).0) ∙ (λ i. weighed (l i).0)) in
    let word : c.load-word.result ≡ 4 * version_held (corner c.args.seat.now.me.0 0).stage + 1 = (w.2.1 0 refl).0 ∙ ((λ i. 4 * version_held (corner (e.3 i).0 0).stage + 1) ∙ (λ i. 4 * version_held (corner (l i).0 0).stage + 1)) in
    let counts : c.new.result / 4 ≡ version_held (corner c.args.seat.now.me.0 0).stage = ap (λ n. n / 4) (c.new.ensures ∙ word) ∙ omega arith in let next = ending.next in let action = ap (λ (v : View). v.action) v_is in let inside = c.requires.inside in
    let word_is : c.word.result ≡ 4 * (c.new.result / 4 + 1) + 2 = c.word.ensures.same ∙ c.in-Some.ensures.some.1 in (
      w.0 ∙ (e.0 ∙ (x.0 ∙ at.same)),
      at.inside,
      leave_keeps g.V.Kept.stands_for c.args.top.now.key.items _ _ c.load-word.new.seat.me c.args.value c.word.result (row_in _ _ _ _ 0 at) (omega arith) (ap (λ (v : View). v.live) v_is ∙ at.live) (omega arith)
          (ap (λ (v : View). stored_in (corner v 0).stage) v_is ∙ calm_stored (corner c.args.seat.now.me.0 0).stage c.requires.calm.2)
          ((λ i. (w.2.0 i).1) ∙ ((λ i. (e.3 i).1) ∙ ((λ i. (0, Some c.args.value) ∷ rest (l i).1) ∙ ap (λ (z : List (ℕ × Option g.row.V.Denot)). (0, Some c.args.value) ∷ z) c.requires.calm.0)))
          (subst (λ (v : View). g.V.Kept.stands_for c.args.value (v.labels ++ v.label ∷ [])) (sym v_is) c.requires.value) (omega arith),
    )
