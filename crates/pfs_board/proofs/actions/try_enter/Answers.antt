use Rattle.std.proofs.Common.{◌≡◌, ◌≢◌, ◌∙◌, ◌%◌, ◌*◌, ◌+◌, ◌/◌, sym, refl, ap, arith}
use Rattle.pfs_board.specs.declared.view.Stage.TheVariants.{Idle}
use Rattle.pfs_board.specs.declared.view.View.{View}
use Rattle.pfs_board.specs.Knowledge.{held, waited}
use Rattle.pfs_board.proofs.CallSteps.{row_in, corner_in, not_dirty, held_look}
use Rattle.pfs_board.proofs.ActionStarts.{wait_keeps, enter_keeps}
use Rattle.pfs_board.proofs.actions.try_enter.Goals as goal

pub load-word-requires : goal.load-word-requires
load-word-requires g c = let at = c.requires.at in let outside = c.requires.outside in (at.same, at.inside, wait_keeps g.V.Kept.stands_for c.args.top.now.key.items _ _ c.args.seat.now.me (row_in _ _ _ _ 0 at) at.live outside.0)

pub compare_exchange-found-requires : goal.compare_exchange-found-requires
compare_exchange-found-requires g c = let at = c.requires.at in let outside = c.requires.outside in let x = c.load-word.ensures in
    let w_is : c.load-word.new.seat.me.0 ≡ waited c.args.seat.now.me.0 c.load-word.result = λ i. (x.2.0 i).0 in
    let clean : c.load-word.result % 4 ≢ 1 = λ e. not_dirty c.state.result c.in_default.not-Dirty (sym c.state.ensures ∙ (ap (λ n. n % 4) c.new.ensures ∙ e)) in
    let same = held_look c.args.seat.now.me.0 0 c.load-word.result Idle (corner_in _ _ _ _ 0 at) x.2.2 refl in let held_is = ap (λ (v : View). held v.rows) w_is in let allowance_is = ap (λ (v : View). v.allowance) w_is in let room = outside.2 in (
      x.0 ∙ at.same,
      at.inside,
      enter_keeps g.V.Kept.stands_for c.args.top.now.key.items _ _ c.load-word.new.seat.me c.load-word.result c.word-dirty.result (row_in _ _ _ _ 0 at) (ap (λ (v : View). v.live) w_is ∙ at.live) (ap (λ (v : View). v.action) w_is ∙ outside.0) (ap (λ (v : View). v.lent) w_is ∙ outside.1) (omega arith) clean
          (c.word-dirty.ensures.same ∙ (c.to_dirty.ensures ∙ ap (λ n. 4 * (n / 4) + 1) c.new-2.ensures)),
    )
