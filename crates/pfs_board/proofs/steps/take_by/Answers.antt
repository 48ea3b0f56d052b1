use Rattle.std.proofs.Common.{◌≡◌, ◌≢◌, ◌∙◌, ◌%◌, sym, refl, ap, subst, arith}
use Rattle.pfs_board.specs.declared.view.View.{View}
use Rattle.pfs_board.specs.Knowledge.{tried}
use Rattle.pfs_board.specs.TakeAnswers.{IsTaken}
use Rattle.pfs_board.proofs.CallSteps.{row_in, corner_in, not_dirty, may_seize, take_answer, looked_twice}
use Rattle.pfs_board.proofs.Looks.{try_keeps}
use Rattle.pfs_board.proofs.steps.take_by.Goals as goal

pub load-word-requires : goal.load-word-requires
load-word-requires g c = let at = c.requires.at in let row = c.requires.row in
    (at.same, at.inside, try_keeps g.V.Kept.stands_for c.args.top.now.key.items _ _ c.args.seat.now.me c.args.row (row_in _ _ _ _ c.args.row at) at.live row.1)

pub seize-requires : goal.seize-requires
seize-requires g c = let at = c.requires.at in let row = c.requires.row in let x = c.load-word.ensures.2 c.args.row refl in
    let w_is : c.load-word.new.seat.me.0 ≡ tried c.args.seat.now.me.0 c.args.row c.load-word.result = λ i. (x.0 i).0 in
    let clean : c.load-word.result % 4 ≢ 1 = λ e. not_dirty c.state.result c.in_default.not-Dirty (sym c.state.ensures ∙ (ap (λ n. n % 4) c.new.ensures ∙ e)) in
    let h = may_seize c.args.seat.now.table_id c.load-word.new.seat.table_id c.args.top.now.table_id c.args.top.now.key.items c.args.seat.now.me.0 c.load-word.new.seat.me.0 c.args.row c.load-word.result at c.load-word.ensures.0 w_is row x.1 clean in
    record { at = h.0; row = h.1; word = h.2 }

pub returns-in_default : goal.returns-in_default
returns-in_default g c = let at = c.requires.at in let x = c.load-word.ensures.2 c.args.row refl in
    let w_is : c.load-word.new.seat.me.0 ≡ tried c.args.seat.now.me.0 c.args.row c.load-word.result = λ i. (x.0 i).0 in let more : c.load-word.new.seat.me.1 ≡ c.args.seat.now.me.1 = λ i. (x.0 i).1 in
    let clean : c.load-word.result % 4 ≢ 1 = λ e. not_dirty c.state.result c.in_default.not-Dirty (sym c.state.ensures ∙ (ap (λ n. n % 4) c.new.ensures ∙ e)) in record {
      seat = (c.seize.ensures.seat.0 ∙ c.load-word.ensures.0, c.seize.ensures.seat.1 ∙ more);
      answer = take_answer c.args.seat.now.me.0 c.args.row c.load-word.result c.seize.result c.seize.new.seat.me.0 (corner_in _ _ _ _ c.args.row at) x.1 clean
          (subst (λ (v : View). IsTaken v c.args.row c.seize.result c.seize.new.seat.me.0) w_is c.seize.ensures.answer);
      looks = let first = ap (λ (v : View). v.looks) w_is in let then = c.seize.ensures.looks in let both = looked_twice c.load-word.result c.seize.result c.seize.ensures.from in omega arith;
    }
