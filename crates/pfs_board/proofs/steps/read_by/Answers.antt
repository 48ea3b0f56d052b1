use Rattle.std.proofs.Common.{◌≡◌, ◌∙◌, ◌%◌, sym, refl, ap, subst}
use Rattle.pfs_board.specs.declared.view.View.{View}
use Rattle.pfs_board.specs.Knowledge.{looked}
use Rattle.pfs_board.specs.ReadAnswers.{IsSeenAs}
use Rattle.pfs_board.proofs.CallSteps.{row_in, corner_in, may_read, read_answer, free_answer, dirty_answer}
use Rattle.pfs_board.proofs.Looks.{look_keeps}
use Rattle.pfs_board.proofs.steps.read_by.Goals as goal

pub load-first-requires : goal.load-first-requires
load-first-requires g c = let at = c.requires.at in (at.same, at.inside, look_keeps g.V.Kept.stands_for c.args.top.now.key.items _ _ c.args.seat.now.me c.args.row (row_in _ _ _ _ c.args.row at) at.live c.requires.row)

pub returns-in-Free-clause-answer : goal.returns-in-Free-clause-answer
returns-in-Free-clause-answer g c = let x = c.load-first.ensures.2 c.args.row refl in let w_is : c.load-first.new.seat.me.0 ≡ looked c.args.seat.now.me.0 c.args.row c.load-first.result = λ i. (x.0 i).0 in
    free_answer c.args.seat.now.me.0 c.load-first.new.seat.me.0 c.args.row c.load-first.result w_is (ap (λ n. n % 4) (sym c.new.ensures) ∙ c.in-Free.ensures) x.1

pub returns-in-Dirty-clause-answer : goal.returns-in-Dirty-clause-answer
returns-in-Dirty-clause-answer g c = let x = c.load-first.ensures.2 c.args.row refl in let w_is : c.load-first.new.seat.me.0 ≡ looked c.args.seat.now.me.0 c.args.row c.load-first.result = λ i. (x.0 i).0 in
    dirty_answer c.args.seat.now.me.0 c.load-first.new.seat.me.0 c.args.row c.load-first.result w_is (ap (λ n. n % 4) (sym c.new.ensures) ∙ c.in-Dirty.ensures) c.requires.row x.1

pub read_rest-requires : goal.read_rest-requires
read_rest-requires g c = let x = c.load-first.ensures.2 c.args.row refl in let w_is : c.load-first.new.seat.me.0 ≡ looked c.args.seat.now.me.0 c.args.row c.load-first.result = λ i. (x.0 i).0 in
    let h = may_read _ _ _ _ c.args.seat.now.me.0 c.load-first.new.seat.me.0 c.args.row c.load-first.result c.requires.at c.load-first.ensures.0 w_is (ap (λ n. n % 4) (sym c.new.ensures) ∙ c.in-Allocated.ensures) in
    record { at = h.0; word = h.1; begun = h.2 }

pub returns-in-Allocated-clause-answer : goal.returns-in-Allocated-clause-answer
returns-in-Allocated-clause-answer g c = let at = c.requires.at in let x = c.load-first.ensures.2 c.args.row refl in let w_is : c.load-first.new.seat.me.0 ≡ looked c.args.seat.now.me.0 c.args.row c.load-first.result = λ i. (x.0 i).0 in
    read_answer c.args.seat.now.me.0 c.args.row c.load-first.result c.read_rest.result c.read_rest.new.seat.me.0 (corner_in _ _ _ _ c.args.row at) x.1 (ap (λ n. n % 4) (sym c.new.ensures) ∙ c.in-Allocated.ensures)
    (subst (λ (v : View). IsSeenAs v c.args.row c.read_rest.result c.read_rest.new.seat.me.0) w_is c.read_rest.ensures.answer)
