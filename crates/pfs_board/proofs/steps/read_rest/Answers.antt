use Rattle.std.proofs.Common.{◌≡◌, ◌≢◌, ◌∙◌, ℕ, ◌/◌, length, take, sym, refl, ap, subst, arith}
use Rattle.std.proofs.lemmas.List.{take_all, take_more_set, length-take-le}
use Rattle.pfs_board.specs.declared.answers.Seen.TheVariants.{Whole}
use Rattle.pfs_board.specs.declared.view.Stage.TheVariants.{Reading}
use Rattle.pfs_board.specs.Knowledge.{corner, turned, restaged, finished}
use Rattle.pfs_board.specs.ReadAnswers.{IsSeenAs}
use Rattle.pfs_board.proofs.CallSteps.{corner_in, word_in, reading, gather_call, gather_next, finish_call, whole_answer, busy_answer, finished_looks, two_looks}
use Rattle.pfs_board.proofs.steps.read_rest.Goals as goal

pub load-requires : goal.load-requires
load-requires g c = let at = c.requires.at in let low = c.loop-i-test.true in let v = c.loop-i.invariant in let wide = v.wide in (
  v.table ∙ at.same,
  word_in _ _ _ _ c.args.row c.loop-i.i at low,
  gather_call g.V.Kept.stands_for c.args.top.now.key.items _ _ c.args.seat.now.me c.loop-i.seat.me _ _ c.args.row c.loop-i.i (c.args.first / 4) (take c.loop-i.i c.loop-i.content) v.me at (length-take-le c.loop-i.i c.loop-i.content (omega arith)) low,
)

pub loop-i-preserved : goal.loop-i-preserved
loop-i-preserved g c = let at = c.requires.at in let low = c.loop-i-test.true in let v = c.loop-i.invariant in let wide = v.wide in record {
  table = c.load.ensures.0 ∙ v.table;
  me = gather_next g.V.Kept.stands_for c.args.top.now.key.items c.args.seat.now.me c.loop-i.seat.me c.load.new.seat.me c.args.row (c.args.first / 4) c.load.result (take c.loop-i.i c.loop-i.content) (corner_in _ _ _ _ c.args.row at) v.me (c.load.ensures.2 c.args.row c.loop-i.i refl low)
      ∙ ap (reading g.V.Kept.stands_for c.args.top.now.key.items c.args.seat.now.me c.args.row (c.args.first / 4)) (sym (take_more_set c.loop-i.content c.loop-i.i c.load.result (omega arith)));
  wide = Rattle.std.proofs.Common.length-set c.loop-i.content c.loop-i.i c.load.result ∙ v.wide;
}

pub load-second-requires : goal.load-second-requires
load-second-requires g c = let at = c.requires.at in let v = c.loop-i.invariant in let wide = v.wide in let past = c.loop-i-test.false in let end = c.loop-i.auto.i-end in (
  v.table ∙ at.same,
  at.inside,
  finish_call g.V.Kept.stands_for c.args.top.now.key.items _ _ c.args.seat.now.me c.loop-i.seat.me _ _ c.args.row (c.args.first / 4) (take c.loop-i.i c.loop-i.content) v.me at (length-take-le c.loop-i.i c.loop-i.content (omega arith) ∙ omega arith),
)

pub returns-then-second-first-clause-seat : goal.returns-then-second-first-clause-seat
returns-then-second-first-clause-seat g c = let v = c.loop-i.invariant in let e = c.load-second.ensures in let x = (e.2 c.args.row refl).0 in let me = v.me in (e.0 ∙ v.table, (λ i. (x i).1) ∙ (λ i. (me i).1))

pub returns-then-second-first-clause-answer : goal.returns-then-second-first-clause-answer
returns-then-second-first-clause-answer g c = let at = c.requires.at in let v = c.loop-i.invariant in let wide = v.wide in let past = c.loop-i-test.false in let x = (c.load-second.ensures.2 c.args.row refl).0 in let me = v.me in let word = c.requires.word in
    let all : take c.loop-i.i c.loop-i.content ≡ c.loop-i.content = take_all c.loop-i.i c.loop-i.content (omega arith) in
    let is : c.loop-i.seat.me.0 ≡ turned c.args.seat.now.me.0 c.args.row (restaged (corner c.args.seat.now.me.0 c.args.row) (Reading (c.args.first / 4) c.loop-i.content)) = (λ i. (me i).0) ∙ ap (λ xs. turned c.args.seat.now.me.0 c.args.row (restaged (corner c.args.seat.now.me.0 c.args.row) (Reading (c.args.first / 4) xs))) all in
    let w_is : c.load-second.new.seat.me.0 ≡ finished c.loop-i.seat.me.0 c.args.row c.load-second.result = λ i. (x i).0 in
    let version_is : c.version.result ≡ c.args.first / 4 = c.version.ensures ∙ ap (λ n. n / 4) c.new.ensures in
    subst (λ k. IsSeenAs c.args.seat.now.me.0 c.args.row (Whole k c.loop-i.content) c.load-second.new.seat.me.0) (sym version_is)
    (whole_answer c.args.seat.now.me.0 c.loop-i.seat.me.0 c.load-second.new.seat.me.0 c.args.row c.args.first c.load-second.result c.loop-i.content (corner_in _ _ _ _ c.args.row at) is w_is word.0 c.if-second-first.true word.1 word.3 v.wide)

pub returns-else-second-first-clause-seat : goal.returns-else-second-first-clause-seat
returns-else-second-first-clause-seat g c = let v = c.loop-i.invariant in let e = c.load-second.ensures in let x = (e.2 c.args.row refl).0 in let me = v.me in (e.0 ∙ v.table, (λ i. (x i).1) ∙ (λ i. (me i).1))

pub returns-else-second-first-clause-answer : goal.returns-else-second-first-clause-answer
returns-else-second-first-clause-answer g c = let at = c.requires.at in let v = c.loop-i.invariant in let e = c.load-second.ensures.2 c.args.row refl in let x = e.0 in let me = v.me in let word = c.requires.word in
    let is : c.loop-i.seat.me.0 ≡ turned c.args.seat.now.me.0 c.args.row (restaged (corner c.args.seat.now.me.0 c.args.row) (Reading (c.args.first / 4) (take c.loop-i.i c.loop-i.content))) = λ i. (me i).0 in
    let w_is : c.load-second.new.seat.me.0 ≡ finished c.loop-i.seat.me.0 c.args.row c.load-second.result = λ i. (x i).0 in
    busy_answer c.args.seat.now.me.0 c.loop-i.seat.me.0 c.load-second.new.seat.me.0 c.args.row c.args.first c.load-second.result (take c.loop-i.i c.loop-i.content) (corner_in _ _ _ _ c.args.row at) is w_is word.0 c.if-second-first.false word.1 word.2 word.3 e.1

pub returns-then-second-first-clause-looks : goal.returns-then-second-first-clause-looks
returns-then-second-first-clause-looks g c = let v = c.loop-i.invariant in let x = (c.load-second.ensures.2 c.args.row refl).0 in let me = v.me in
    (finished_looks c.args.seat.now.me.0 c.loop-i.seat.me.0 c.load-second.new.seat.me.0 c.args.row c.load-second.result (c.args.first / 4) (take c.loop-i.i c.loop-i.content) (corner_in _ _ _ _ c.args.row c.requires.at) (λ i. (me i).0) (λ i. (x i).0), refl)

pub returns-else-second-first-clause-looks : goal.returns-else-second-first-clause-looks
returns-else-second-first-clause-looks g c = let v = c.loop-i.invariant in let x = (c.load-second.ensures.2 c.args.row refl).0 in let me = v.me in (
  finished_looks c.args.seat.now.me.0 c.loop-i.seat.me.0 c.load-second.new.seat.me.0 c.args.row c.load-second.result (c.args.first / 4) (take c.loop-i.i c.loop-i.content) (corner_in _ _ _ _ c.args.row c.requires.at) (λ i. (me i).0) (λ i. (x i).0),
  two_looks c.args.first c.load-second.result c.if-second-first.false,
)
