use Rattle.std.proofs.Common.{◌≡◌, ◌∙◌, [], ℕ, subst, ◌+◌, ◌*◌, ◌/◌, length, refl, ap, length-set}
use Rattle.pfs_board.specs.declared.view.View.{View}
use Rattle.pfs_board.specs.Knowledge.{sighted, took, missed}
use Rattle.pfs_board.specs.declared.view.Stage.TheVariants.{Holding}
use Rattle.pfs_board.specs.Plays.{IsLook}
use Rattle.pfs_board.proofs.CallSteps.{row_in, corner_in, at_next, seize_hit, seize_miss, took_held}
use Rattle.pfs_board.proofs.WordSteps.{take_keeps}
use Rattle.pfs_board.proofs.steps.seize.Goals as goal

pub compare_exchange-found-requires : goal.compare_exchange-found-requires
compare_exchange-found-requires g c = let at = c.requires.at in let row = c.requires.row in let word = c.requires.word in (
  at.same,
  at.inside,
  take_keeps g.V.Kept.stands_for c.args.top.now.key.items _ _ c.args.seat.now.me c.args.row c.args.word c.word-dirty.result (row_in _ _ _ _ c.args.row at) row.0 at.live row.1 row.2 word.2 word.3 word.1
      (c.word-dirty.ensures.same ∙ (c.to_dirty.ensures ∙ ap (λ n. 4 * (n / 4) + 1) c.new.ensures)),
)

pub recall-content-requires : goal.recall-content-requires
recall-content-requires g c = let at = c.requires.at in let e = c.compare_exchange-found.ensures in let hit = (e.2 c.args.row refl).0 c.if-found-word.true in
    let w_is : c.compare_exchange-found.new.seat.me.0 ≡ took c.args.seat.now.me.0 c.args.row c.args.word hit.0 = λ i. (hit.2 i).0 in
    let h = took_held c.args.seat.now.me.0 c.compare_exchange-found.new.seat.me.0 c.args.row c.args.word hit.0 (corner_in _ _ _ _ c.args.row at) w_is in record {
      at = at_next _ _ _ _ _ _ c.args.row at e.0 (ap (λ (x : View). length x.rows) w_is ∙ length-set c.args.seat.now.me.0.rows c.args.row (sighted (Holding (c.args.word / 4) hit.0 []) (4 * (c.args.word / 4) + 1))) (ap (λ (x : View). x.live) w_is);
      holds = h.0;
      wide = ap (length {A = ℕ}) h.1 ∙ hit.1;
    }

pub returns-then-found-word : goal.returns-then-found-word
returns-then-found-word g c = let at = c.requires.at in let word = c.requires.word in let e = c.compare_exchange-found.ensures in let x = e.2 c.args.row refl in let hit = x.0 c.if-found-word.true in
    let w_is : c.compare_exchange-found.new.seat.me.0 ≡ took c.args.seat.now.me.0 c.args.row c.args.word hit.0 = λ i. (hit.2 i).0 in let more : c.compare_exchange-found.new.seat.me.1 ≡ c.args.seat.now.me.1 = λ i. (hit.2 i).1 in
    let h = took_held c.args.seat.now.me.0 c.compare_exchange-found.new.seat.me.0 c.args.row c.args.word hit.0 (corner_in _ _ _ _ c.args.row at) w_is in let r = c.recall-content.ensures in let same = r.seat.1 in
    let final : c.recall-content.new.seat.me.0 ≡ c.compare_exchange-found.new.seat.me.0 = λ i. (same i).0 in let rest : c.recall-content.new.seat.me.1 ≡ c.compare_exchange-found.new.seat.me.1 = λ i. (same i).1 in record {
      seat = (r.seat.0 ∙ e.0, rest ∙ more);
      answer = seize_hit c.args.seat.now.me.0 c.args.row c.args.word c.recall-content.result hit.0 c.recall-content.new.seat.me.0 word.0 word.1 (subst (λ n. IsLook c.args.seat.now.me.0 n c.args.row) c.if-found-word.true x.2) hit.1 (r.content ∙ h.1) (final ∙ w_is);
      from = refl;
      looks = ap (λ (v : View). v.looks) (final ∙ w_is);
    }

pub returns-else-found-word : goal.returns-else-found-word
returns-else-found-word g c = let word = c.requires.word in let e = c.compare_exchange-found.ensures in let x = e.2 c.args.row refl in let miss = x.1 c.if-found-word.false in
    let w_is : c.compare_exchange-found.new.seat.me.0 ≡ missed c.args.seat.now.me.0 c.args.row c.args.word c.compare_exchange-found.result = λ i. (miss i).0 in let more : c.compare_exchange-found.new.seat.me.1 ≡ c.args.seat.now.me.1 = λ i. (miss i).1 in record {
      seat = (e.0, more);
      answer = seize_miss c.args.seat.now.me.0 c.args.row c.args.word c.compare_exchange-found.result c.compare_exchange-found.new.seat.me.0 word.0 word.4 x.3 word.1 word.2 word.3 x.2 c.if-found-word.false w_is;
      from = (refl, c.if-found-word.false);
      looks = ap (λ (v : View). v.looks) w_is;
    }
