use Rattle.std.proofs.Common.{◌≡◌, ◌+◌, ◌<◌, slice_index, ap, ◌∙◌, arith, refl}
use Rattle.pfs_levels.specs.Calls.{Sets, action_in}
use Rattle.pfs_switches.specs.SeatViews.{Known}
use Rattle.pfs_switches.specs.Knowledge.{loaded, met, was_set}
use Rattle.pfs_switches.specs.declared.view.View.{View}
use Rattle.pfs_board_store.proofs.ActionCalls.{inside_is}
use Rattle.pfs_board_store.proofs.CallLooks.{looked_on}
use Rattle.pfs_board_store.proofs.CallTies.{apart}
use Rattle.pfs_board_store.proofs.WordTies.{set_on, met_least}
use Rattle.pfs_board_store.proofs.rows.BoardRows.set_word.Goals as goal

pub returns-clause-call : goal.returns-clause-call
returns-clause-call g c = λ start calls r.
    let v = c.args.self.now.seat.view in
    let w = c.args.self.now.words.view in
    let pen = c.args.writer.now.view in
    let word = c.args.word in
    let flags = c.args.flags in
    let version = c.in-Ok.version in
    let b = r.3.board in
    let s = c.in-Ok.ensures in
    let first = ap (λ (k : Known). k.view) c.meet.ensures.seat in
    let same : c.meet.new.writer.view ≡ pen = ap (λ (k : Known). k.view) c.meet.ensures.writer in
    let least = met_least _ w _ pen _ first c.meet.ensures.told in
    let next : version ≡ slice_index pen.seen word + 1 = s.set.0 ∙ ap (λ (z : View). slice_index z.seen word + 1) same in
    let set : View = was_set pen word version flags in
    let was : c.set_and_load.new.writer.view ≡ set = s.set.3 ∙ ap (λ (z : View). was_set z word version flags) same in
    let met_now : met c.meet.new.seat.view c.set_and_load.new.writer.view ≡ met (met w pen) set = ap (λ (z : View). met z c.set_and_load.new.writer.view) first ∙ ap (λ (z : View). met (met w pen) z) was in
    let is : c.set_and_load.new.seat.view ≡ loaded (met (met w pen) set) word version flags =
    s.load ∙ ap (λ (z : View). loaded z word version c.in-Ok.field-0-1) met_now ∙ ap (λ n. loaded (met (met w pen) set) word version n) s.set.2 in
    let wide = c.requires.wide in
    let acting : 0 < action_in calls = omega (arith, inside_is v c.tell.ensures.poised c.requires.inside, b.action) in (
      r.0,
      r.1,
      r.2,
      record {
        board = apart start.board calls v (Sets word flags version) b (acting, b.tied) (tt, b.shown) (λ row. refl) (λ row. refl) (λ row. refl) refl refl refl refl;
        words = set_on start calls w _ pen word version flags (omega (arith, wide, c.requires.known)) next (λ q. omega (arith, r.3.words.4 q, least q)) is r.3.words;
        tickets = r.3.tickets;
        rising = (omega (arith, r.3.words.4 word, least word, next), r.3.rising);
        there = (c.requires.known, r.3.there);
      },
      looked_on start.board calls (Sets word flags version) v v refl refl (refl, refl) r.4,
    )
