use Rattle.std.proofs.Common.{◌≡◌, ◌∷◌, [], ◌+◌, ◌*◌, ◌/◌, ◌∙◌, ap, arith, inl, refl}
use Rattle.pfs_board.specs.declared.view.Stage.TheVariants.{Holding}
use Rattle.pfs_board.specs.declared.view.View.{View}
use Rattle.pfs_board.specs.Knowledge.{corner, found_in, sight_of, sighted, version_held}
use Rattle.pfs_levels.specs.Calls.{Rings}
use Rattle.pfs_levels.specs.CallOrder.{top_in}
use Rattle.pfs_levels.specs.declared.answers.RingPut.TheVariants as ring
use Rattle.pfs_board_store.proofs.ViewCorners.{away_if, here_if, still_in}
use Rattle.pfs_board_store.proofs.CallLooks.{looked_more, looked_on}
use Rattle.pfs_board_store.proofs.CallTies.{glanced, ring_done, sighted_now, sight_more, taken}
use Rattle.pfs_board_store.proofs.rows.BoardRows.put_event.Goals as goal

pub returns-in-Busy-clause-call : goal.returns-in-Busy-clause-call
returns-in-Busy-clause-call g c = λ start calls r.
    let v = c.args.self.now.seat.view in
    let row = c.args.row in
    let first = c.in-Busy.first in
    let second = c.in-Busy.second in
    let a = c.in-Busy.ensures.answer in
    let b = r.3.board in
    let rows = c.args.self.now.rows in
    let place = c.requires.place in
    let more = Rings row c.args.content.now (ring.Busy first second) ∷ calls in (
      r.0,
      r.1,
      r.2,
      record {
        board = glanced start.board calls more v _ row second v.reads (sight_of v row first second ∷ v.sights) (omega (arith, rows, place)) a.5 c.requires.away c.in-Busy.ensures.hands.2 b b.tied
            (((omega (arith, place), omega (arith, place)), (a.0, a.7, a.3, a.2, a.8), inl (sighted_now start.board calls v row first second b)), sight_more start.board calls v (sight_of v row first second) b) (λ q. refl) (λ q. refl)
            (λ q n. away_if row q (second / 4) (top_in calls q) n) (omega (arith, here_if row (second / 4) (top_in calls row))) refl refl refl refl;
        words = r.3.words;
        tickets = r.3.tickets;
        rising = ((omega (arith, b.seen row, a.6), a.2), r.3.rising);
        there = (omega (arith, place), r.3.there);
      },
      looked_more start.board calls (Rings row c.args.content.now (ring.Busy first second)) [] (sight_of v row first second ∷ []) v c.take.new.seat.view (ap (λ (z : View). z.reads) a.5) (ap (λ (z : View). z.sights) a.5)
          (sight_of v row first second, [], refl, sighted_now start.board calls v row first second b, inl (refl, refl)) r.4,
    )

pub returns-in-Mine-clause-call : goal.returns-in-Mine-clause-call
returns-in-Mine-clause-call g c = λ start calls r.
    let v = c.args.self.now.seat.view in
    let u = c.take.new.seat.view in
    let row = c.args.row in
    let word = c.in-Mine.word in
    let k = word / 4 in
    let found = c.in-Mine.content in
    let a = c.in-Mine.ensures.answer in
    let rows = c.args.self.now.rows in
    let place = c.requires.place in
    let reached = taken start.board calls v u row word u.looks found (omega (arith, place)) (omega (arith, rows, place)) a.4 a.2 c.in-Mine.ensures.hands.2 c.requires.away r.3.board in
    let stage = (corner u row).stage in
    let next : c.put.result ≡ k + 1 = c.put.ensures.version ∙ ap (λ z. version_held z + 1) c.in-Mine.ensures.hands.0 in
    let wide = still_in v u row row (sighted (Holding k found []) (4 * k + 1)) (ap (λ (z : View). z.rows) a.4) (omega (arith, rows, place)) in (
      r.0,
      r.1,
      r.2,
      record {
        board = ring_done start.board calls u c.put.new.seat.view row c.put.result (version_held stage) k c.args.content.now (found_in stage) found (omega (arith, place)) wide c.put.ensures.view c.put.ensures.version
            (λ long. absurd (omega (arith, place, long))) c.put.ensures.hands.2 reached;
        words = r.3.words;
        tickets = r.3.tickets;
        rising = (omega (arith, r.3.board.seen row, a.2, next), r.3.rising);
        there = (omega (arith, place), r.3.there);
      },
      looked_on start.board calls (Rings row c.args.content.now (ring.Done c.put.result)) v c.put.new.seat.view (ap (λ (z : View). z.reads) c.put.ensures.view ∙ ap (λ (z : View). z.reads) a.4) (ap (λ (z : View). z.sights) c.put.ensures.view ∙ ap (λ (z : View). z.sights) a.4)
          ((λ low. (refl, refl)), λ long. absurd (omega (arith, place, long))) r.4,
    )
