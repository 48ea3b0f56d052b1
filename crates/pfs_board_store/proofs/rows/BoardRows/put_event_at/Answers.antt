use Rattle.std.proofs.Common.{List, ◌≡◌, ◌∷◌, [], ◌+◌, ◌*◌, ◌/◌, ◌∙◌, ap, arith, inl, refl, subst, sym}
use Rattle.pfs_board.specs.declared.view.Finished.{Finished}
use Rattle.pfs_board.specs.declared.view.Sight.{Sight}
use Rattle.pfs_board.specs.declared.view.Stage.TheVariants.{Holding}
use Rattle.pfs_board.specs.declared.view.View.{View}
use Rattle.pfs_board.specs.Knowledge.{corner, found_in, sight_of, sighted, version_held}
use Rattle.pfs_levels.specs.Calls.{Rings, action_in, after_in}
use Rattle.pfs_levels.specs.CallOrder.{top_in}
use Rattle.pfs_levels.specs.declared.answers.RingPut.TheVariants as ring
use Rattle.pfs_board_store.proofs.ViewCorners.{away_if, here_if, still_in}
use Rattle.pfs_board_store.specs.Ties.{WasOlder}
use Rattle.pfs_board_store.proofs.CallLooks.{looked_missed, looked_written, was_older}
use Rattle.pfs_board_store.proofs.CallTies.{glanced, ring_done, sighted_now, sight_more, taken}
use Rattle.pfs_board_store.proofs.rows.BoardRows.put_event_at.Goals as goal

pub returns-in-Busy-clause-call : goal.returns-in-Busy-clause-call
returns-in-Busy-clause-call g c = λ start calls board words tickets r h.
    let v = c.args.self.now.seat.view in
    let row = c.args.row in
    let first = c.in-Busy.first in
    let second = c.in-Busy.second in
    let a = c.in-Busy.ensures.answer in
    let b = r.board in
    let rows = c.args.self.now.rows in
    let place = c.requires.place in
    let more = Rings row c.args.content.now (ring.Busy first second) ∷ calls in (
      board,
      words,
      tickets,
      record {
        board = glanced start.board calls more v _ row second v.reads (sight_of v row first second ∷ v.sights) (omega (arith, rows, place)) a.5 c.requires.away c.in-Busy.ensures.hands.2 b b.tied
            (((omega (arith, place), omega (arith, place)), (a.0, a.7, a.3, a.2, a.8), inl (sighted_now start.board calls v row first second b)), sight_more start.board calls v (sight_of v row first second) b) (λ q. refl) (λ q. refl)
            (λ q n. away_if row q (second / 4) (top_in calls q) n) (omega (arith, here_if row (second / 4) (top_in calls row))) refl refl refl refl;
        words = r.words;
        tickets = r.tickets;
        rising = ((omega (arith, b.seen row, a.6), a.2), r.rising);
        there = (place.1, r.there);
      },
      looked_missed start.board calls row first second c.args.content.now c.args.word v c.take_at.new.seat.view place.0 c.in-Busy.ensures.from.0 (ap (λ (z : View). z.reads) a.5) (ap (λ (z : View). z.sights) a.5) b h,
    )

pub returns-in-Mine-clause-call : goal.returns-in-Mine-clause-call
returns-in-Mine-clause-call g c = λ start calls board words tickets r h.
    let v = c.args.self.now.seat.view in
    let u = c.take_at.new.seat.view in
    let row = c.args.row in
    let word = c.in-Mine.word in
    let k = word / 4 in
    let found = c.in-Mine.content in
    let a = c.in-Mine.ensures.answer in
    let rows = c.args.self.now.rows in
    let place = c.requires.place in
    let reached = taken start.board calls v u row word u.looks found (omega (arith, place)) (omega (arith, rows, place)) a.4 a.2 c.in-Mine.ensures.hands.2 c.requires.away r.board in
    let stage = (corner u row).stage in
    let next : c.put.result ≡ k + 1 = c.put.ensures.version ∙ ap (λ z. version_held z + 1) c.in-Mine.ensures.hands.0 in
    let from : c.put.result ≡ c.args.word / 4 + 1 = next ∙ ap (λ n. n / 4 + 1) c.in-Mine.ensures.from in
    let wide = still_in v u row row (sighted (Holding k found []) (4 * k + 1)) (ap (λ (z : View). z.rows) a.4) (omega (arith, rows, place)) in
    let reads = ap (λ (z : View). z.reads) a.4 in
    let sights = ap (λ (z : View). z.sights) a.4 in
    let older = subst (λ (z : List Finished). WasOlder start.board z u.sights row (c.args.word / 4) c.args.content.now (action_in calls) (after_in calls)) (sym reads)
    (subst (λ (z : List Sight). WasOlder start.board v.reads z row (c.args.word / 4) c.args.content.now (action_in calls) (after_in calls)) (sym sights) (was_older start.board calls row c.args.content.now c.args.word v.reads v.sights h)) in (
      board,
      words,
      tickets,
      record {
        board = ring_done start.board calls u c.put.new.seat.view row c.put.result (version_held stage) k c.args.content.now (found_in stage) found (omega (arith, place)) wide c.put.ensures.view c.put.ensures.version
            (λ long. (c.args.word / 4, from, older)) c.put.ensures.hands.2 reached;
        words = r.words;
        tickets = r.tickets;
        rising = (omega (arith, r.board.seen row, a.2, next), r.rising);
        there = (place.1, r.there);
      },
      looked_written start.board calls row c.put.result c.args.content.now c.args.word v c.put.new.seat.view place.0 from (ap (λ (z : View). z.reads) c.put.ensures.view ∙ reads) (ap (λ (z : View). z.sights) c.put.ensures.view ∙ sights) h,
    )
