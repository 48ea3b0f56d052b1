use Rattle.std.proofs.Common.{◌≡◌, ◌∷◌, [], ◌+◌, ◌-◌, ◌*◌, ◌/◌, ◌≤◌, ap, slice_index, arith, inl, inr, refl}
use Rattle.pfs_board.specs.declared.view.View.{View}
use Rattle.pfs_board.specs.Knowledge.{sight_of, read_of}
use Rattle.pfs_levels.specs.Calls.{Rings}
use Rattle.pfs_levels.specs.CallOrder.{top_in}
use Rattle.pfs_levels.specs.declared.answers.RingPut.TheVariants as ring
use Rattle.pfs_board_store.proofs.ViewCorners.{away_if, here_if, in_range}
use Rattle.pfs_board_store.proofs.CallTies.{another_seen, glanced, sighted_now, finished_now, sight_more, read_more}
use Rattle.pfs_board_store.proofs.CallLooks.{looked_more, read_now, saw_now}
use Rattle.pfs_board_store.proofs.rows.BoardRowsRows.ring_try.Goals as goal

pub overflow_mul-version : goal.overflow_mul-version
overflow_mul-version g c = let n = c.in-Whole.ensures.narrow in omega (arith, n)

pub overflow_add-version : goal.overflow_add-version
overflow_add-version g c = let n = c.in-Whole.ensures.narrow in omega (arith, n)

pub returns-in-Busy-clause-call : goal.returns-in-Busy-clause-call
returns-in-Busy-clause-call g c = λ start calls r.
    let v = c.args.self.now.seat.view in
    let row = c.args.row in
    let first = c.in-Busy.first in
    let second = c.in-Busy.second in
    let a = c.in-Busy.ensures.answer in
    let b = r.3.board in
    let rows = c.args.self.now.rows in
    let low = in_range row c.args.content.now c.requires.ring in
    let more = Rings row c.args.content.now (ring.Busy first second) ∷ calls in (
      r.0,
      r.1,
      r.2,
      record {
        board = glanced start.board calls more v _ row second v.reads (sight_of v row first second ∷ v.sights) (omega (arith, rows, low)) a.5 c.requires.away c.in-Busy.ensures.hands.2 b b.tied
            (((omega (arith, c.if-row-lt-LONG_HISTORY.false), omega (arith, low)), another_seen first second a.0 a.2 a.3, inl (sighted_now start.board calls v row first second b)), sight_more start.board calls v (sight_of v row first second) b) (λ q. refl) (λ q. refl)
            (λ q n. away_if row q (second / 4) (top_in calls q) n) (omega (arith, here_if row (second / 4) (top_in calls row))) refl refl refl refl;
        words = r.3.words;
        tickets = r.3.tickets;
        rising = ((omega (arith, b.seen row, a.1), a.2), r.3.rising);
        there = (low, r.3.there);
      },
      looked_more start.board calls (Rings row c.args.content.now (ring.Busy first second)) [] (sight_of v row first second ∷ []) v c.read.new.seat.view (ap (λ (z : View). z.reads) a.5) (ap (λ (z : View). z.sights) a.5)
          (sight_of v row first second, [], refl, sighted_now start.board calls v row first second b, inl (refl, refl)) r.4,
    )

pub returns-in-Free-clause-call : goal.returns-in-Free-clause-call
returns-in-Free-clause-call g c = λ start calls r.
    let v = c.args.self.now.seat.view in
    let row = c.args.row in
    let word = c.in-Free.word in
    let a = c.in-Free.ensures.answer in
    let b = r.3.board in
    let rows = c.args.self.now.rows in
    let low = in_range row c.args.content.now c.requires.ring in
    c.put_event_at.ensures.call start calls r.0 r.1 r.2
    (record {
      board = glanced start.board calls calls v _ row word v.reads (sight_of v row word word ∷ v.sights) (omega (arith, rows, low)) a.2 c.requires.away c.in-Free.ensures.hands.2 b b.tied
          (sight_more start.board calls v (sight_of v row word word) b) (λ q. refl) (λ q. refl) (λ q n. refl) (omega (arith, b.seen row, a.1)) refl refl refl refl;
      words = r.3.words;
      tickets = r.3.tickets;
      rising = r.3.rising;
      there = r.3.there;
    })
    (record {
      mine = [];
      rest = v.reads;
      reads_are = ap (λ (z : View). z.reads) a.2;
      seen = sight_of v row word word ∷ [];
      others = v.sights;
      sights_are = ap (λ (z : View). z.sights) a.2;
      found = inl (a.0, refl, saw_now start.board calls v row word word b);
      looked = r.4;
    })

pub returns-then-found-content-clause-call : goal.returns-then-found-content-clause-call
returns-then-found-content-clause-call g c = λ start calls r.
    let v = c.args.self.now.seat.view in
    let row = c.args.row in
    let k = c.in-Whole.version in
    let found = c.in-Whole.found in
    let a = c.in-Whole.ensures.answer in
    let b = r.3.board in
    let rows = c.args.self.now.rows in
    let low = in_range row c.args.content.now c.requires.ring in
    let more = Rings row c.args.content.now (ring.Late (slice_index found 15 - 1) k) ∷ calls in (
      r.0,
      r.1,
      r.2,
      record {
        board = glanced start.board calls more v _ row (4 * k + 2) (read_of v row k found ∷ v.reads) v.sights (omega (arith, rows, low)) a.2 c.requires.away c.in-Whole.ensures.hands.2 b b.tied
            ((omega (arith, c.if-row-lt-LONG_HISTORY.false), inl (finished_now start.board calls v row k found b, omega (arith, c.if-found-content.true))), read_more start.board calls v (read_of v row k found) b) (λ q. refl) (λ q. refl)
            (λ q n. away_if row q k (top_in calls q) n) (omega (arith, here_if row k (top_in calls row))) refl refl refl refl;
        words = r.3.words;
        tickets = r.3.tickets;
        rising = (omega (arith, b.seen row, a.0), r.3.rising);
        there = (low, r.3.there);
      },
      looked_more start.board calls (Rings row c.args.content.now (ring.Late (slice_index found 15 - 1) k)) (read_of v row k found ∷ []) [] v c.read.new.seat.view (ap (λ (z : View). z.reads) a.2) (ap (λ (z : View). z.sights) a.2)
          (read_now start.board calls v row k found (λ z. slice_index z 15 ≡ slice_index found 15 - 1 + 1) b (omega (arith, c.if-found-content.true)), refl) r.4,
    )

pub returns-else-found-content-clause-call : goal.returns-else-found-content-clause-call
returns-else-found-content-clause-call g c = λ start calls r.
    let v = c.args.self.now.seat.view in
    let row = c.args.row in
    let k = c.in-Whole.version in
    let found = c.in-Whole.found in
    let a = c.in-Whole.ensures.answer in
    let b = r.3.board in
    let rows = c.args.self.now.rows in
    let low = in_range row c.args.content.now c.requires.ring in
    c.put_event_at-else-found-content.ensures.call start calls r.0 r.1 r.2
    (record {
      board = glanced start.board calls calls v _ row (4 * k + 2) (read_of v row k found ∷ v.reads) v.sights (omega (arith, rows, low)) a.2 c.requires.away c.in-Whole.ensures.hands.2 b b.tied
          (read_more start.board calls v (read_of v row k found) b) (λ q. refl) (λ q. refl) (λ q n. refl) (omega (arith, b.seen row, a.0)) refl refl refl refl;
      words = r.3.words;
      tickets = r.3.tickets;
      rising = r.3.rising;
      there = r.3.there;
    })
    (record {
      mine = read_of v row k found ∷ [];
      rest = v.reads;
      reads_are = ap (λ (z : View). z.reads) a.2;
      seen = [];
      others = v.sights;
      sights_are = ap (λ (z : View). z.sights) a.2;
      found = inr (k, refl, read_now start.board calls v row k found (λ z. slice_index z 15 ≤ slice_index c.args.content.now 15) b (omega (arith, c.if-found-content.false)), refl);
      looked = r.4;
    })
