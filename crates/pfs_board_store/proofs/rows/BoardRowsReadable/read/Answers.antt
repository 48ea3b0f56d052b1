use Rattle.std.proofs.Common.{◌≡◌, ◌∷◌, [], ap, ◌+◌, ◌*◌, ◌/◌, arith, inl, refl}
use Rattle.pfs_board.specs.declared.view.View.{View}
use Rattle.pfs_board.specs.Knowledge.{sight_of, read_of}
use Rattle.pfs_levels.specs.Calls.{Reads}
use Rattle.pfs_levels.specs.CallOrder.{top_in}
use Rattle.pfs_rows.specs.declared.table.Seen.TheVariants as sees
use Rattle.pfs_board_store.proofs.ViewCorners.{away_if, here_if}
use Rattle.pfs_board_store.proofs.CallTies.{another_seen, glanced, sighted_now, finished_now, sight_more, read_more}
use Rattle.pfs_board_store.proofs.CallLooks.{looked_more, read_now, saw_now}
use Rattle.pfs_board_store.proofs.rows.BoardRowsReadable.read.Goals as goal

pub returns-in-Whole-clause-call : goal.returns-in-Whole-clause-call
returns-in-Whole-clause-call g c = λ start calls r.
    let v = c.args.self.now.seat.view in
    let row = c.args.row in
    let k = c.in-Whole.version in
    let content = c.in-Whole.content in
    let a = c.in-Whole.ensures.answer in
    let b = r.3.board in
    let rows = c.args.self.now.rows in
    let known = c.requires.known in
    let more = Reads row (sees.Whole k content) ∷ calls in (
      r.0,
      r.1,
      r.2,
      record {
        board = glanced start.board calls more v _ row (4 * k + 2) (read_of v row k content ∷ v.reads) v.sights (omega (arith, rows, known)) a.2 c.requires.away c.in-Whole.ensures.hands.2 b b.tied
            ((known, inl (finished_now start.board calls v row k content b, refl)), read_more start.board calls v (read_of v row k content) b) (λ q. refl) (λ q. refl)
            (λ q n. away_if row q k (top_in calls q) n) (omega (arith, here_if row k (top_in calls row))) refl refl refl refl;
        words = r.3.words;
        tickets = r.3.tickets;
        rising = (omega (arith, b.seen row, a.0), r.3.rising);
        there = (known.1, r.3.there);
      },
      looked_more start.board calls (Reads row (sees.Whole k content)) (read_of v row k content ∷ []) [] v c.read.new.seat.view (ap (λ (z : View). z.reads) a.2) (ap (λ (z : View). z.sights) a.2) (read_now start.board calls v row k content (λ z. z ≡ content) b refl, refl) r.4,
    )

pub returns-in-Free-clause-call : goal.returns-in-Free-clause-call
returns-in-Free-clause-call g c = λ start calls r.
    let v = c.args.self.now.seat.view in
    let row = c.args.row in
    let word = c.in-Free.word in
    let a = c.in-Free.ensures.answer in
    let b = r.3.board in
    let rows = c.args.self.now.rows in
    let known = c.requires.known in
    let more = Reads row (sees.Free word) ∷ calls in (
      r.0,
      r.1,
      r.2,
      record {
        board = glanced start.board calls more v _ row word v.reads (sight_of v row word word ∷ v.sights) (omega (arith, rows, known)) a.2 c.requires.away c.in-Free.ensures.hands.2 b b.tied
            ((known.0, a.0, inl (sighted_now start.board calls v row word word b)), sight_more start.board calls v (sight_of v row word word) b) (λ q. refl) (λ q. refl)
            (λ q n. away_if row q (word / 4) (top_in calls q) n) (omega (arith, here_if row (word / 4) (top_in calls row))) refl refl refl refl;
        words = r.3.words;
        tickets = r.3.tickets;
        rising = (omega (arith, b.seen row, a.1), r.3.rising);
        there = (known.1, r.3.there);
      },
      looked_more start.board calls (Reads row (sees.Free word)) [] (sight_of v row word word ∷ []) v c.read.new.seat.view (ap (λ (z : View). z.reads) a.2) (ap (λ (z : View). z.sights) a.2) (refl, saw_now start.board calls v row word word b) r.4,
    )

pub returns-in-Busy-clause-call : goal.returns-in-Busy-clause-call
returns-in-Busy-clause-call g c = λ start calls r.
    let v = c.args.self.now.seat.view in
    let row = c.args.row in
    let first = c.in-Busy.first in
    let second = c.in-Busy.second in
    let a = c.in-Busy.ensures.answer in
    let b = r.3.board in
    let rows = c.args.self.now.rows in
    let known = c.requires.known in
    let more = Reads row (sees.Busy first second) ∷ calls in (
      r.0,
      r.1,
      r.2,
      record {
        board = glanced start.board calls more v _ row second v.reads (sight_of v row first second ∷ v.sights) (omega (arith, rows, known)) a.5 c.requires.away c.in-Busy.ensures.hands.2 b b.tied
            ((known, another_seen first second a.0 a.2 a.3, inl (sighted_now start.board calls v row first second b)), sight_more start.board calls v (sight_of v row first second) b) (λ q. refl) (λ q. refl)
            (λ q n. away_if row q (second / 4) (top_in calls q) n) (omega (arith, here_if row (second / 4) (top_in calls row))) refl refl refl refl;
        words = r.3.words;
        tickets = r.3.tickets;
        rising = ((omega (arith, b.seen row, a.1), a.2), r.3.rising);
        there = (known.1, r.3.there);
      },
      looked_more start.board calls (Reads row (sees.Busy first second)) [] (sight_of v row first second ∷ []) v c.read.new.seat.view (ap (λ (z : View). z.reads) a.5) (ap (λ (z : View). z.sights) a.5) (refl, saw_now start.board calls v row first second b) r.4,
    )
