use Rattle.std.proofs.Common.{◌≡◌, ◌∷◌, [], ap, sym, ◌∙◌, ◌+◌, ◌*◌, ◌/◌, arith, inl, refl}
use Rattle.pfs_board.specs.declared.view.View.{View}
use Rattle.pfs_board.specs.declared.view.Stage.TheVariants.{Holding}
use Rattle.pfs_board.specs.Knowledge.{corner, sighted, sight_of, version_held, found_in}
use Rattle.pfs_levels.specs.Calls.{Adds}
use Rattle.pfs_levels.specs.CallOrder.{top_in}
use Rattle.pfs_levels.specs.declared.answers.Added.TheVariants.{Counted, Held}
use Rattle.pfs_stat.specs.Stat.{stat_of_words, merge_of, words_of}
use Rattle.pfs_board_store.proofs.ViewCorners.{away_if, here_if, still_in}
use Rattle.pfs_board_store.proofs.CallTies.{glanced, taken, add_done, sighted_now, sight_more}
use Rattle.pfs_board_store.proofs.CallLooks.{looked_more, looked_on, saw_now}
use Rattle.pfs_board_store.proofs.rows.BoardRowsRows.add_try.Goals as goal

pub returns-in-Busy-clause-call : goal.returns-in-Busy-clause-call
returns-in-Busy-clause-call g c = λ start calls r.
    let v = c.args.self.now.seat.view in
    let w = c.take.new.seat.view in
    let row = c.args.row in
    let first = c.in-Busy.first in
    let second = c.in-Busy.second in
    let a = c.in-Busy.ensures.answer in
    let b = r.3.board in
    let rows = c.args.self.now.rows in
    let cell = c.requires.cell in
    let more = Adds row c.args.amount.now (Held row first second) ∷ calls in (
      r.0,
      r.1,
      r.2,
      record {
        board = glanced start.board calls more v w row second v.reads (sight_of v row first second ∷ v.sights) (omega (arith, rows, cell)) a.5 c.requires.away c.in-Busy.ensures.hands.2 b b.tied
            (((omega (arith, cell), omega (arith, cell)), (a.0, a.7, a.3, a.2, a.8), inl (sighted_now start.board calls v row first second b)), sight_more start.board calls v (sight_of v row first second) b) (λ q. refl) (λ q. refl)
            (λ q n. away_if row q (second / 4) (top_in calls q) n) (omega (arith, here_if row (second / 4) (top_in calls row))) refl refl refl refl;
        words = r.3.words;
        tickets = r.3.tickets;
        rising = ((omega (arith, b.seen row, a.6), a.2), r.3.rising);
        there = (omega (arith, cell), r.3.there);
      },
      looked_more start.board calls (Adds row c.args.amount.now (Held row first second)) [] (sight_of v row first second ∷ []) v w (ap (λ (z : View). z.reads) a.5) (ap (λ (z : View). z.sights) a.5) (refl, saw_now start.board calls v row first second b) r.4,
    )

pub returns-in-Mine-clause-call : goal.returns-in-Mine-clause-call
returns-in-Mine-clause-call g c = λ start calls r.
    let v = c.args.self.now.seat.view in
    let u = c.take.new.seat.view in
    let row = c.args.row in
    let word = c.in-Mine.word in
    let k = word / 4 in
    let content = c.in-Mine.content in
    let a = c.in-Mine.ensures.answer in
    let hand = c.in-Mine.ensures.hands.0 in
    let rows = c.args.self.now.rows in
    let cell = c.requires.cell in
    let reached = taken start.board calls v u row word u.looks content (omega (arith, cell)) (omega (arith, rows, cell)) a.4 a.2 c.in-Mine.ensures.hands.2 c.requires.away r.3.board in
    let stage = (corner u row).stage in
    let found : found_in stage ≡ content = ap found_in hand in
    let next : c.put-version.result ≡ k + 1 = c.put-version.ensures.version ∙ ap (λ z. version_held z + 1) hand in
    let wide = still_in v u row row (sighted (Holding k content []) (4 * k + 1)) (ap (λ (z : View). z.rows) a.4) (omega (arith, rows, cell)) in (
      r.0,
      r.1,
      r.2,
      record {
        board = add_done start.board calls u c.put-version.new.seat.view row c.put-version.result (version_held stage) k c.args.amount.now (found_in stage) content c.to_words.result (omega (arith, cell)) wide c.put-version.ensures.view c.put-version.ensures.version
            (c.to_words.ensures ∙ ap words_of (c.merge-sum.ensures ∙ ap (λ z. merge_of z c.args.amount.now) (c.of_words.ensures ∙ ap stat_of_words (sym found)))) c.put-version.ensures.hands.2 reached;
        words = r.3.words;
        tickets = r.3.tickets;
        rising = (omega (arith, r.3.board.seen row, a.2, next), r.3.rising);
        there = (omega (arith, cell), r.3.there);
      },
      looked_on start.board calls (Adds row c.args.amount.now (Counted row c.put-version.result)) v c.put-version.new.seat.view (ap (λ (z : View). z.reads) c.put-version.ensures.view ∙ ap (λ (z : View). z.reads) a.4) (ap (λ (z : View). z.sights) c.put-version.ensures.view ∙ ap (λ (z : View). z.sights) a.4) (refl, refl) r.4,
    )
