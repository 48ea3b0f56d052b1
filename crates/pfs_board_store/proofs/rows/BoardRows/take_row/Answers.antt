use Rattle.std.proofs.Common.{List, ◌∷◌, ◌/◌, ap, sym, ◌∙◌, subst, arith, refl}
use Rattle.pfs_board.specs.declared.view.Sight.{Sight}
use Rattle.pfs_board.specs.declared.view.View.{View}
use Rattle.pfs_board.specs.Knowledge.{sight_of}
use Rattle.pfs_board_store.specs.ActorCalls.{OnWords, OnTickets}
use Rattle.pfs_board_store.proofs.CallLooks.{looked_waiting}
use Rattle.pfs_board_store.proofs.CallTies.{glanced, sighted_now, taken, sight_more}
use Rattle.pfs_board_store.proofs.Waits.{hand_missed, left_missed}
use Rattle.pfs_board_store.proofs.rows.BoardRows.take_row.Goals as goal

pub returns-in-Mine-clause-call : goal.returns-in-Mine-clause-call
returns-in-Mine-clause-call g c = λ start calls r.
    let l = c.loop.self in
    let i = c.loop.invariant in
    let w = c.take.new.seat.view in
    let row = c.args.row in
    let a = c.in-Mine.ensures.answer in
    let b = i.reached start.board calls r.3.board in
    let rows = l.rows in
    let known = c.requires.known in (
      i.board ∙ r.0,
      i.switches ∙ r.1,
      i.tickets ∙ r.2,
      record {
        board = taken start.board calls l.seat.view w row c.in-Mine.word w.looks c.in-Mine.content known.0 (omega (arith, rows, known)) a.4 a.2 c.in-Mine.ensures.hands.2 (i.hand row ∙ c.requires.away) b;
        words = subst (λ z. OnWords start calls z.view) (sym i.words) r.3.words;
        tickets = subst (λ z. OnTickets start.tickets calls z.view) (sym i.draws) r.3.tickets;
        rising = (omega (arith, b.seen row, a.2), r.3.rising);
        there = (known.1, r.3.there);
      },
      looked_waiting start.board calls row (c.in-Mine.word / 4) c.in-Mine.content c.args.self.now.seat.view w (ap (λ (z : View). z.reads) a.4 ∙ i.reads)
          (let tries = i.tries start.board calls r.3.board in (tries.0, ap (λ (z : View). z.sights) a.4 ∙ tries.1, tries.2)) r.4,
    )

pub loop-preserved : goal.loop-preserved
loop-preserved g c =
    let l = c.loop.self in
    let i = c.loop.invariant in
    let w = c.take.new.seat.view in
    let row = c.args.row in
    let e = c.in_default.ensures in
    let a = e.answer in
    let first = c.in_default.field-0 in
    let second = c.in_default.field-1 in
    let rows = l.rows in
    let known = c.requires.known in
    record {
      can = (tt, tt);
      board = i.board;
      switches = i.switches;
      tickets = i.tickets;
      words = i.words;
      draws = i.draws;
      hand = λ r. hand_missed l.seat.view w row first second w.looks a.5 e.hands.0 (i.hand row ∙ c.requires.away) r ∙ i.hand r;
      left = left_missed l.seat.view w row first second w.looks a.5 e.hands.1 ∙ i.left;
      reads = ap (λ (z : View). z.reads) a.5 ∙ i.reads;
      tries = λ start calls r.
          let b = i.reached start calls r in
          let x : Sight = sight_of l.seat.view row first second in
          let before = i.tries start calls r in
          (x ∷ before.0, ap (λ (z : View). z.sights) a.5 ∙ ap (λ (z : List Sight). x ∷ z) before.1, (sighted_now start calls l.seat.view row first second b, before.2));
      reached = λ start calls r. let b = i.reached start calls r in
          glanced start calls calls l.seat.view w row second l.seat.view.reads (sight_of l.seat.view row first second ∷ l.seat.view.sights) (omega (arith, rows, known)) a.5 (i.hand row ∙ c.requires.away) e.hands.2 b b.tied
          (sight_more start calls l.seat.view (sight_of l.seat.view row first second) b) (λ q. refl) (λ q. refl) (λ q n. refl) (omega (arith, b.seen row, a.1)) refl refl refl refl;
    }
