use Rattle.std.proofs.Common.{ap, arith, refl}
use Rattle.pfs_board.specs.declared.view.View.{View}
use Rattle.pfs_levels.specs.Calls.{Enters}
use Rattle.pfs_board_store.proofs.ActionCalls.{entered}
use Rattle.pfs_board_store.proofs.CallLooks.{looked_on}
use Rattle.pfs_board_store.proofs.rows.BoardRows.enter.Goals as goal

pub returns-clause-call : goal.returns-clause-call
returns-clause-call g c = λ start calls r.
    let v = c.args.self.now.seat.view in
    let w = c.enter.new.seat.view in
    let e = c.enter.ensures in
    let rows = c.args.self.now.rows in
    let later = e.begun.later in (
      w.labels,
      (
        e.number.0,
        e.value,
        (
          r.0,
          r.1,
          r.2,
          record {
            board = entered start.board calls v w c.args.label (omega (arith, rows)) e.begun e.hands.2 r.3.board;
            words = r.3.words;
            tickets = r.3.tickets;
            rising = (omega (arith, r.3.board.seen 0, later), r.3.rising);
            there = (tt, r.3.there);
          },
          looked_on start.board calls (Enters c.args.label w.labels) v w (ap (λ (z : View). z.reads) e.begun.view_is) (ap (λ (z : View). z.sights) e.begun.view_is) (refl, refl) r.4,
        ),
      ),
    )
