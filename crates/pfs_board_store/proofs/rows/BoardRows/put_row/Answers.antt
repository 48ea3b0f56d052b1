use Rattle.std.proofs.Common.{◌∙◌, ap, arith, refl, sym}
use Rattle.pfs_board.specs.declared.view.View.{View}
use Rattle.pfs_board.specs.Knowledge.{corner, found_in, version_held}
use Rattle.pfs_levels.specs.Calls.{Puts}
use Rattle.pfs_board_store.proofs.CallLooks.{looked_on}
use Rattle.pfs_board_store.proofs.CallTies.{held_at, held_is, put_done}
use Rattle.pfs_board_store.proofs.rows.BoardRows.put_row.Goals as goal

pub returns-clause-call : goal.returns-clause-call
returns-clause-call g c = λ start calls r.
    let v = c.args.self.now.seat.view in
    let w = c.put.new.seat.view in
    let row = c.args.row in
    let stage = (corner v row).stage in
    let b = r.3.board in
    let rows = c.args.self.now.rows in
    let known = c.requires.known in
    let view = c.put.ensures.view in (
      r.0,
      r.1,
      r.2,
      record {
        board = put_done start.board calls v w row c.put.result (version_held stage) c.args.content.now (found_in stage) known.0 (omega (arith, rows, known)) view c.put.ensures.version (b.taken row known.0 (held_is stage c.requires.held))
            (sym (b.hand row known.0) ∙ held_at stage c.requires.held) c.put.ensures.hands.2 b;
        words = r.3.words;
        tickets = r.3.tickets;
        rising = (omega (arith, b.seen row, c.put.ensures.later), r.3.rising);
        there = (known.1, r.3.there);
      },
      looked_on start.board calls (Puts row c.args.content.now c.put.result) v w (ap (λ (z : View). z.reads) view) (ap (λ (z : View). z.sights) view) (refl, refl) r.4,
    )
