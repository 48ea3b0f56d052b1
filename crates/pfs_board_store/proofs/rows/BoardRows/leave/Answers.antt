use Rattle.std.proofs.Common.{ap, arith, refl}
use Rattle.pfs_board.specs.declared.view.View.{View}
use Rattle.pfs_board.specs.Knowledge.{corner, found_in}
use Rattle.pfs_levels.specs.Calls.{Leaves}
use Rattle.pfs_board_store.proofs.ActionCalls.{held_one, inside_is}
use Rattle.pfs_board_store.proofs.CallLooks.{looked_on}
use Rattle.pfs_board_store.proofs.CallTies.{held_is, left_done}
use Rattle.pfs_board_store.proofs.rows.BoardRows.leave.Goals as goal

pub leave-requires-clause-hands : goal.leave-requires-clause-hands
leave-requires-clause-hands g c = let v = c.args.self.now.seat.view in held_one v.rows (held_is (corner v 0).stage c.requires.inside) c.requires.alone

pub returns-clause-call : goal.returns-clause-call
returns-clause-call g c = λ start calls r.
    let v = c.args.self.now.seat.view in
    let w = c.leave.new.seat.view in
    let b = r.3.board in
    let rows = c.args.self.now.rows in
    let view = c.leave.ensures.view in
    let acting = inside_is v c.tell.ensures.poised c.requires.inside in (
      r.0,
      r.1,
      r.2,
      record {
        board = left_done start.board calls v w (found_in (corner v 0).stage) (omega (arith, rows)) acting view c.leave.ensures.hands.2 b;
        words = r.3.words;
        tickets = r.3.tickets;
        rising = (omega (arith, b.seen 0, b.action, c.leave.ensures.later), r.3.rising);
        there = (tt, r.3.there);
      },
      looked_on start.board calls (Leaves) v w (ap (λ (z : View). z.reads) view) (ap (λ (z : View). z.sights) view) (refl, refl) r.4,
    )
