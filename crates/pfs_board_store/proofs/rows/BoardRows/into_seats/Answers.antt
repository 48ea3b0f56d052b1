use Rattle.std.proofs.Common.{arith, sym, ◌∙◌}
use Rattle.pfs_board_store.proofs.ActionCalls.{held_none, outside_is}
use Rattle.pfs_board_store.proofs.rows.BoardRows.into_seats.Goals as goal

pub returns-clause-held : goal.returns-clause-held
returns-clause-held g c = held_none c.args.self.seat.view.rows c.requires.idle

pub returns-clause-left : goal.returns-clause-left
returns-clause-left g c = omega (arith, held_none c.args.self.seat.view.rows c.requires.idle)

pub returns-clause-made : goal.returns-clause-made
returns-clause-made g c = λ start calls r.
    let s = c.args.self in
    let v = s.seat.view in
    let out = outside_is v c.tell.ensures.poised (c.requires.idle 0) in
    record {
      board = s.same_board ∙ r.0;
      switches = s.same_words ∙ r.1;
      tickets = s.same_tickets ∙ r.2;
      made = r.3;
      looked = r.4;
      outside = sym r.3.board.action ∙ out;
      empty = λ row some. sym (r.3.board.hand row some) ∙ c.requires.idle row;
    }
