use Rattle.std.proofs.Common.{refl}
use Rattle.pfs_levels.specs.Calls.{Draws}
use Rattle.pfs_board_store.proofs.CallLooks.{looked_on}
use Rattle.pfs_board_store.proofs.CallTies.{apart}
use Rattle.pfs_board_store.proofs.WordTies.{drawn_on, ticket_rises}
use Rattle.pfs_board_store.proofs.rows.BoardRowsRows.ticket.Goals as goal

pub returns-clause-call : goal.returns-clause-call
returns-clause-call g c = λ start calls r.
    let v = c.args.self.now.seat.view in
    let t = c.args.self.now.draws.view in
    let call = Draws c.args.kind c.draw.result in
    let b = r.3.board in (
      r.0,
      r.1,
      r.2,
      record {
        board = apart start.board calls v call b b.tied (tt, b.shown) (λ row. refl) (λ row. refl) (λ row. refl) refl refl refl refl;
        words = r.3.words;
        tickets = drawn_on start.tickets calls t _ _ c.args.kind c.draw.result c.requires.room c.draw.ensures.seat r.3.tickets;
        rising = (ticket_rises start.tickets calls t.tickets c.args.kind c.draw.result c.draw.ensures.above r.3.tickets.2, r.3.rising);
        there = (c.requires.known, r.3.there);
      },
      looked_on start.board calls call v v refl refl (refl, refl) r.4,
    )
