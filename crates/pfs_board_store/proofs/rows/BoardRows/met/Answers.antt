use Rattle.std.proofs.Common.{ap, arith, refl}
use Rattle.pfs_levels.specs.Calls.{Meets}
use Rattle.pfs_switches.specs.SeatViews.{Known}
use Rattle.pfs_board_store.proofs.CallLooks.{looked_on}
use Rattle.pfs_board_store.proofs.CallTies.{apart}
use Rattle.pfs_board_store.proofs.WordTies.{met_on, met_least}
use Rattle.pfs_board_store.proofs.rows.BoardRows.met.Goals as goal

pub returns-clause-call : goal.returns-clause-call
returns-clause-call g c = λ start calls r.
    let v = c.args.self.now.seat.view in
    let w = c.args.self.now.words.view in
    let pen = c.args.writer.view in
    let b = r.3.board in
    let is = ap (λ (k : Known). k.view) c.meet.ensures.seat in
    let least = met_least _ w _ pen _ is c.meet.ensures.told in (
      r.0,
      r.1,
      r.2,
      record {
        board = apart start.board calls v (Meets pen.seen) b b.tied (tt, b.shown) (λ row. refl) (λ row. refl) (λ row. refl) refl refl refl refl;
        words = met_on start calls w _ pen is r.3.words;
        tickets = r.3.tickets;
        rising = ((λ at up. omega (arith, r.3.words.4 at, least at)), r.3.rising);
        there = (tt, r.3.there);
      },
      looked_on start.board calls (Meets pen.seen) v v refl refl (refl, refl) r.4,
    )
