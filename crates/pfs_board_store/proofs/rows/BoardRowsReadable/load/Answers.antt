use Rattle.std.proofs.Common.{refl, arith}
use Rattle.pfs_levels.specs.Calls.{Loads}
use Rattle.pfs_board_store.proofs.CallLooks.{looked_on}
use Rattle.pfs_board_store.proofs.CallTies.{apart}
use Rattle.pfs_board_store.proofs.WordTies.{loaded_on}
use Rattle.pfs_board_store.proofs.rows.BoardRowsReadable.load.Goals as goal

pub returns-clause-call : goal.returns-clause-call
returns-clause-call g c = λ start calls r.
    let v = c.args.self.now.seat.view in
    let w = c.args.self.now.words.view in
    let word = c.args.word in
    let b = r.3.board in
    let looks = c.args.self.now.looks in
    let low = c.requires in (
      r.0,
      r.1,
      r.2,
      record {
        board = apart start.board calls v (Loads word c.load.result.0 c.load.result.1) b b.tied (tt, b.shown) (λ row. refl) (λ row. refl) (λ row. refl) refl refl refl refl;
        words = loaded_on start calls w _ word c.load.result.0 c.load.result.1 (omega (arith, looks, low)) c.load.ensures.view r.3.words;
        tickets = r.3.tickets;
        rising = (omega (arith, r.3.words.4 word, c.load.ensures.later), r.3.rising);
        there = (low, r.3.there);
      },
      looked_on start.board calls (Loads word c.load.result.0 c.load.result.1) v v refl refl (refl, refl) r.4,
    )
