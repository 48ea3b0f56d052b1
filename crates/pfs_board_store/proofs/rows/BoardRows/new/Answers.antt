use Rattle.std.proofs.Common.{arith, refl}
use Rattle.pfs_board_store.proofs.ActionCalls.{fresh_held, fresh_on}
use Rattle.pfs_board_store.proofs.CallLooks.{looked_first}
use Rattle.pfs_board_store.proofs.rows.BoardRows.new.Goals as goal

pub returns-clause-left : goal.returns-clause-left
returns-clause-left g c = let v = c.args.seats.board.view in omega (arith, fresh_held v c.requires.fresh.0)

pub returns-clause-reached : goal.returns-clause-reached
returns-clause-reached g c = λ flags is.
    let v = c.args.seats.board.view in
    let f = c.requires.fresh in (
      refl,
      refl,
      refl,
      record {
        board = fresh_on _ v f.0 refl refl refl;
        words = (refl, is, refl, f.1, (λ word. omega arith), f.3);
        tickets = (refl, refl, f.2);
        rising = tt;
        there = tt;
      },
      looked_first _ v.reads v.sights f.0.reads f.0.sights,
    )
