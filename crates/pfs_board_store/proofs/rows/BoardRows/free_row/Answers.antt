use Rattle.std.proofs.Common.{◌∙◌, ap, arith, refl, sym}
use Rattle.pfs_board.specs.declared.view.View.{View}
use Rattle.pfs_board.specs.Knowledge.{corner, found_in, freed_at, version_held, weighed}
use Rattle.pfs_levels.specs.Calls.{Frees}
use Rattle.pfs_board_store.proofs.CallLooks.{looked_on}
use Rattle.pfs_board_store.proofs.CallTies.{free_done, held_at, held_is, some_is}
use Rattle.pfs_board_store.proofs.rows.BoardRows.free_row.Goals as goal

pub returns-clause-call : goal.returns-clause-call
returns-clause-call g c = λ k at start calls r.
    let v = c.args.self.now.seat.view in
    let w = c.free.new.seat.view in
    let row = c.args.row in
    let stage = (corner v row).stage in
    let b = r.3.board in
    let rows = c.args.self.now.rows in
    let known = c.requires.known in
    let same = some_is (version_held stage) k (sym (held_at stage c.requires.held) ∙ at) in
    let view = c.free.ensures.view ∙ ap (λ n. freed_at (weighed v) row n (found_in stage)) same in (
      r.0,
      r.1,
      r.2,
      record {
        board = free_done start.board calls v w row k (found_in stage) known.0 (omega (arith, rows, known)) view (b.taken row known.0 (held_is stage c.requires.held)) (sym (b.hand row known.0) ∙ at) c.free.ensures.hands.2 b;
        words = r.3.words;
        tickets = r.3.tickets;
        rising = (omega (arith, b.seen row, c.free.ensures.later, same), r.3.rising);
        there = (known.1, r.3.there);
      },
      looked_on start.board calls (Frees row k) v w (ap (λ (z : View). z.reads) view) (ap (λ (z : View). z.sights) view) (refl, refl) r.4,
    )
