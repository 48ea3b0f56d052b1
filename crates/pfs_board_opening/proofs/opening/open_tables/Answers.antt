use Rattle.std.proofs.Common.{arith}
use Rattle.pfs_board_opening.specs.FirstRows.{first_rows}
use Rattle.pfs_board_opening.proofs.FirstRows.{first_at, first_long}
use Rattle.pfs_board_opening.proofs.OpenedTables.{have_opened}
use Rattle.pfs_board_opening.proofs.opening.open_tables.Goals as goal

pub returns : goal.returns
returns g c =
    let words = c.args.words in
    let board = c.in_ok-board in
    let tickets = c.in_ok-tickets in
    have_opened c.args.setting.now words.switches words.seat words.writer c.requires.fresh c.opened.ensures c.opened-2.ensures g.N.Shared.switches c.requires.run first_rows first_long first_at
    board.board board.ensures.board.0 board.ensures.board.1 board.first board.ensures.seat
    tickets.tickets tickets.drawer tickets.ensures.seat

pub open_by-requires-clause-rows : goal.open_by-requires-clause-rows
open_by-requires-clause-rows g c = omega (arith, first_long)
