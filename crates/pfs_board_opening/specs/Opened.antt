-- The tables of a run over a board, as they open, with their first seats.
use Rattle.std.specs.Prelude.{◌≡◌}
use Rattle.atomic_table.specs.Seated.{TableId}
use Rattle.pfs_admin.specs.OpeningState.{opening_flags}
use Rattle.pfs_board.specs.Knowledge.{root as board_root}
use Rattle.pfs_board.specs.OpeningWords.{IsOpening}
use Rattle.pfs_board.specs.SeatViews.{Known as BoardKnown, Place as BoardPlace, known as known_board}
use Rattle.pfs_board_root.specs.Roots.{RootView}
use Rattle.pfs_board_store.specs.RootLaws.{IsRunsBoard}
use Rattle.pfs_classes.specs.declared.setting.Setting.{Setting}
use Rattle.pfs_containers.specs.declared.containers.Lost.{Lost}
use Rattle.pfs_matching.specs.ObjectRules.{opening_objects}
use Rattle.pfs_switches.specs.Knowledge.{reader, whole, writer}
use Rattle.pfs_switches.specs.OpeningWords.{opening_words}
use Rattle.pfs_switches.specs.SeatViews.{Known as WordsKnown, Place as WordsPlace, known as known_words}
use Rattle.pfs_tickets.specs.Knowledge.{root as tickets_root}
use Rattle.pfs_tickets.specs.SeatViews.{Known as TicketsKnown, known as known_tickets}

-- setup words that open with the flags of a setting, with their first seat and their writer
pub record AreFresh (setting : Setting) (switches : WordsPlace) (seat pen : WordsKnown) : Type 0 where
  pub flags : switches.start ≡ opening_words (opening_flags setting opening_objects)
  pub seat_is : seat ≡ known_words switches.id (reader (whole switches.start))
  pub pen_is : pen ≡ known_words switches.id (writer (whole switches.start))

-- The tables of a run that contracts name by these words, with the first seats of all three. The board has the rows of a
-- run and no more, each at version 0, and free or with the content that a run begins with
pub record HaveOpened (setting : Setting) (run : TableId) (board : BoardPlace) (switches : WordsPlace) (tickets : TableId)
    (b : BoardKnown) (w : WordsKnown) (t : TicketsKnown) : Type 0 where
  pub run_is : switches.id ≡ run
  pub flags : switches.start ≡ opening_words (opening_flags setting opening_objects)
  pub rows : IsOpening board.start 14242
  pub runs : IsRunsBoard board.start
  pub seat_is : b ≡ known_board board.id (board_root board.start)
  pub words_are : w ≡ known_words switches.id (reader (whole switches.start))
  pub draws_are : t ≡ known_tickets tickets tickets_root

-- the root of such tables before it has done anything
abbrev pub first_root : BoardPlace → WordsPlace → TableId → RootView
first_root board switches tickets = record {
  board = board.id;
  switches = switches.id;
  tickets = tickets;
  seat = board_root board.start;
  words = reader (whole switches.start);
  draws = tickets_root;
}

-- each thread, account, user and host has found its place
abbrev pub nothing_lost : Lost
nothing_lost = record { threads = 0; accounts = 0; users = 0; hosts = 0 }
