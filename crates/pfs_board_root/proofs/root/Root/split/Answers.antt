use Rattle.std.proofs.Common.{ap, subst, sym}
use Rattle.pfs_board.specs.SeatViews.{Known as BoardKnown}
use Rattle.pfs_switches.specs.SeatViews.{Known as WordsKnown}
use Rattle.pfs_tickets.specs.SeatViews.{Known as TicketsKnown}
use Rattle.pfs_board_store.specs.ActorCalls.{IsFresh}
use Rattle.pfs_board_store.proofs.FreshSeats.{fresh_given}
use Rattle.pfs_board_root.proofs.root.Root.split.Goals as goal

pub new-requires-clause-fresh : goal.new-requires-clause-fresh
new-requires-clause-fresh g c = (
  subst (λ (k : BoardKnown). IsFresh k.view) (sym c.split.ensures.new) (fresh_given c.self.inside.seats.board.view c.args.publications),
  ap (λ (k : WordsKnown). k.view.loads) c.split-2.ensures.new,
  ap (λ (k : TicketsKnown). k.view.tickets) c.split-3.ensures.new,
  ap (λ (k : WordsKnown). k.view.meets) c.split-2.ensures.new,
)
