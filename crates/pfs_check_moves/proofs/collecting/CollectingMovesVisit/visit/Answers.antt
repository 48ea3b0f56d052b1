use Rattle.std.proofs.Common.{subst}
use Rattle.pfs_check_walk.specs.Walks.{place_of}
use Rattle.pfs_check_moves.specs.PrintedMoves.{IsPrintedMore, in_order}
use Rattle.pfs_check_moves.proofs.PrintedFacts.{one_printed}
use Rattle.pfs_check_moves.proofs.collecting.CollectingMovesVisit.visit.Goals as goal

pub returns : goal.returns
returns g c = λ case found earlier context told known. (
  tt,
  one_printed (in_order earlier) (place_of c.args._spot c.args._line.now context c.args.entry.now) c.args.self.now.printed.kept c.note.new.self.kept
      (subst (λ z. IsPrintedMore c.args.self.now.printed.kept c.note.new.self.kept z c.args.entry.now) (c.action-action.ensures context told) c.in_ok-note.ensures) known,
)
