use Rattle.std.proofs.Common.{ℕ, List}
use Rattle.pfs_journal.specs.declared.report.ReportParts.{ReportParts}
use Rattle.pfs_model.specs.ActionAsks.{Asked}
use Rattle.pfs_model.specs.Contents.{Given}
use Rattle.pfs_model.specs.EntryPlaces.{Placed}
use Rattle.pfs_check_moves.specs.AskedMoves.{AreOrdered}
use Rattle.pfs_check_moves.specs.MovesRules.{AreActionsMoved, KnowsMoves}
use Rattle.pfs_check_moves.proofs.faults.first_fault.Given as goal

abbrev pub invariant-loop-before : goal.invariant-loop-before
invariant-loop-before l = (report : ReportParts) → (given : Given) → (asked : ℕ → Asked) → (all : List Placed)
    → KnowsMoves report given l.shelf all l.printed.kept l.actions → AreOrdered asked all l.entries.entries l.orders
    → AreActionsMoved report given l.shelf asked all l.before l.line
