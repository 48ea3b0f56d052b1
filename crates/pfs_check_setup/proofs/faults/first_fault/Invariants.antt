use Rattle.std.proofs.Common.{ℕ, List}
use Rattle.pfs_journal.specs.declared.report.ReportParts.{ReportParts}
use Rattle.pfs_model.specs.ActionAsks.{Asked}
use Rattle.pfs_model.specs.EntryPlaces.{Placed}
use Rattle.pfs_check_setup.specs.DueSets.{AreAskedFor}
use Rattle.pfs_check_setup.specs.SetupRules.{AreActionsAsked, AreOrdered, KnowsActions}
use Rattle.pfs_check_setup.proofs.faults.first_fault.Given as goal

abbrev pub invariant-loop-before : goal.invariant-loop-before
invariant-loop-before l = (report : ReportParts) → (asked : ℕ → Asked) → (all : List Placed) → KnowsActions report all l.printed l.actions
    → AreOrdered asked all l.entries.entries l.orders → AreActionsAsked report asked all l.before l.line × AreAskedFor asked l.counts l.before
