use Rattle.std.proofs.Common.{◌≡◌, ◌++◌, drop}
use Rattle.pfs_check_versions.specs.PlacedChanges.{changes_of, given_by}
use Rattle.pfs_check_versions.specs.PrintedEntries.{printed_phases}
use Rattle.pfs_check_versions.proofs.gathering.gather_phases.Given as goal

abbrev pub invariant-loop-phase : goal.invariant-loop-phase
invariant-loop-phase l =
    l.changes.items ++ changes_of (given_by l.what) (printed_phases l.line l.number (drop l.phase-index l.phases))
    ≡ changes_of (given_by l.what) (printed_phases 2 1 l.phases)
