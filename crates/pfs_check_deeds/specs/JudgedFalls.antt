-- What it means that the order of the actions was asked of a report.
use Rattle.std.specs.Prelude.{ℕ, Option, Some, None}
use Rattle.pfs_model.specs.Actions.{NeverFall, deeds_of}
use Rattle.pfs_check_faults.specs.ActionFaults.{NeverFallsAt}
use Rattle.pfs_check_faults.specs.ReportCases.{Case, Findings, entries_of}
use Rattle.pfs_check_visits.specs.ReportVisits.{IsFirstLacking}

-- the numbers never fall along a row, or this is the first line with a deed that falls behind its predecessor
abbrev pub AreFallsJudged : Case → Findings → Option ℕ → Type 0
AreFallsJudged case found None = NeverFall (deeds_of (entries_of found))
AreFallsJudged case found (Some line) =
    IsFirstLacking case.report (NeverFallsAt (entries_of found)) (entries_of found) line
