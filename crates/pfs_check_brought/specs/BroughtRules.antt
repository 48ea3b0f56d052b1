-- What it means that the dues of a report were asked.
use Rattle.std.specs.Prelude.{ℕ, ◌+◌, ◌-◌, ◌<◌, List, length, Option, Some, None}
use Rattle.pfs_journal.specs.declared.report.ReportParts.{ReportParts}
use Rattle.pfs_model.specs.EntryPlaces.{Placed}
use Rattle.pfs_model.specs.Puts.{AreBrought}
use Rattle.pfs_check_dues.specs.DueRules.{IsFirstUnbrought}
use Rattle.pfs_check_faults.specs.ReportCases.{Case, Findings, StandsOn, entries_of, flags_in}
use Rattle.pfs_check_brought.specs.declared.bringing.Stop.{Stop}
use Rattle.pfs_check_brought.specs.declared.judging.DueRule.{DueRule}
use Rattle.pfs_check_brought.specs.declared.judging.DueRule.TheVariants as dues

-- The event of a stop is one of all entries; and as many lines behind the event's as the stop stands behind it, there
-- is the first on which an event isn't brought.
pub record StopsOwing (flags : ℕ → ℕ → ℕ) (all : List Placed) (stop : Stop) : Type 0 where
  pub within : stop.event < length all
  pub first : (report : ReportParts) (begins : ℕ) → StandsOn report stop.event begins
      → IsFirstUnbrought report flags all (begins + (stop.at - stop.event))

-- all are brought, or the walk stops where one isn't
abbrev pub IsStopped : (ℕ → ℕ → ℕ) → List Placed → Option Stop → Type 0
IsStopped flags all None = AreBrought flags all
IsStopped flags all (Some stop) = StopsOwing flags all stop

-- all events are brought, or this is the first line on which one isn't
abbrev pub AreDuesJudged : Case → Findings → DueRule → Type 0
AreDuesJudged case found dues.Kept = AreBrought (flags_in case found) (entries_of found)
AreDuesJudged case found (dues.Wrong line) =
    IsFirstUnbrought case.report (flags_in case found) (entries_of found) line
