-- What it means that the causes of a report were asked.
use Rattle.std.specs.Prelude.{ℕ, List, [], Option, Some, None}
use Rattle.pfs_check_causes.specs.CauseIndexes.{AreCauses}
use Rattle.pfs_check_causes.specs.TicketPuts.{NeverFallFrom}
use Rattle.pfs_check_faults.specs.EntryFaults.{EventCauseAt, QueryCauseAt}
use Rattle.pfs_check_faults.specs.ReportCases.{AllHave, Case, Findings, entries_of}
use Rattle.pfs_check_floors.specs.RowNames.{AreSightsOf}
use Rattle.pfs_check_visits.specs.ReportVisits.{IsFirstLacking}
use Rattle.pfs_model.specs.EntryPlaces.{Placed}
use Rattle.pfs_check_caused.specs.declared.asking.Known.{Known}
use Rattle.pfs_check_caused.specs.declared.judging.CauseRule.{CauseRule}
use Rattle.pfs_check_caused.specs.declared.judging.CauseRule.TheVariants.{Kept, Wrong}

-- what is known behind these entries, the last first
pub record AreKnown (all earlier : List Placed) (known : Known) : Type 0 where
  pub sights : AreSightsOf all earlier known.sights
  pub causes : AreCauses all known.causes
  pub rises : NeverFallFrom 0 all

-- Each entry has what is asked of it, or this is the first line with one that lacks it.
abbrev pub AreAsked : Case → Findings → (List Placed → Placed → Type 0) → CauseRule → Type 0
AreAsked case found rule Kept = AllHave rule [] (entries_of found)
AreAsked case found rule (Wrong line) = IsFirstLacking case.report rule (entries_of found) line

-- Outside SELECTs that read the store each entry shows its cause, or this is the first line that doesn't.
abbrev pub AreCausesJudged : Case → Findings → CauseRule → Type 0
AreCausesJudged case found answer = AreAsked case found (EventCauseAt (entries_of found)) answer

-- And so in such SELECTs.
abbrev pub AreQueryCausesJudged : Case → Findings → CauseRule → Type 0
AreQueryCausesJudged case found answer = AreAsked case found (QueryCauseAt (entries_of found)) answer

abbrev pub rule_of : Option ℕ → CauseRule
rule_of None = Kept
rule_of (Some line) = Wrong line
