-- The numbers of a digest's row, by the events that count there.
use Rattle.std.specs.Prelude.{ℕ, ◌≡◌, ◌<◌, ◌↔◌, ◌==◌, false, List, length, Option}
use Rattle.pfs_classes.specs.declared.setting.Setting.{Setting}
use Rattle.pfs_journal.specs.declared.report.ReportParts.{ReportParts}
use Rattle.pfs_law_summaries.specs.OrderlyRuns.{run_of}
use Rattle.pfs_runs.specs.Runs.{IsRun}
use Rattle.pfs_script.specs.Scripts.{IsScript}
use Rattle.pfs_script.specs.declared.blocks.Phase.{Phase}
use Rattle.pfs_law_summaries.specs.PhaseSummaries.{past_to}
use Rattle.pfs_law_summaries.specs.Counts.{Past}
use Rattle.pfs_law_summaries.specs.DigestSummary.{digested_events, digested_at}
use Rattle.pfs_law_summaries.specs.Extremes.{timed_waits, AreExtremes}

-- A row's count is the number of the events that count there, so that it has a row just where there are some; its least
-- and its greatest are those of their waits.
pub record AreDigestNumbers (past : Past) (digest : Option ℕ) : Type 0 where
  pub count : (digested_at past digest).count ≡ length (digested_events past digest)
  pub shown : (((digested_at past digest).count == 0) ≡ false) ↔ (0 < length (digested_events past digest))
  pub extremes : AreExtremes (timed_waits past.given (digested_events past digest)) (digested_at past digest)

-- of each digest's place and of the texts without one, under the end of each phase of a run of a script
abbrev pub DigestNumbersLaw : Type 0
DigestNumbersLaw = (text : List ℕ) (setting : Setting) (phases : List Phase) (report : ReportParts)
    → IsScript text setting phases → (run : IsRun setting phases report) → (phase : ℕ) (digest : Option ℕ)
    → AreDigestNumbers (past_to (run_of setting phases report run) phase) digest
