-- That the summaries of any run of a script show what counts there.
use Rattle.std.specs.Prelude.{ℕ, ◌≡◌, ◌<◌, ◌^◌, true, List, [], ◌∷◌, length}
use Rattle.pfs_classes.specs.declared.setting.Setting.{Setting}
use Rattle.pfs_conservation.specs.KindSummaries.{Key}
use Rattle.pfs_journal.specs.declared.report.ReportParts.{ReportParts}
use Rattle.pfs_law_summaries.specs.OrderlyRuns.{run_of}
use Rattle.pfs_rows.specs.declared.table.TableKind.{TableKind}
use Rattle.pfs_model.specs.EntryPlaces.{places}
use Rattle.pfs_model.specs.PlainAgreement.{IsPlain}
use Rattle.pfs_runs.specs.Runs.{IsRun, AreFinal, all_blocks}
use Rattle.pfs_script.specs.declared.blocks.Phase.{Phase}
use Rattle.pfs_script.specs.Scripts.{IsScript}
use Rattle.pfs_law_conservation.specs.KindRows.{cells_of}
use Rattle.pfs_law_conservation.specs.Premises.{AreKept, IsOrderly}
use Rattle.pfs_law_conservation.specs.RunTerms.{Run, IsKeyOf, events_to, counted_to}
use Rattle.pfs_law_summaries.specs.PhaseSummaries.{past_to, AreCounted}
use Rattle.pfs_law_summaries.specs.Counts.{counted_at}
use Rattle.pfs_law_summaries.specs.CurrentPlaces.{AllHaveCurrents}
use Rattle.pfs_law_summaries.specs.DigestSummary.{AllAreDigested}
use Rattle.pfs_law_summaries.specs.ThreadHistories.{AllHaveHistories}
use Rattle.pfs_law_summaries.specs.LongHistory.{AllHaveLongs}
use Rattle.pfs_law_summaries.specs.LostDigests.{AllHaveLostDigests}

-- what counts by the numbers that conservation gives to events is what counts by the entries
abbrev pub AgreedLaw : Type 0
AgreedLaw = (run : Run) (kind : TableKind) (phase : ℕ) → AreKept run → IsOrderly run
    → length (events_to run kind phase) < 2 ^ 64 → (key : Key) → IsKeyOf run key
    → (cell : ℕ) → cells_of run.setting kind cell ≡ true
    → counted_to run kind phase key (cell ∷ []) ≡ counted_at (past_to run phase) kind key cell

-- under the end of each phase of a run
abbrev pub AllAreCounted : (setting : Setting) (phases : List Phase) (report : ReportParts)
    → IsRun setting phases report → Type 0
AllAreCounted setting phases report run = AreFinal (AreCounted (run_of setting phases report run)) report.phases

abbrev pub CountedLaw : Type 0
CountedLaw = (text : List ℕ) (setting : Setting) (phases : List Phase) (report : ReportParts)
    → IsScript text setting phases → (run : IsRun setting phases report)
    → AllAreCounted setting phases report run

-- a run, in whatever order its sessions ran, whose summaries, that by digest among them, show what counts there, whose
-- histories show just the last puts of each session that is there, whose current places show the last put of each,
-- whose long history the greatest ticket of each place, and whose counter of lost digests the number of statements
-- whose digest texts have no place
pub record IsCountedRun (setting : Setting) (phases : List Phase) (report : ReportParts) : Type 0 where
  pub run : IsRun setting phases report
  pub counted : AllAreCounted setting phases report run
  pub digested : AllAreDigested setting phases report run
  pub histories : AllHaveHistories setting phases report run
  pub currents : AllHaveCurrents setting phases report run
  pub longs : AllHaveLongs setting phases report run
  pub lost_digests : AllHaveLostDigests setting phases report run

-- and a plain one, where each line goes by those before it
pub record IsPlainCountedRun (setting : Setting) (phases : List Phase) (report : ReportParts) : Type 0 where
  pub counted : IsCountedRun setting phases report
  pub plain : IsPlain (places (all_blocks counted.run.blocks))
