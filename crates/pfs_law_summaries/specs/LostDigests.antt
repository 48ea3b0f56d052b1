-- The counter of lost digests under a phase's end, by the statements that have ended.
use Rattle.std.specs.Prelude.{ℕ, ◌≡◌, ◌&&◌, if◌then◌else◌, List, [], ◌∷◌, length, filter, is_none}
use Rattle.std.specs.Str.{bytes_eq}
use Rattle.pfs_classes.specs.declared.setting.Setting.{Setting}
use Rattle.pfs_finals.specs.Counters.{counter_name}
use Rattle.pfs_finals.specs.declared.counters.Counter.TheVariants.{Digests}
use Rattle.pfs_journal.specs.declared.report.PhaseParts.{PhaseParts}
use Rattle.pfs_journal.specs.declared.report.ReportParts.{ReportParts}
use Rattle.pfs_journal.specs.declared.values.LostReport.{LostReport}
use Rattle.pfs_model.specs.SetupFlags.{is_digested}
use Rattle.pfs_law_summaries.specs.OrderlyRuns.{run_of}
use Rattle.pfs_runs.specs.Runs.{IsRun, AreFinal}
use Rattle.pfs_script.specs.Scripts.{IsScript}
use Rattle.pfs_script.specs.declared.blocks.Phase.{Phase}
use Rattle.pfs_law_conservation.specs.RunEvents.{Ended, all_ended}
use Rattle.pfs_law_conservation.specs.RunTerms.{Run}
use Rattle.pfs_law_summaries.specs.PhaseSummaries.{past_to}
use Rattle.pfs_law_summaries.specs.Counts.{Past}

-- the number of the counter with the name; 0 where none has it, since a counter of 0 is left out
abbrev pub counter_named : List ℕ → List LostReport → ℕ
counter_named name [] = 0
counter_named name (counter ∷ counters) =
    if bytes_eq counter.name name then counter.number else counter_named name counters

-- the statements that have ended and were digested, and whose digest texts have no place, also those that a TRUNCATE
-- took
abbrev pub unplaced_events : Past → List Ended
unplaced_events past =
    filter (λ one. is_digested past.given.flags one.context.slot one.event && is_none one.event.subject.digest)
    (all_ended past.entries)

abbrev pub AreLostDigests : Run → PhaseParts → Type 0
AreLostDigests run phase =
    counter_named (counter_name Digests) phase.lost ≡ length (unplaced_events (past_to run phase.number))

-- under the end of each phase of a run
abbrev pub AllHaveLostDigests : (setting : Setting) (phases : List Phase) (report : ReportParts)
    → IsRun setting phases report → Type 0
AllHaveLostDigests setting phases report run =
    AreFinal (AreLostDigests (run_of setting phases report run)) report.phases

-- of any script
abbrev pub LostDigestsLaw : Type 0
LostDigestsLaw = (text : List ℕ) (setting : Setting) (phases : List Phase) (report : ReportParts)
    → IsScript text setting phases → (run : IsRun setting phases report)
    → AllHaveLostDigests setting phases report run
