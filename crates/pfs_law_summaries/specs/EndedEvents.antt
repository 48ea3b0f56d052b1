-- How many events of a script's run have ended, whatever their kinds.
use Rattle.std.specs.Prelude.{ℕ, ◌<◌, ◌^◌, List, length}
use Rattle.pfs_classes.specs.declared.setting.Setting.{Setting}
use Rattle.pfs_journal.specs.declared.report.ReportParts.{ReportParts}
use Rattle.pfs_law_summaries.specs.OrderlyRuns.{run_of}
use Rattle.pfs_runs.specs.Runs.{IsRun}
use Rattle.pfs_script.specs.declared.blocks.Phase.{Phase}
use Rattle.pfs_script.specs.Scripts.{IsScript}
use Rattle.pfs_law_conservation.specs.RunEvents.{all_ended}
use Rattle.pfs_law_conservation.specs.RunTerms.{entries_to}

-- a run of a script has fewer than 2^64 events that have ended up to each phase's end
abbrev pub FewEndedLaw : Type 0
FewEndedLaw = (text : List ℕ) (setting : Setting) (phases : List Phase) (report : ReportParts)
    → IsScript text setting phases → (run : IsRun setting phases report) → (phase : ℕ)
    → length (all_ended (entries_to (run_of setting phases report run) phase)) < 2 ^ 64
