-- What the numbers of a script's events are, and how many events a run of it has.
use Rattle.std.specs.Prelude.{ℕ, ◌<◌, ◌^◌, List, length}
use Rattle.pfs_classes.specs.declared.setting.Setting.{Setting}
use Rattle.pfs_journal.specs.declared.report.ReportParts.{ReportParts}
use Rattle.pfs_law_summaries.specs.OrderlyRuns.{run_of}
use Rattle.pfs_rows.specs.declared.table.TableKind.{TableKind}
use Rattle.pfs_runs.specs.ScriptLines.{facts_in}
use Rattle.pfs_runs.specs.Runs.{IsRun}
use Rattle.pfs_script.specs.declared.blocks.Phase.{Phase}
use Rattle.pfs_script.specs.Scripts.{IsScript}
use Rattle.pfs_law_conservation.specs.Premises.{AreInRange}
use Rattle.pfs_law_conservation.specs.RunTerms.{events_to}

-- what a script says of each event are numbers of 64 bits
abbrev pub InRangeLaw : Type 0
InRangeLaw = (text : List ℕ) (setting : Setting) (phases : List Phase) → IsScript text setting phases
    → AreInRange (facts_in phases)

-- a run of a script has fewer than 2^64 events of each kind up to each phase's end
abbrev pub FewLaw : Type 0
FewLaw = (text : List ℕ) (setting : Setting) (phases : List Phase) (report : ReportParts)
    → IsScript text setting phases → (run : IsRun setting phases report) → (kind : TableKind) (phase : ℕ)
    → length (events_to (run_of setting phases report run) kind phase) < 2 ^ 64
