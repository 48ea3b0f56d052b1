-- What a load shows of the runs of a number's script.
use Rattle.std.specs.Prelude.{ℕ, ◌≡◌, List}
use Rattle.pfs_classes.specs.declared.setting.Setting.{Setting}
use Rattle.pfs_gen.specs.GeneratedScript.{script_text}
use Rattle.pfs_journal.specs.declared.report.ReportParts.{ReportParts}
use Rattle.pfs_runs.specs.Runs.{IsRun}
use Rattle.pfs_script.specs.Scripts.{IsScript}
use Rattle.pfs_script.specs.declared.blocks.Phase.{Phase}
use Rattle.pfs_law_load.specs.LoadText.{load_text}

-- the text is what a load shows of every report of a run of this number's script, in whatever order its sessions came;
-- so of a plain one
abbrev pub IsLoadText : ℕ → List ℕ → Type 0
IsLoadText number text = (setting : Setting) (phases : List Phase) (report : ReportParts)
    → IsScript (script_text number) setting phases → IsRun setting phases report → text ≡ load_text report

-- what it shows of one of them is that text
abbrev pub OneTextLaw : Type 0
OneTextLaw = (number : ℕ) (setting : Setting) (phases : List Phase) (report : ReportParts)
    → IsScript (script_text number) setting phases → IsRun setting phases report
    → IsLoadText number (load_text report)
