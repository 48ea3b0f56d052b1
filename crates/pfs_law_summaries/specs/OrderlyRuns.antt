-- A run of a script as conservation speaks of runs, and what it meets of what conservation asks.
use Rattle.std.specs.Prelude.{ℕ, List, [], length}
use Rattle.pfs_classes.specs.declared.setting.Setting.{Setting}
use Rattle.pfs_journal.specs.declared.report.ReportParts.{ReportParts}
use Rattle.pfs_model.specs.EntryPlaces.{places}
use Rattle.pfs_runs.specs.Labels.{terms_of}
use Rattle.pfs_runs.specs.ScriptLines.{change_in, facts_in}
use Rattle.pfs_runs.specs.Rules.{flags_by}
use Rattle.pfs_runs.specs.Runs.{IsRun, all_blocks}
use Rattle.pfs_script.specs.declared.blocks.Phase.{Phase}
use Rattle.pfs_script.specs.Scripts.{IsScript}
use Rattle.pfs_law_conservation.specs.Premises.{AreActionsOf, AreKept, AreClosed, AreFirstBehind, AreLastBehind, AreSmall, AreTexted, IsOrderly}
use Rattle.pfs_law_conservation.specs.RunTerms.{Run}

-- the run of a report: the changes and the facts are the script's, and the flags by which events are brought are those
-- of the words
abbrev pub run_of : (setting : Setting) (phases : List Phase) (report : ReportParts)
    → IsRun setting phases report → Run
run_of setting phases report run = record {
  setting = setting;
  change = change_in phases;
  labels = run.labels;
  facts = facts_in phases;
  counted = run.counted;
  content = run.content;
  blocks = all_blocks run.blocks;
  flags = flags_by (terms_of setting (change_in phases) (facts_in phases) run.labels) (places (all_blocks run.blocks));
}

-- it keeps the rules, has its labels, and brings each event as its flags ask
abbrev pub KeptLaw : Type 0
KeptLaw = (setting : Setting) (phases : List Phase) (report : ReportParts) (run : IsRun setting phases report)
    → AreKept (run_of setting phases report run)

-- the last line of each block is the block's end
abbrev pub ClosedLaw : Type 0
ClosedLaw = (setting : Setting) (phases : List Phase) (report : ReportParts) (run : IsRun setting phases report)
    → AreClosed (all_blocks run.blocks)

-- what a line starts counts in one of 64 cells
abbrev pub SmallLaw : Type 0
SmallLaw = (text : List ℕ) (setting : Setting) (phases : List Phase) (report : ReportParts)
    → IsScript text setting phases → (run : IsRun setting phases report) → AreSmall (all_blocks run.blocks)

-- a statement's digest text is one of the setting's, or has no place
abbrev pub TextedLaw : Type 0
TextedLaw = (text : List ℕ) (setting : Setting) (phases : List Phase) (report : ReportParts)
    → IsScript text setting phases → (run : IsRun setting phases report)
    → AreTexted (length setting.digests) (all_blocks run.blocks)

-- a session's connect is its first entry, so it connects once
abbrev pub FirstLaw : Type 0
FirstLaw = (text : List ℕ) (setting : Setting) (phases : List Phase) (report : ReportParts)
    → IsScript text setting phases → (run : IsRun setting phases report)
    → AreFirstBehind [] (places (all_blocks run.blocks))

-- behind a session's quit is nothing but what the quit does
abbrev pub LastLaw : Type 0
LastLaw = (text : List ℕ) (setting : Setting) (phases : List Phase) (report : ReportParts)
    → IsScript text setting phases → (run : IsRun setting phases report)
    → AreLastBehind [] (places (all_blocks run.blocks))

-- an action does what its line does: that of a connect's connects, that of a quit's quits, and that of no other line
-- than an SQL line's truncates or changes the setup
abbrev pub HasActions : Run → Type 0
HasActions run = AreActionsOf run.change run.labels (places run.blocks)

-- by the labels that tell whose line each action is, and the changes that the script says of them
abbrev pub ActionsLaw : Type 0
ActionsLaw = (setting : Setting) (phases : List Phase) (report : ReportParts) (run : IsRun setting phases report)
    → HasActions (run_of setting phases report run)

-- so a run of a script meets all that conservation asks of its order
abbrev pub OrderlyLaw : Type 0
OrderlyLaw = (text : List ℕ) (setting : Setting) (phases : List Phase) (report : ReportParts)
    → IsScript text setting phases → (run : IsRun setting phases report)
    → IsOrderly (run_of setting phases report run)
