-- Sessions of a script at once, on whatever store: a report of them is a run of the script.
use Rattle.std.specs.Prelude.{ℕ, ◌≡◌, ◌≤◌, ◌<◌, List, ◌++◌}
use Rattle.pfs_admin.specs.OpeningState.{opening_flags}
use Rattle.pfs_admin.specs.declared.changes.Change.{Change}
use Rattle.pfs_board.specs.declared.view.Label.{Label}
use Rattle.pfs_classes.specs.declared.setting.Setting.{Setting}
use Rattle.pfs_journal.specs.declared.report.PhaseParts.{PhaseParts}
use Rattle.pfs_journal.specs.declared.report.ReportParts.{ReportParts}
use Rattle.pfs_law_plain.specs.Spells.{Spell}
use Rattle.pfs_law_script.specs.Course.{IsCourse, numbered}
use Rattle.pfs_law_script.specs.ReportSpells.{ArePhasesTold}
use Rattle.pfs_law_shared.specs.Ends.{IsEnd}
use Rattle.pfs_law_shared.specs.Order.{AreSingle}
use Rattle.pfs_law_shared.specs.Shares.{AreShared}
use Rattle.pfs_law_shared.specs.Tickets.{AllPlaced}
use Rattle.pfs_matching.specs.ObjectRules.{opening_objects}
use Rattle.pfs_model.specs.Chains.{Each}
use Rattle.pfs_runs.specs.Runs.{AreFinal, IsRun}
use Rattle.pfs_runs.specs.ScriptLines.{change_in}
use Rattle.pfs_script.specs.declared.blocks.Phase.{Phase}

-- What sessions did at all blocks of a script, on whatever store: phase by phase they have one order of all that they
-- changed in common, and their puts go to places of rings. A session has one block in a phase.
pub record AreAtOnce (setting : Setting) (phases : List Phase) (depths : ℕ → ℕ) (spells : List Spell) : Type 0 where
  pub course : IsCourse setting (change_in phases) depths (numbered 1 phases) spells
  pub shared : AreShared (opening_flags setting opening_objects) spells
  pub placed : AllPlaced spells
  pub single : AreSingle spells

-- a phase ended behind the first of these spells, those up to it
pub record HasEnded (setting : Setting) (change : Label → Change) (spells : List Spell) (report : PhaseParts) : Type 0
  where
    pub first : List Spell
    pub later : List Spell
    pub parted : spells ≡ first ++ later
    pub low : Each (λ spell. spell.phase ≤ report.number) first
    pub high : Each (λ spell. report.number < spell.phase) later
    pub ended : IsEnd setting change first report

-- a report that tells of them, and of the ends of their phases, is a run of the script
abbrev pub RunLaw : Type 0
RunLaw = (setting : Setting) (phases : List Phase) (report : ReportParts) (depths : ℕ → ℕ) (spells : List Spell)
    → AreAtOnce setting phases depths spells → ArePhasesTold setting 1 phases report.phases spells → report.format ≡ 1
    → AreFinal (HasEnded setting (change_in phases) spells) report.phases → IsRun setting phases report
