-- The names that a script's changes give.
use Rattle.std.specs.Prelude.{ℕ, List}
use Rattle.pfs_board.specs.declared.view.Label.{Label}
use Rattle.pfs_classes.specs.declared.setting.Setting.{Setting}
use Rattle.pfs_runs.specs.ScriptLines.{change_in}
use Rattle.pfs_script.specs.Scripts.{IsScript}
use Rattle.pfs_script.specs.declared.blocks.Phase.{Phase}
use Rattle.pfs_check_orders.specs.ActionOrders.{IsNamed}

-- those of a connect are names of the setting
abbrev pub NamedChangesLaw : Type 0
NamedChangesLaw = (text : List ℕ) (setting : Setting) (phases : List Phase) → IsScript text setting phases
    → (label : Label) → IsNamed setting.names (change_in phases label)
