-- In each state of the fold the cells and the kinds of cells are those of the classes.
use Rattle.std.proofs.Common.{◌≡◌, List, refl}
use Rattle.pfs_admin.proofs.FoldSteps.{fixed_law}
use Rattle.pfs_admin.specs.Fold.{state_of}
use Rattle.pfs_admin.specs.OpeningState.{cells_of, kinds_of}
use Rattle.pfs_admin.specs.declared.changes.Change.{Change}
use Rattle.pfs_board.specs.declared.view.Label.{Label}
use Rattle.pfs_classes.specs.declared.setting.Setting.{Setting}

pub fold_cells : (setting : Setting) (change : Label → Change) (labels : List Label) → (state_of setting change labels).cells ≡ cells_of setting.classes
fold_cells setting change labels = (fixed_law setting change labels (state_of setting change labels) refl).1

pub fold_kinds : (setting : Setting) (change : Label → Change) (labels : List Label) → (state_of setting change labels).kinds ≡ kinds_of setting
fold_kinds setting change labels = (fixed_law setting change labels (state_of setting change labels) refl).2
