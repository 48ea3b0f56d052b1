-- A plain store with its administration, as contracts see it between two actions.
use Rattle.std.specs.Prelude.{None}
use Rattle.pfs_admin.specs.AdministrationStates.{State as Administration}
use Rattle.pfs_admin.specs.Fold.{StandsFor}
use Rattle.pfs_admin.specs.declared.changes.Change.{Change}
use Rattle.pfs_board.specs.declared.view.Label.{Label}
use Rattle.pfs_classes.specs.declared.setting.Setting.{Setting}
use Rattle.pfs_levels.specs.PlainStore.{labels_after}
use Rattle.pfs_levels.specs.Views.{Store}

-- some calls led to it that led to the store, and whose labels make its administration; no row is in hand, and no word
-- may be set
abbrev pub between : Setting → (Label → Change) → Store → Administration → Store
between setting change rows admin = record {
  reached = λ start calls. rows.reached start calls × StandsFor setting change (labels_after calls) admin;
  hand = λ row. None;
  left = rows.left;
  draws = rows.draws;
  words = None;
  name = 0;
}
