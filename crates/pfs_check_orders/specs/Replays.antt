-- How far the actions are replayed.
use Rattle.std.specs.Prelude.{List}
use Rattle.pfs_admin.specs.declared.changes.Change.{Change}
use Rattle.pfs_admin.specs.AdministrationStates.{State}
use Rattle.pfs_admin.specs.Fold.{StandsFor}
use Rattle.pfs_board.specs.declared.view.Label.{Label}
use Rattle.pfs_classes.specs.declared.setting.Setting.{Setting}
use Rattle.pfs_check_blank.specs.declared.blank.Blank.{Blank}
use Rattle.pfs_check_blank.specs.ReadyStores.{IsReady}
use Rattle.pfs_check_orders.specs.ActionOrders.{AreOrders}
use Rattle.pfs_check_orders.specs.HeldCopies.{AreShown, IsCurrent}
use Rattle.pfs_check_orders.specs.InfoWords.{AreInfos}
use Rattle.pfs_check_orders.specs.declared.orders.Orders.{Orders}

pub record IsReplayed (setting : Setting) (change : Label → Change) (labels : List Label) (admin : State) (blank : Blank)
    (kept : Orders) : Type 0 where
  pub stands : StandsFor setting change labels admin
  pub ready : IsReady admin.words blank
  pub orders : AreOrders setting change labels kept.entries.entries kept.orders.items
  pub infos : AreInfos setting change labels kept.infos.items kept.orders.items
  pub shown : AreShown setting change labels kept.held.tables.items kept.orders.items
  pub current : IsCurrent admin kept.held
