-- The words of the info rows that the actions of a run write.
use Rattle.std.specs.Prelude.{ℕ, ◌≡◌, ◌-◌, ◌≤◌, ◌==◌, if◌then◌else◌, List, [], ◌∷◌, drop, length, slice_get, take, Option, Some, None}
use Rattle.pfs_admin.specs.declared.changes.Change.{Change}
use Rattle.pfs_admin.specs.Fold.{state_of}
use Rattle.pfs_admin.specs.Works.{Sign}
use Rattle.pfs_board.specs.declared.view.Label.{Label}
use Rattle.pfs_classes.specs.declared.setting.Setting.{Setting}
use Rattle.pfs_event.specs.declared.entry.Entry.{Entry}
use Rattle.pfs_event.specs.declared.entry.Entry.TheVariants as says
use Rattle.pfs_law_session.specs.Orders.{signed_words}
use Rattle.pfs_runs.specs.Labels.{work_for}
use Rattle.pfs_check_orders.specs.declared.infos.Info.{Info}
use Rattle.pfs_check_orders.specs.declared.orders.Order.{Order}

-- no words where a row isn't written
abbrev pub words_or_none : Option (List ℕ) → List ℕ
words_or_none None = []
words_or_none (Some words) = words

-- the info row that an entry writes, with what stands in these contents
abbrev pub info_at : ℕ → Option (List ℕ) → List Info
info_at row None = []
info_at row (Some words) = record { row = row; words = words } ∷ []

abbrev pub info_of : List (List ℕ) → Entry → List Info
info_of contents (says.Tag row version) = info_at row (slice_get contents row)
info_of contents _ = []

-- the words of the first one of a row
abbrev pub words_in : List Info → ℕ → List ℕ
words_in [] row = []
words_in (info ∷ infos) row = if info.row == row then info.words else words_in infos row

-- those of the info rows of all actions that an order names
abbrev pub infos_in : List Info → Order → List Info
infos_in infos order = take (order.end_info - order.first_info) (drop order.first_info infos)

-- they are those that these signs write
pub record HasInfos (signs : List Sign) (infos : List Info) (order : Order) : Type 0 where
  pub within : order.end_info ≤ length infos
  pub words : (row : ℕ) → words_in (infos_in infos order) row ≡ signed_words signs row

-- the info rows of the actions of these labels, by their numbers from 1 on
pub record AreInfos (setting : Setting) (change : Label → Change) (labels : List Label) (infos : List Info)
    (orders : List Order) : Type 0 where
  pub count : length orders ≡ length labels
  pub each : (before : ℕ) (label : Label) (order : Order) → slice_get labels before ≡ Some label
      → slice_get orders before ≡ Some order
      → HasInfos (work_for (state_of setting change (take before labels)) label.session (change label)).signs infos order
