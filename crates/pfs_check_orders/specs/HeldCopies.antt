-- The rows of the setup tables before the actions of a run that read them.
use Rattle.std.specs.Prelude.{ℕ, ◌≡◌, ◌-◌, false, true, Bool, List, length, map, slice_get, take, Some}
use Rattle.pfs_admin.specs.AdministrationStates.{State}
use Rattle.pfs_admin.specs.Fold.{state_of, stepped}
use Rattle.pfs_admin.specs.declared.changes.Change.{Change}
use Rattle.pfs_admin.specs.declared.changes.Change.TheVariants as changes
use Rattle.pfs_admin.specs.declared.changes.SetupStatement.TheVariants as statements
use Rattle.pfs_board.specs.declared.view.Label.{Label}
use Rattle.pfs_classes.specs.declared.setting.Setting.{Setting}
use Rattle.pfs_runs.specs.Labels.{label_at}
use Rattle.pfs_setups.specs.HeldRows.{actor_values, object_values}
use Rattle.pfs_check_orders.specs.declared.held.HeldTables.{HeldTables}
use Rattle.pfs_check_orders.specs.declared.orders.Order.{Order}
use Rattle.pfs_check_orders.specs.declared.shows.HeldCopies.{HeldCopies}

-- a copy of the rows as this administration holds them
pub record AreHeld (s : State) (tables : HeldTables) : Type 0 where
  pub actors : tables.actors ≡ map actor_values s.actors
  pub objects : tables.objects ≡ map object_values s.objects

-- such a copy stands at this place
pub record StandsAt (s : State) (copies : List HeldTables) (place : ℕ) : Type 0 where
  pub tables : HeldTables
  pub there : slice_get copies place ≡ Some tables
  pub held : AreHeld s tables

-- the last copy is one, where the copies are said to be current
abbrev pub IsCurrent : State → HeldCopies → Type 0
IsCurrent s copies = copies.current ≡ true → StandsAt s copies.tables.items (length copies.tables.items - 1)

-- a change that is said to change no row of theirs changes none
abbrev pub IsSame : Change → Bool → State → ℕ → Type 0
IsSame what changed s session = changed ≡ false
    → ((stepped s session what).actors ≡ s.actors) × ((stepped s session what).objects ≡ s.objects)

-- the copies before the actions of these labels that read the rows
pub record AreShown (setting : Setting) (change : Label → Change) (labels : List Label) (copies : List HeldTables)
    (orders : List Order) : Type 0 where
  pub count : length orders ≡ length labels
  pub each : (before : ℕ) (label : Label) (order : Order) → slice_get labels before ≡ Some label
      → slice_get orders before ≡ Some order → change label ≡ changes.Setup statements.Show
      → StandsAt (state_of setting change (take before labels)) copies order.held

-- the action of a number reads the rows
pub record IsRead (change : Label → Change) (labels : List Label) (number : ℕ) : Type 0 where
  pub label : Label
  pub there : label_at labels number ≡ Some label
  pub reads : change label ≡ changes.Setup statements.Show
