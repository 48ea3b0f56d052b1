-- What is kept of the actions of a run: of each all that it may ask for, where it finds room, what it is answered, and
-- what was lost up to its end.
use Rattle.std.specs.Prelude.{ℕ, ◌≡◌, ◌+◌, ◌-◌, ◌<◌, ◌≤◌, List, ◌++◌, drop, length, slice_get, take, Some}
use Rattle.std.specs.List.{flat_map}
use Rattle.pfs_admin.specs.declared.changes.Change.{Change}
use Rattle.pfs_admin.specs.declared.changes.Change.TheVariants as changes
use Rattle.pfs_admin.specs.AdministrationStates.{State}
use Rattle.pfs_admin.specs.Fold.{state_of, stepped}
use Rattle.pfs_board.specs.declared.view.Label.{Label}
use Rattle.pfs_classes.specs.declared.setting.Setting.{Setting}
use Rattle.pfs_containers.specs.ContainerState.{lost_in}
use Rattle.pfs_event.specs.declared.entry.Entry.{Entry}
use Rattle.pfs_law_session.specs.Demands.{answer_by, rooms_of}
use Rattle.pfs_model.specs.ActionAsks.{asked_of, did}
use Rattle.pfs_model.specs.Contents.{Facts}
use Rattle.pfs_runs.specs.Labels.{answer_to, rooms_for, terms_of, work_for}
use Rattle.pfs_check_blank.specs.AllAsked.{AreAsked, every}
use Rattle.pfs_check_orders.specs.declared.orders.Order.{Order}

-- the names of a connect are there
abbrev pub IsNamed : List (List ℕ) → Change → Type 0
IsNamed names (changes.Connect user host) = (user < length names) × (host < length names)
IsNamed names changes.Quit = Unit {0}
IsNamed names (changes.Truncate what) = Unit {0}
IsNamed names (changes.Setup what) = Unit {0}

-- those of the entries of all actions that an order names
abbrev pub entries_in : List Entry → Order → List Entry
entries_in entries order = take (order.end - order.start) (drop order.start entries)

-- the order of a session's change, made in this state of the administration
pub record IsOrder (s : State) (session : ℕ) (what : Change) (entries : List Entry) (order : Order) : Type 0 where
  pub within : order.end ≤ length entries
  pub asked : AreAsked (work_for s session what) s.words (entries_in entries order)
  pub rooms : rooms_of order.placed ≡ rooms_for s session what
  pub answer : answer_by order.reply ≡ answer_to s what
  pub lost : order.lost ≡ lost_in (stepped s session what).kept.now

-- an order whose entries stand behind these
pub record IsNext (s : State) (session : ℕ) (what : Change) (old new : List Entry) (order : Order) : Type 0 where
  pub more : List Entry
  pub grown : new ≡ old ++ more
  pub order_is : IsOrder s session what new order

-- the orders of the actions of these labels, by their numbers from 1 on
pub record AreOrders (setting : Setting) (change : Label → Change) (labels : List Label) (entries : List Entry)
    (orders : List Order) : Type 0 where
  pub count : length orders ≡ length labels
  pub each : (before : ℕ) (label : Label) (order : Order) → slice_get labels before ≡ Some label
      → slice_get orders before ≡ Some order
      → IsOrder (state_of setting change (take before labels)) label.session (change label) entries order

-- So they have what a run goes by: of the action of a number all that is done where each take finds something, where
-- it finds room, and what it is answered.
pub record IsByTerms (setting : Setting) (change : Label → Change) (facts : ℕ → ℕ → Facts) (labels : List Label)
    (entries : List Entry) (before : ℕ) (order : Order) : Type 0 where
  pub asked : flat_map did (entries_in entries order)
      ≡ asked_of every ((terms_of setting change facts labels).asked (before + 1))
  pub rooms : rooms_of order.placed ≡ (terms_of setting change facts labels).rooms (before + 1)
  pub answers : answer_by order.reply ≡ (terms_of setting change facts labels).answers (before + 1)

abbrev pub TermsLaw : Type 0
TermsLaw = (setting : Setting) (change : Label → Change) (facts : ℕ → ℕ → Facts) (labels : List Label)
    (entries : List Entry) (orders : List Order) → AreOrders setting change labels entries orders
    → (before : ℕ) (order : Order) → slice_get orders before ≡ Some order
    → IsByTerms setting change facts labels entries before order
