-- What the orders of a report's actions ask for beside sets.
use Rattle.std.specs.Prelude.{ℕ, suc, ◌≡◌, ◌≤◌, Bool, List, ◌++◌, length, slice_get, Some}
use Rattle.std.specs.List.{flat_map}
use Rattle.pfs_event.specs.declared.entry.Entry.{Entry}
use Rattle.pfs_model.specs.ActionAsks.{Asked, did, moved_by, signed_by}
use Rattle.pfs_model.specs.Chains.{Each, action_change, each_of}
use Rattle.pfs_model.specs.EntryPlaces.{Placed}
use Rattle.pfs_check_blank.specs.AllAsked.{TellsOne}
use Rattle.pfs_check_orders.specs.ActionOrders.{entries_in}
use Rattle.pfs_check_orders.specs.declared.orders.Order.{Order}
use Rattle.pfs_check_moves.specs.DueMoves.{due_of}

-- The order of an action names the entries that ask for its changes: those that are due do what it asks for, whatever
-- its takes find, and each of them does one thing.
pub record IsOrdered (asked : ℕ → Asked) (entries : List Entry) (order : Order) (before : ℕ) : Type 0 where
  pub within : order.end ≤ length entries
  pub dues : (counted : ℕ → Bool) → flat_map did (due_of counted (entries_in entries order))
      ≡ moved_by counted (asked (suc before)).moves ++ signed_by (asked (suc before)).signs
  pub tell : (counted : ℕ → Bool) → Each TellsOne (due_of counted (entries_in entries order))

-- so that of each of them, and there are as many as the report has actions
pub record AreOrdered (asked : ℕ → Asked) (all : List Placed) (entries : List Entry) (orders : List Order) : Type 0
  where
    pub count : length orders ≡ length (each_of action_change all)
    pub each : (before : ℕ) (order : Order) → slice_get orders before ≡ Some order
        → IsOrdered asked entries order before
