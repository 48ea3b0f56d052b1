-- When the places of a history are a session's own.
use Rattle.std.specs.Prelude.{ℕ, ◌≡◌, ◌<◌, true, ◌⊎◌, List}
use Rattle.pfs_model.specs.Actions.{IsAmong}
use Rattle.pfs_model.specs.Chains.{Each, change_at, each_of, is_free_after, row_change}
use Rattle.pfs_model.specs.EntryPlaces.{Placed, by_session}
use Rattle.pfs_model.specs.Rings.{history_puts, is_history_row}
use Rattle.pfs_model.specs.declared.changes.Change.{Change}

-- the session's puts of a kind
abbrev pub puts_by : List Placed → ℕ → ℕ → ℕ → List Change
puts_by entries session slot kind = history_puts slot kind (by_session session entries)

-- those of the change's row are all above it
abbrev pub IsBelow : Change → List Change → Type 0
IsBelow change changes = Each (λ other. other.row ≡ change.row → change.version < other.version) changes

-- The places of the history are the session's: each change of one is a put of the session, or below all its puts
-- there, as those of whoever had the slot before; and one that has no put of the session is FREE.
pub record IsOwned (entries : List Placed) (session slot kind : ℕ) : Type 0 where
  pub own : (row version : ℕ) → is_history_row slot kind row ≡ true
      → IsAmong (change_at row version) (each_of row_change entries)
      → IsAmong (change_at row version) (puts_by entries session slot kind)
      ⊎ IsBelow (change_at row version) (puts_by entries session slot kind)
  pub idle : (row : ℕ) → is_history_row slot kind row ≡ true
      → ((version : ℕ) → IsAmong (change_at row version) (puts_by entries session slot kind) → ⊥)
      → is_free_after entries row ≡ true
