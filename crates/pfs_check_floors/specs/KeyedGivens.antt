-- What entries give, each with a number of its entry: the phase, or the action.
use Rattle.std.specs.Prelude.{ℕ, nat_lt, Bool, true, cond, List, [], ◌∷◌, ◌++◌, map}
use Rattle.pfs_event.specs.declared.entry.Entry.{Entry}
use Rattle.pfs_check_tops.specs.declared.tops.Given.{Given}
use Rattle.pfs_model.specs.declared.changes.Change.{Change}
use Rattle.pfs_model.specs.EntryPlaces.{Placed}

abbrev pub given_at : ℕ → Change → Given
given_at at change = record { row = change.row; at = at; version = change.version }

-- of the entries that pass a test
abbrev pub keyed_at : (Placed → Bool) → (Placed → ℕ) → (Entry → List Change) → Placed → List Given
keyed_at test key given place = cond (test place) (map (given_at (key place)) (given place.entry)) []

abbrev pub keyed : (Placed → Bool) → (Placed → ℕ) → (Entry → List Change) → List Placed → List Given
keyed test key given [] = []
keyed test key given (place ∷ places) = keyed_at test key given place ++ keyed test key given places

-- each entry stands in a phase, and some in an action
abbrev pub in_any : Placed → Bool
in_any place = true

abbrev pub phase_of : Placed → ℕ
phase_of place = place.phase

abbrev pub in_action : Placed → Bool
in_action place = nat_lt 0 place.context.action

abbrev pub action_of : Placed → ℕ
action_of place = place.context.action

abbrev pub by_phase : (Entry → List Change) → List Placed → List Given
by_phase given places = keyed in_any phase_of given places

abbrev pub by_action : (Entry → List Change) → List Placed → List Given
by_action given places = keyed in_action action_of given places
