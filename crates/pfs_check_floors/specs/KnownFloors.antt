-- What is known of the floors of rows, or of switch words.
use Rattle.std.specs.Prelude.{ℕ, ◌≡◌, ◌==◌, max, Bool, true, false, ◌&&◌, cond, List, unwrap_or}
use Rattle.std.specs.BTreeMap.{BTreeMap, get}
use Rattle.std.specs.declared.cmp.Ordering.{Ordering}
use Rattle.std.specs.Ordering.{nat_cmp, ordering_then}
use Rattle.pfs_event.specs.declared.entry.Entry.{Entry}
use Rattle.pfs_check_tops.specs.SortedTops.{AreTopsOf}
use Rattle.pfs_model.specs.declared.changes.Change.{Change}
use Rattle.pfs_model.specs.Chains.{AreChained, each_of, is_of, times}
use Rattle.pfs_model.specs.EntryPlaces.{Placed, before_phase, by_session, up_to_phase}
use Rattle.pfs_model.specs.Floors.{by_actions, greatest}
use Rattle.pfs_check_floors.specs.declared.floors.Floors.{Floors}
use Rattle.pfs_check_floors.specs.declared.floors.Seat.{Seat}
use Rattle.pfs_check_floors.specs.declared.floors.SessionRow.{SessionRow}
use Rattle.pfs_check_floors.specs.KeyedGivens.{by_action, by_phase}

-- a test tells whether a fact holds
abbrev pub Tells : Type 0 → Bool → Type 0
Tells fact true = fact
Tells fact false = fact → ⊥

abbrev pub seat_cmp : SessionRow → SessionRow → Ordering
seat_cmp one other = ordering_then (nat_cmp one.session other.session) (nat_cmp one.row other.row)

abbrev pub is_same_seat : SessionRow → SessionRow → Bool
is_same_seat one seat = (one.session == seat.session) && (one.row == seat.row)

-- the version at which a session is known to have seen a row; 0 without one
abbrev pub known_at : BTreeMap SessionRow ℕ → SessionRow → ℕ
known_at known seat = unwrap_or (get seat_cmp known seat) 0

-- the session has seen these too
abbrev pub AreRaised : BTreeMap SessionRow ℕ → BTreeMap SessionRow ℕ → ℕ → List Change → Type 0
AreRaised old new session changes = (seat : SessionRow)
    → known_at new seat ≡ max (known_at old seat) (cond (session == seat.session) (greatest seat.row changes) 0)

-- the entry stands there
pub record IsSeatOf (seat : Seat) (place : Placed) : Type 0 where
  pub phase : seat.phase ≡ place.phase
  pub session : seat.session ≡ place.session
  pub done : seat.done ≡ place.context.done

-- how many changes a row has before a phase, and up to its end
abbrev pub begun_by : (Entry → List Change) → List Placed → ℕ → ℕ → ℕ
begun_by given all phase row = times (is_of row) (each_of given (before_phase phase all))

abbrev pub had_by : (Entry → List Change) → List Placed → ℕ → ℕ → ℕ
had_by given all phase row = times (is_of row) (each_of given (up_to_phase phase all))

-- The floor of a row, or of a word, by what entries give and by what the entries of a session show.
abbrev pub floor_by : (Entry → List Change) → (List Placed → List Change) → List Placed → List Placed → Placed → ℕ → ℕ
floor_by given shown all earlier place row =
    max (max (times (is_of row) (each_of given (before_phase place.phase all)))
    (greatest row (shown (by_session place.session earlier))))
    (greatest row (each_of given (by_actions place.context.done all)))

-- of all entries, and of those so far, the last first
pub record AreFloorsOf (given : Entry → List Change) (shown : List Placed → List Change) (all earlier : List Placed)
    (floors : Floors) : Type 0 where
  pub chained : AreChained given all
  pub phases : AreTopsOf floors.phases (by_phase given all)
  pub actions : AreTopsOf floors.actions (by_action given all)
  pub known : (seat : SessionRow)
      → known_at floors.known seat ≡ greatest seat.row (shown (by_session seat.session earlier))
