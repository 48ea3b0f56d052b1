-- The places of rings, by number, as three see them: who puts events there, who shows a table of events, and who frees
-- places.
use Rattle.std.specs.Prelude.{ℕ, ◌≡◌, ◌<◌, ◌+◌, ◌*◌, ◌%◌, nat_le, nat_lt, Bool, true, ◌&&◌, ◌||◌}
use Rattle.std.specs.List.{list_all, range_with_len}
use Rattle.pfs_event.specs.declared.kind.EventKind.{EventKind}
use Rattle.pfs_event.specs.declared.kind.EventKind.TheVariants as events
use Rattle.pfs_rows.specs.declared.table.EventTable.TheVariants.{Current, History, HistoryLong}
use Rattle.pfs_rows.specs.declared.table.Table.TheVariants.{Events}
use Rattle.pfs_rows.specs.declared.table.TableKind.{TableKind}
use Rattle.pfs_rows.specs.declared.table.TableKind.TheVariants as kinds
use Rattle.pfs_rows.specs.Tables.{kind_number}
use Rattle.pfs_readsets.specs.TablePlaces.{has_ring, has_long}
use Rattle.pfs_admin.specs.Truncations.{current_first, current_count, event_signs, free_ring, free_rows, free_threads}
use Rattle.pfs_model.specs.Causes.{long_row}
use Rattle.pfs_model.specs.Rings.{ring_number, current_row, history_row}
use Rattle.pfs_rings.specs.RingPlaces.{depths}

-- the kind of event that a table's kind is
abbrev pub event_kind : TableKind → EventKind
event_kind kinds.Waits = events.Wait
event_kind kinds.Stages = events.Stage
event_kind kinds.Statements = events.Statement
event_kind kinds.Transactions = events.Transaction

-- so many places from this one on
abbrev pub is_from : ℕ → ℕ → ℕ → Bool
is_from first count place = nat_le first place && nat_lt place (first + count)

-- a kind's current places: as many as there are depths; an event of that depth is put to that place; a table shows just
-- these; and a TRUNCATE frees just these of each live thread
pub record HasCurrents (kind : TableKind) : Type 0 where
  pub count : current_count kind ≡ depths (event_kind kind)
  pub put : (slot depth : ℕ) → depth < current_count kind
      → current_row slot (event_kind kind) depth ≡ 8450 + 56 * slot + (current_first kind + depth)
  pub shown : (place : ℕ) → has_ring (Events kind Current) place ≡ is_from (current_first kind) (current_count kind) place
  pub freed : (there : ℕ → Bool)
      → event_signs there kind Current ≡ free_threads there (current_first kind) (current_count kind)

-- the ten places of its histories
pub record HasHistories (kind : TableKind) : Type 0 where
  pub number : ring_number (event_kind kind) ≡ kind_number kind
  pub put : (slot turn : ℕ)
      → history_row slot (kind_number kind) turn ≡ 8450 + 56 * slot + (16 + 10 * kind_number kind + turn % 10)
  pub within : (turn : ℕ) → turn % 10 < 10
  pub shown : (place : ℕ) → has_ring (Events kind History) place ≡ is_from (16 + 10 * kind_number kind) 10 place
  pub freed : (there : ℕ → Bool)
      → event_signs there kind History ≡ free_threads there (16 + 10 * kind_number kind) 10

-- the thousand places of its long history, whoever is there
pub record HasLongs (kind : TableKind) : Type 0 where
  pub put : (ticket : ℕ) → long_row (kind_number kind) ticket ≡ 10242 + 1000 * kind_number kind + ticket % 1000
  pub within : (ticket : ℕ) → ticket % 1000 < 1000
  pub shown : has_long (Events kind HistoryLong) (kind_number kind) ≡ true
  pub freed : (there : ℕ → Bool) → event_signs there kind HistoryLong ≡ free_rows (10242 + 1000 * kind_number kind) 1000

-- some table of events shows the place
abbrev pub is_shown_by : TableKind → ℕ → Bool
is_shown_by kind place = has_ring (Events kind Current) place || has_ring (Events kind History) place

abbrev pub is_shown : ℕ → Bool
is_shown place = is_shown_by kinds.Waits place || is_shown_by kinds.Stages place || is_shown_by kinds.Statements place
    || is_shown_by kinds.Transactions place

-- of each kind; and a quit frees the 56 places of its thread's ring, each of which some table shows
pub record LayoutLaw : Type 0 where
  pub currents : (kind : TableKind) → HasCurrents kind
  pub histories : (kind : TableKind) → HasHistories kind
  pub longs : (kind : TableKind) → HasLongs kind
  pub quit : (slot : ℕ) → free_ring slot ≡ free_rows (8450 + 56 * slot) 56
  pub all : list_all is_shown (range_with_len 0 56) ≡ true
