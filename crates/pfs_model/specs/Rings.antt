-- What the rings keep: the history of a session, the long history by tickets, and the current places.
use Rattle.std.specs.Prelude.{ℕ, zero, suc, ◌≡◌, ◌+◌, ◌*◌, ◌-◌, ◌%◌, ◌<◌, ◌≤◌, ◌==◌, nat_lt, nat_le, Bool, true, false, ◌&&◌, not, cond, List, [], ◌∷◌, ◌++◌, length, drop, filter, Option, Some, None}
use Rattle.pfs_event.specs.declared.entry.Entry.{Entry}
use Rattle.pfs_event.specs.declared.entry.Entry.TheVariants as says
use Rattle.pfs_model.specs.declared.changes.Change.{Change}
use Rattle.pfs_model.specs.declared.lines.Line.{Line}
use Rattle.pfs_model.specs.declared.lines.Line.TheVariants as lines
use Rattle.pfs_model.specs.EntryPlaces.{Placed, by_session, before_phase, up_to_phase, in_phase}
use Rattle.pfs_event.specs.declared.kind.EventKind.{EventKind}
use Rattle.pfs_event.specs.declared.kind.EventKind.TheVariants as kinds
use Rattle.pfs_model.specs.declared.lines.Opened.{Opened}
use Rattle.pfs_model.specs.SetupFlags.{is_wait, is_statement, open_through}
use Rattle.pfs_model.specs.Shapes.{is_stage}
use Rattle.pfs_model.specs.Chains.{Each, times, change_at, row_change, release_of, each_of, is_of, is_free_after}
use Rattle.pfs_model.specs.Actions.{IsAmong}
use Rattle.pfs_model.specs.Causes.{long_row, kind_of_row}

-- the numbers of the kinds among the rings
abbrev pub ring_number : EventKind → ℕ
ring_number kinds.Wait = 0
ring_number kinds.Stage = 1
ring_number kinds.Statement = 2
ring_number kinds.Transaction = 3

-- the kinds: 0 waits, 1 stages, 2 statements, 3 transactions; the history of a kind has ten places of its thread's ring
abbrev pub history_row : ℕ → ℕ → ℕ → ℕ
history_row slot kind put = 8450 + 56 * slot + 16 + 10 * kind + put % 10

abbrev pub is_history_row : ℕ → ℕ → ℕ → Bool
is_history_row slot kind row =
    nat_le (8450 + 56 * slot + 16 + 10 * kind) row && nat_lt row (8450 + 56 * slot + 26 + 10 * kind)

abbrev pub history_put : ℕ → ℕ → Option ℕ → Entry → List Change
history_put slot kind (Some own) (says.Ring row version) =
    cond ((own == slot) && is_history_row slot kind row) (change_at row version ∷ []) []
history_put slot kind own entry = []

-- the successful history puts of a kind by the session in this slot, from the first on
abbrev pub history_puts : ℕ → ℕ → List Placed → List Change
history_puts slot kind [] = []
history_puts slot kind (place ∷ places) =
    history_put slot kind place.context.slot place.entry ++ history_puts slot kind places

-- no release of the row stands at this version or above
abbrev pub is_kept : List Change → Change → Bool
is_kept releases put = times (λ release. (release.row == put.row) && nat_le put.version release.version) releases == 0

-- a session's history of a kind: of its last ten puts those that no later release of their row removed
abbrev pub history_of : List Placed → ℕ → ℕ → ℕ → List Change
history_of all session slot kind =
    let puts = history_puts slot kind (by_session session all) in
    filter (is_kept (each_of release_of all)) (drop (length puts - 10) puts)

-- a put of the long history, as it is printed: its row, and its ticket where that is shown
pub record LongPut : Type 0 where
  pub row : ℕ
  pub ticket : Option ℕ

abbrev pub is_reading_line : Line → Bool
is_reading_line lines.Query = true
is_reading_line _ = false

abbrev pub long_put : Line → Entry → List LongPut
long_put line (says.Long row version ticket) = record { row = row; ticket = Some ticket } ∷ []
long_put line (says.Late row ticket greater) = record { row = row; ticket = Some ticket } ∷ []
long_put line (says.Busy row first second) =
    cond (not (is_reading_line line) && nat_le 10242 row) (record { row = row; ticket = None } ∷ []) []
long_put line entry = []

abbrev pub long_puts : ℕ → List Placed → List LongPut
long_puts kind [] = []
long_puts kind (place ∷ places) =
    filter (λ put. kind_of_row put.row == kind) (long_put place.line place.entry) ++ long_puts kind places

abbrev pub ticket_shown : Option ℕ → List ℕ
ticket_shown None = []
ticket_shown (Some ticket) = ticket ∷ []

abbrev pub tickets_shown : List LongPut → List ℕ
tickets_shown [] = []
tickets_shown (put ∷ puts) = ticket_shown put.ticket ++ tickets_shown puts

-- how many of the tickets from this one on, so many, belong to a row
abbrev pub tickets_of_row : ℕ → ℕ → ℕ → ℕ → ℕ
tickets_of_row kind row from zero = 0
tickets_of_row kind row from (suc more) =
    cond (long_row kind (from + more) == row) 1 0 + tickets_of_row kind row from more

-- tickets that rise
abbrev pub AreRisingTickets : List ℕ → Type 0
AreRisingTickets [] = Unit {0}
AreRisingTickets (ticket ∷ []) = Unit {0}
AreRisingTickets (ticket ∷ (next ∷ tickets)) = (ticket < next) × AreRisingTickets (next ∷ tickets)

-- a ticket that is shown stands at its own place
abbrev pub IsAtOwn : ℕ → LongPut → Type 0
IsAtOwn kind put = (ticket : ℕ) → put.ticket ≡ Some ticket → put.row ≡ long_row kind ticket

-- The tickets of a kind in a phase, where so many puts stood in the phases before: each place has as many put lines
-- as tickets, the tickets that are shown stand at their places, are different and among those drawn in the phase, and
-- rise along a session.
pub record AreTickets (all : List Placed) (phase kind : ℕ) : Type 0 where
  pub placed : (row : ℕ)
      → times (λ put. put.row == row) (long_puts kind (in_phase phase all))
      ≡ tickets_of_row kind row (length (long_puts kind (before_phase phase all)))
      (length (long_puts kind (in_phase phase all)))
  pub own : Each (IsAtOwn kind) (long_puts kind (in_phase phase all))
  pub once : (ticket : ℕ) → times (λ other. other == ticket) (tickets_shown (long_puts kind (in_phase phase all))) ≤ 1
  pub drawn : (ticket : ℕ) → IsAmong ticket (tickets_shown (long_puts kind (in_phase phase all)))
      → (length (long_puts kind (before_phase phase all)) ≤ ticket)
      × (ticket < length (long_puts kind (up_to_phase phase all)))
  pub rising : (session : ℕ)
      → AreRisingTickets (tickets_shown (long_puts kind (by_session session (in_phase phase all))))

-- a ticket at a row and a version
pub record Ticketed : Type 0 where
  pub row : ℕ
  pub version : ℕ
  pub ticket : ℕ

abbrev pub ticketed_at : Entry → List Ticketed
ticketed_at (says.Long row version ticket) = record { row = row; version = version; ticket = ticket } ∷ []
ticketed_at entry = []

abbrev pub is_released_between : List Change → ℕ → ℕ → ℕ → Bool
is_released_between releases row low high =
    not (times (λ release. (release.row == row) && nat_le low release.version && nat_lt release.version high) releases
    == 0)

-- Along a place of the long history the tickets rise with the versions, between two releases.
abbrev pub LongRises : List Placed → Type 0
LongRises all =
    (first next : Ticketed) → IsAmong first (each_of ticketed_at all) → IsAmong next (each_of ticketed_at all)
    → first.row ≡ next.row → first.version < next.version
    → is_released_between (each_of release_of all) first.row first.version next.version ≡ false
    → first.ticket < next.ticket

-- the current places of a thread's ring: four for waits by depth, one for stages, ten for statements by depth, one
-- for transactions
abbrev pub current_row : ℕ → EventKind → ℕ → ℕ
current_row slot kinds.Wait depth = 8450 + 56 * slot + depth
current_row slot kinds.Stage depth = 8450 + 56 * slot + 4
current_row slot kinds.Statement depth = 8450 + 56 * slot + 5 + depth
current_row slot kinds.Transaction depth = 8450 + 56 * slot + 15

abbrev pub has_kind : EventKind → EventKind → Bool
has_kind kinds.Wait kind = is_wait kind
has_kind kinds.Statement kind = is_statement kind
has_kind kinds.Stage kind = is_stage kind
has_kind kinds.Transaction kinds.Transaction = true
has_kind kinds.Transaction _ = false

-- the place of an event that starts: its depth is how many let-through events of its kind are open
abbrev pub place_of_start : ℕ → EventKind → List Opened → ℕ
place_of_start slot kind opened = current_row slot kind (open_through (has_kind kind) opened)

-- a place of a ring shows the event of its last put, at this version, unless it was released since
abbrev pub shown_at : List Placed → ℕ → Option ℕ
shown_at all row = cond (is_free_after all row) None (Some (times (is_of row) (each_of row_change all)))
