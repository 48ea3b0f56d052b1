-- What earlier puts of the long histories showed.
use Rattle.std.specs.Prelude.{ℕ, ◌≡◌, ◌+◌, ◌-◌, ◌/◌, ◌==◌, max, nat_le, nat_lt, Bool, true, false, ◌&&◌, not, cond, List, [], ◌∷◌, Option, Some, None, unwrap_or}
use Rattle.std.specs.BTreeMap.{BTreeMap, get}
use Rattle.std.specs.BTreeSet.{BTreeSet, contains}
use Rattle.std.specs.declared.cmp.Ordering.{Ordering}
use Rattle.std.specs.Ordering.{nat_cmp, ordering_then}
use Rattle.pfs_model.specs.Causes.{kind_of_row, long_row}
use Rattle.pfs_model.specs.Chains.{times}
use Rattle.pfs_model.specs.EntryPlaces.{Placed, by_session, in_phase}
use Rattle.pfs_model.specs.Rings.{LongPut, long_puts, tickets_shown}
use Rattle.pfs_check_tickets.specs.declared.counting.KindCounts.{KindCounts}
use Rattle.pfs_check_tickets.specs.declared.showing.PhaseRow.{PhaseRow}
use Rattle.pfs_check_tickets.specs.declared.showing.PhaseTicket.{PhaseTicket}
use Rattle.pfs_check_tickets.specs.declared.showing.SessionKind.{SessionKind}
use Rattle.pfs_check_tickets.specs.declared.showing.ShownPuts.{ShownPuts}

abbrev pub row_cmp : PhaseRow → PhaseRow → Ordering
row_cmp one other = ordering_then (nat_cmp one.phase other.phase) (nat_cmp one.row other.row)

abbrev pub is_same_row : PhaseRow → PhaseRow → Bool
is_same_row one other = (one.phase == other.phase) && (one.row == other.row)

abbrev pub shown_cmp : PhaseTicket → PhaseTicket → Ordering
shown_cmp one other =
    ordering_then (nat_cmp one.phase other.phase)
    (ordering_then (nat_cmp one.kind other.kind) (nat_cmp one.ticket other.ticket))

abbrev pub is_same_shown : PhaseTicket → PhaseTicket → Bool
is_same_shown one other =
    (one.phase == other.phase) && ((one.kind == other.kind) && (one.ticket == other.ticket))

abbrev pub session_cmp : SessionKind → SessionKind → Ordering
session_cmp one other =
    ordering_then (nat_cmp one.phase other.phase)
    (ordering_then (nat_cmp one.session other.session) (nat_cmp one.kind other.kind))

abbrev pub is_same_session : SessionKind → SessionKind → Bool
is_same_session one other =
    (one.phase == other.phase) && ((one.session == other.session) && (one.kind == other.kind))

-- how many puts a row has in a phase
abbrev pub rows_put : PhaseRow → List Placed → ℕ
rows_put key places =
    times (λ (put : LongPut). put.row == key.row) (long_puts (kind_of_row key.row) (in_phase key.phase places))

-- the tickets of a kind that a phase shows, and those of a session
abbrev pub shows_ticket : PhaseTicket → List Placed → Bool
shows_ticket key places =
    nat_lt 0 (times (λ other. other == key.ticket) (tickets_shown (long_puts key.kind (in_phase key.phase places))))

abbrev pub session_tickets : SessionKind → List Placed → List ℕ
session_tickets key places =
    tickets_shown (long_puts key.kind (by_session key.session (in_phase key.phase places)))

abbrev pub greater_of : ℕ → Option ℕ → ℕ
greater_of ticket None = ticket
greater_of ticket (Some other) = max ticket other

abbrev pub greatest_of : List ℕ → Option ℕ
greatest_of [] = None
greatest_of (ticket ∷ tickets) = Some (greater_of ticket (greatest_of tickets))

-- above all of them
abbrev pub is_above : Option ℕ → ℕ → Bool
is_above None ticket = true
is_above (Some greatest) ticket = nat_lt greatest ticket

abbrev pub row_count : BTreeMap PhaseRow ℕ → PhaseRow → ℕ
row_count rows key = unwrap_or (get row_cmp rows key) 0

pub record AreShown (earlier : List Placed) (shown : ShownPuts) : Type 0 where
  pub rows : (key : PhaseRow) → row_count shown.rows key ≡ rows_put key earlier
  pub tickets : (key : PhaseTicket) → contains shown_cmp shown.tickets key ≡ shows_ticket key earlier
  pub sessions : (key : SessionKind) → get session_cmp shown.sessions key ≡ greatest_of (session_tickets key earlier)

-- how many of the tickets below a number belong to a row that stands so far behind the first of its kind
abbrev pub tickets_below : ℕ → ℕ → ℕ
tickets_below place number = (number + 999 - place) / 1000

-- a ticket among so many behind so many, which was not shown and is above those of the session
abbrev pub ticket_test : ℕ → ℕ → Bool → Option ℕ → ℕ → Bool
ticket_test before puts shown greatest ticket =
    nat_le before ticket && (nat_lt ticket (before + puts) && (not shown && is_above greatest ticket))

-- and belongs to its row, by what was shown so far
abbrev pub due_test : ShownPuts → ℕ → ℕ → KindCounts → ℕ → ℕ → Bool
due_test shown phase session counts row ticket =
    (row == long_row (kind_of_row row) ticket)
    && ticket_test counts.before counts.puts
    (contains shown_cmp shown.tickets (record { phase = phase; kind = kind_of_row row; ticket = ticket }))
    (get session_cmp shown.sessions (record { phase = phase; session = session; kind = kind_of_row row })) ticket
