-- The rules of where an event is brought, and of tickets.
use Rattle.std.specs.Prelude.{ℕ, zero, suc, ◌≡◌, ◌↔◌, ◌+◌, ◌<◌, ◌≤◌, ◌⊎◌, ◌==◌, true, false, List, [], ◌∷◌, length, Some}
use Rattle.pfs_event.specs.declared.entry.Entry.{Entry}
use Rattle.pfs_event.specs.declared.entry.Entry.TheVariants as says
use Rattle.pfs_journal.specs.declared.report.ReportParts.{ReportParts}
use Rattle.pfs_model.specs.Actions.{IsAmong}
use Rattle.pfs_model.specs.Causes.{kind_of_row}
use Rattle.pfs_model.specs.Chains.{Each, each_of, release_of, times}
use Rattle.pfs_model.specs.Contexts.{noted, subject_of}
use Rattle.pfs_model.specs.EntryPlaces.{Placed, before_phase, by_session, in_phase, up_to_phase}
use Rattle.pfs_model.specs.Puts.{Due, behind_it, dues_at_end, dues_at_start, is_paid}
use Rattle.pfs_model.specs.Rings.{AreTickets, IsAtOwn, LongPut, LongRises, Ticketed, is_released_between, long_put, long_puts, ticketed_at, tickets_of_row, tickets_shown}
use Rattle.pfs_check_faults.specs.EntryFaults.{EventCauseAt}
use Rattle.pfs_check_faults.specs.ReportCases.{AllHave, LacksOn, StandsOn}

-- the entry of this place isn't the one that is due there: it is another, there is none, or none is due any more
abbrev pub IsUnpaid : List Due → List Entry → ℕ → Type 0
IsUnpaid [] [] at = ⊥
IsUnpaid [] (entry ∷ entries) zero = Unit {0}
IsUnpaid [] (entry ∷ entries) (suc at) = ⊥
IsUnpaid (due ∷ dues) [] zero = Unit {0}
IsUnpaid (due ∷ dues) [] (suc at) = ⊥
IsUnpaid (due ∷ dues) (entry ∷ entries) zero = is_paid due entry ≡ true → ⊥
IsUnpaid (due ∷ dues) (entry ∷ entries) (suc at) = (is_paid due entry ≡ true) × IsUnpaid dues entries at

-- of what stands behind a start or an end
abbrev pub IsUnbrought : (ℕ → ℕ → ℕ) → List Placed → Placed → Entry → List Entry → ℕ → Type 0
IsUnbrought flags earlier place (says.Start event verdict consumers thread class table) behind at =
    IsUnpaid (dues_at_start flags place.context.slot (noted (subject_of place.line) place.context place.entry).opened)
    behind at
IsUnbrought flags earlier place (says.End event last consumers thread) behind at =
    IsUnpaid (dues_at_end flags earlier place place.context.opened consumers thread) behind at
IsUnbrought flags earlier place entry behind at = ⊥

-- so of the event of the entry at a place, counted from 0
abbrev pub UnbroughtAt : (ℕ → ℕ → ℕ) → List Placed → List Placed → ℕ → ℕ → Type 0
UnbroughtAt flags earlier [] event at = ⊥
UnbroughtAt flags earlier (place ∷ places) zero at = IsUnbrought flags earlier place place.entry (behind_it places) at
UnbroughtAt flags earlier (place ∷ places) (suc event) at = UnbroughtAt flags (place ∷ earlier) places event at

-- What belongs to an event stands on the lines right behind its start or its end. On this one it isn't what is due, or
-- it is missing.
pub record BringsFail (report : ReportParts) (flags : ℕ → ℕ → ℕ) (all : List Placed) (line : ℕ) : Type 0 where
  pub event : ℕ
  pub begins : ℕ
  pub at : ℕ
  pub begins_is : StandsOn report event begins
  pub line_is : line ≡ begins + 1 + at
  pub wrong : UnbroughtAt flags [] all event at

-- the ticket that is shown: of its place, among those that are drawn in the phase, on no earlier line of the phase, and
-- above those that the session showed there
pub record IsTicket (all earlier : List Placed) (place : Placed) (kind ticket : ℕ) : Type 0 where
  pub low : length (long_puts kind (before_phase place.phase all)) ≤ ticket
  pub high : ticket < length (long_puts kind (up_to_phase place.phase all))
  pub once : times (λ other. other == ticket) (tickets_shown (long_puts kind (in_phase place.phase earlier))) ≡ 0
  pub rises : Each (λ other. other < ticket)
      (tickets_shown (long_puts kind (by_session place.session (in_phase place.phase earlier))))

-- A put of the long history: its ticket is at its own place and is one, and with it the place has no more puts in the
-- phase than tickets.
pub record IsTicketed (all earlier : List Placed) (place : Placed) (put : LongPut) : Type 0 where
  pub own : IsAtOwn (kind_of_row put.row) put
  pub shown : (ticket : ℕ) → put.ticket ≡ Some ticket → IsTicket all earlier place (kind_of_row put.row) ticket
  pub placed : times (λ (other : LongPut). other.row == put.row)
      (long_puts (kind_of_row put.row) (in_phase place.phase earlier))
      < tickets_of_row (kind_of_row put.row) put.row
      (length (long_puts (kind_of_row put.row) (before_phase place.phase all)))
      (length (long_puts (kind_of_row put.row) (in_phase place.phase all)))

abbrev pub TicketsAt : List Placed → List Placed → Placed → Type 0
TicketsAt all earlier place =
    Each (λ (put : LongPut). kind_of_row put.row < 4 → IsTicketed all earlier place put)
    (long_put place.line place.entry)

-- Of the puts of a row one comes right before another by version, with no release between.
pub record IsPutBefore (all : List Placed) (first next : Ticketed) : Type 0 where
  pub there : IsAmong first (each_of ticketed_at all)
  pub row : first.row ≡ next.row
  pub lower : first.version < next.version
  pub none : (other : Ticketed) → IsAmong other (each_of ticketed_at all) → other.row ≡ next.row
      → first.version < other.version → other.version < next.version → ⊥
  pub unreleased : is_released_between (each_of release_of all) first.row first.version next.version ≡ false

-- its ticket is above that one's
abbrev pub LongRisesAt : List Placed → List Placed → Placed → Type 0
LongRisesAt all earlier place =
    Each (λ next. (first : Ticketed) → IsPutBefore all first next → first.ticket < next.ticket)
    (ticketed_at place.entry)

-- what the ninth rule asks of one entry
pub record RingsAt (all earlier : List Placed) (place : Placed) : Type 0 where
  pub ticketed : TicketsAt all earlier place
  pub rises : LongRisesAt all earlier place
  pub caused : EventCauseAt all earlier place

-- The ninth rule fails on a line.
abbrev pub RingsFail : ReportParts → (ℕ → ℕ → ℕ) → List Placed → ℕ → Type 0
RingsFail report flags all line = LacksOn report (RingsAt all) all line ⊎ BringsFail report flags all line

abbrev pub TicketLaw : Type 0
TicketLaw = (all : List Placed)
    → ((phase kind : ℕ) → kind < 4 → AreTickets all phase kind) ↔ AllHave (TicketsAt all) [] all

abbrev pub LongRisesLaw : Type 0
LongRisesLaw = (all : List Placed) → LongRises all ↔ AllHave (LongRisesAt all) [] all
