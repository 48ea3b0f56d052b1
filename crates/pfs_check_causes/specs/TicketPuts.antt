-- The puts of tickets to long histories.
use Rattle.std.specs.Prelude.{ℕ, ◌≡◌, ◌≤◌, ◌<◌, ◌==◌, max, nat_lt, nat_le, Bool, ◌&&◌, if◌then◌else◌, List, [], ◌∷◌, slice_get, Option, Some, None, Vec}
use Rattle.std.specs.BTreeMap.{BTreeMap, get}
use Rattle.std.specs.declared.alloc.Global.{Global}
use Rattle.std.specs.declared.cmp.Ordering.{Ordering}
use Rattle.std.specs.Ordering.{nat_cmp, ordering_then}
use Rattle.pfs_event.specs.declared.entry.Entry.{Entry}
use Rattle.pfs_event.specs.declared.entry.Entry.TheVariants as says
use Rattle.pfs_model.specs.EntryPlaces.{Placed}
use Rattle.pfs_check_causes.specs.declared.puts.PhasedTop.{PhasedTop}
use Rattle.pfs_check_causes.specs.declared.puts.RowTicket.{RowTicket}
use Rattle.pfs_check_causes.specs.declared.puts.TicketPut.{TicketPut}
use Rattle.pfs_check_causes.specs.declared.puts.TopPut.{TopPut}

abbrev pub ticket_cmp : RowTicket → RowTicket → Ordering
ticket_cmp one other = ordering_then (nat_cmp one.row other.row) (nat_cmp one.ticket other.ticket)

abbrev pub is_same_ticket : RowTicket → RowTicket → Bool
is_same_ticket one other = (one.row == other.row) && (one.ticket == other.ticket)

-- the put of a ticket that an entry is
abbrev pub put_of : Entry → Option TicketPut
put_of (says.Long row version ticket) = Some (record { key = record { row = row; ticket = ticket }; version = version })
put_of _ = None

-- its version, where it is of this row and ticket
abbrev pub version_at : RowTicket → Option TicketPut → Option ℕ
version_at key None = None
version_at key (Some put) = if is_same_ticket put.key key then Some put.version else None

abbrev pub put_version : RowTicket → Entry → Option ℕ
put_version key entry = version_at key (put_of entry)

abbrev pub greater_of : ℕ → Option ℕ → ℕ
greater_of version None = version
greater_of version (Some other) = max version other

-- one put more
abbrev pub next_top : Option TopPut → ℕ → ℕ → TopPut
next_top None session version = record { version = version; session = session; other = None }
next_top (Some top) session version =
    if top.session == session
    then record { version = max version top.version; session = session; other = top.other }
    else (if nat_lt top.version version
    then record { version = version; session = session; other = Some top.version }
    else record { version = top.version; session = top.session; other = Some (greater_of version top.other) })

-- the greatest version by the sessions but one
abbrev pub others_of : ℕ → Option TopPut → Option ℕ
others_of session None = None
others_of session (Some top) = if top.session == session then top.other else Some top.version

-- the tops of a ticket's puts, one after another
abbrev pub tops_more : Option ℕ → Option TopPut → Placed → (Option TopPut → List PhasedTop) → List PhasedTop
tops_more None before place rest = rest before
tops_more (Some version) before place rest =
    record { phase = place.phase; top = next_top before place.session version }
    ∷ rest (Some (next_top before place.session version))

unfoldable pub tops_from : RowTicket → Option TopPut → List Placed → List PhasedTop
tops_from key before [] = []
tops_from key before (place ∷ places) =
    tops_more (put_version key place.entry) before place (λ top. tops_from key top places)

abbrev pub last_top : Option TopPut → List PhasedTop → Option TopPut
last_top before [] = before
last_top before (top ∷ tops) = last_top (Some top.top) tops

-- the last one up to a phase
abbrev pub pick : Option TopPut → ℕ → List PhasedTop → Option TopPut
pick before phase [] = before
pick before phase (top ∷ tops) = if nat_le top.phase phase then pick (Some top.top) phase tops else before

abbrev pub items_or : Option (Vec PhasedTop Global) → List PhasedTop
items_or None = []
items_or (Some tops) = tops.items

abbrev pub tops_at : BTreeMap RowTicket (Vec PhasedTop Global) → RowTicket → List PhasedTop
tops_at puts key = items_or (get ticket_cmp puts key)

abbrev pub ArePuts : List Placed → BTreeMap RowTicket (Vec PhasedTop Global) → Type 0
ArePuts places puts = (key : RowTicket) → tops_at puts key ≡ tops_from key None places

-- the phases never fall, from this one on
abbrev pub NeverFallFrom : ℕ → List Placed → Type 0
NeverFallFrom phase [] = Unit {0}
NeverFallFrom phase (place ∷ places) = (phase ≤ place.phase) × NeverFallFrom place.phase places

abbrev pub ArePhased : List PhasedTop → Type 0
ArePhased tops = (i j : ℕ) (one other : PhasedTop) → i ≤ j → slice_get tops i ≡ Some one → slice_get tops j ≡ Some other
    → one.phase ≤ other.phase

-- those below a place are of phases up to this one, and those from a place on of later ones
pub record Parts (tops : List PhasedTop) (phase low high : ℕ) : Type 0 where
  pub below : (i : ℕ) (top : PhasedTop) → i < low → slice_get tops i ≡ Some top → top.phase ≤ phase
  pub above : (i : ℕ) (top : PhasedTop) → high ≤ i → slice_get tops i ≡ Some top → phase < top.phase
