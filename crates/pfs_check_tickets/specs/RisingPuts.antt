-- The tickets of rows by their versions, and the releases of rows.
use Rattle.std.specs.Prelude.{ℕ, ◌≡◌, ◌<◌, ◌≤◌, ◌⊎◌, ◌==◌, nat_lt, Bool, true, ◌&&◌, List, Option, Some, None}
use Rattle.std.specs.BTreeSet.{BTreeSet, contains}
use Rattle.std.specs.declared.cmp.Ordering.{Ordering}
use Rattle.std.specs.Ordering.{nat_cmp, ordering_then}
use Rattle.pfs_event.specs.declared.entry.Entry.{Entry}
use Rattle.pfs_event.specs.declared.entry.Entry.TheVariants as says
use Rattle.pfs_model.specs.declared.changes.Change.{Change}
use Rattle.pfs_model.specs.Chains.{each_of, is_that, release_of, times}
use Rattle.pfs_model.specs.EntryPlaces.{Placed}
use Rattle.pfs_model.specs.Rings.{Ticketed, is_released_between, ticketed_at}
use Rattle.pfs_check_tickets.specs.declared.rising.LongTickets.{LongTickets}
use Rattle.pfs_check_tickets.specs.declared.rising.RowPut.{RowPut}

abbrev pub put_cmp : RowPut → RowPut → Ordering
put_cmp one other =
    ordering_then (nat_cmp one.row other.row)
    (ordering_then (nat_cmp one.version other.version) (nat_cmp one.ticket other.ticket))

abbrev pub is_same_put : RowPut → RowPut → Bool
is_same_put one other =
    (one.row == other.row) && ((one.version == other.version) && (one.ticket == other.ticket))

abbrev pub change_cmp : Change → Change → Ordering
change_cmp one other = ordering_then (nat_cmp one.row other.row) (nat_cmp one.version other.version)

abbrev pub row_put : ℕ → ℕ → ℕ → RowPut
row_put row version ticket = record { row = row; version = version; ticket = ticket }

-- as the model says it
abbrev pub ticketed_of : RowPut → Ticketed
ticketed_of put = record { row = put.row; version = put.version; ticket = put.ticket }

abbrev pub is_put : RowPut → Ticketed → Bool
is_put put other = (put.row == other.row) && ((put.version == other.version) && (put.ticket == other.ticket))

-- the tickets that entries put, and the releases of rows
abbrev pub ArePutsOf : List Placed → BTreeSet RowPut → Type 0
ArePutsOf places puts = (put : RowPut)
    → contains put_cmp puts put ≡ nat_lt 0 (times (is_put put) (each_of ticketed_at places))

abbrev pub AreFreedOf : List Placed → BTreeSet Change → Type 0
AreFreedOf places releases = (release : Change)
    → contains change_cmp releases release ≡ nat_lt 0 (times (is_that release) (each_of release_of places))

pub record AreTicketsOf (places : List Placed) (tickets : LongTickets) : Type 0 where
  pub puts : ArePutsOf places tickets.puts
  pub releases : AreFreedOf places tickets.releases

-- one that stands there below a version of its row
pub record IsBelow (puts : BTreeSet RowPut) (row version : ℕ) (put : RowPut) : Type 0 where
  pub there : contains put_cmp puts put ≡ true
  pub row_is : put.row ≡ row
  pub lower : put.version < version

-- and none that does is behind it, by version and then by ticket
pub record IsNextBelow (puts : BTreeSet RowPut) (row version : ℕ) (put : RowPut) : Type 0 where
  pub below : IsBelow puts row version put
  pub last : (other : RowPut) → IsBelow puts row version other
      → (other.version < put.version) ⊎ ((other.version ≡ put.version) × (other.ticket ≤ put.ticket))

abbrev pub IsLastBelow : BTreeSet RowPut → ℕ → ℕ → Option RowPut → Type 0
IsLastBelow puts row version None = (other : RowPut) → IsBelow puts row version other → ⊥
IsLastBelow puts row version (Some put) = IsNextBelow puts row version put

-- the row was released from one version on, below another
abbrev pub HasRelease : BTreeSet Change → ℕ → ℕ → ℕ → Type 0
HasRelease releases row low high =
    (version : ℕ) × (low ≤ version) × (version < high)
    × (contains change_cmp releases (record { row = row; version = version }) ≡ true)

-- the ticket is above those at the last version there, unless the row was released since
abbrev pub RisesAfter : LongTickets → RowPut → Type 0
RisesAfter tickets put = (last : RowPut) → IsBelow tickets.puts put.row put.version last
    → ((other : RowPut) → IsBelow tickets.puts put.row put.version other → other.version ≤ last.version)
    → (HasRelease tickets.releases put.row last.version put.version → ⊥) → last.ticket < put.ticket

-- the ticket that an entry puts
abbrev pub put_in : Entry → Option RowPut
put_in (says.Long row version ticket) = Some (row_put row version ticket)
put_in _ = None
