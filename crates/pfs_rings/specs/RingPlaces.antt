-- The places where an event is written.
use Rattle.std.specs.Prelude.{ℕ, ◌≡◌, ◌<◌, ◌≤◌, ◌+◌, ◌*◌, Option, Some, None}
use Rattle.pfs_event.specs.declared.kind.EventKind.{EventKind}
use Rattle.pfs_event.specs.declared.kind.EventKind.TheVariants.{Wait, Stage, Statement, Transaction}
use Rattle.pfs_model.specs.Rings.{ring_number, current_row, history_row}
use Rattle.pfs_rings.specs.declared.rings.Ring.{Ring}
use Rattle.pfs_rings.specs.declared.rings.Ring.TheVariants.{Current, History, Long}

-- how many current places a kind has: waits lie in one another four deep, statements ten
abbrev pub depths : EventKind → ℕ
depths Wait = 4
depths Stage = 1
depths Statement = 10
depths Transaction = 1

-- of one of 32 threads, a place that its kind has
abbrev pub IsRing : Ring → Type 0
IsRing (Current thread kind depth) = (thread < 32) × (depth < depths kind)
IsRing (History thread kind place) = (thread < 32) × (place < 10)
IsRing (Long kind) = Unit {0}

-- the row of a thread's place. In the long history the row is that of a ticket
abbrev pub row_of : Ring → Option ℕ
row_of (Current thread kind depth) = Some (current_row thread kind depth)
row_of (History thread kind place) = Some (history_row thread (ring_number kind) place)
row_of (Long kind) = None

-- how many tickets a put draws
abbrev pub tickets_for : Ring → ℕ
tickets_for (Current thread kind depth) = 0
tickets_for (History thread kind place) = 0
tickets_for (Long kind) = 1

abbrev pub thread_of : Ring → Option ℕ
thread_of (Current thread kind depth) = Some thread
thread_of (History thread kind place) = Some thread
thread_of (Long kind) = None

-- the places of a thread lie among 56 rows of its own
abbrev pub WithinLaw : Type 0
WithinLaw = (ring : Ring) (row thread : ℕ) → IsRing ring → row_of ring ≡ Some row → thread_of ring ≡ Some thread
    → (8450 + 56 * thread ≤ row) × (row < 8450 + 56 * (thread + 1))

-- no row is two places of threads
abbrev pub ApartLaw : Type 0
ApartLaw = (one other : Ring) (row : ℕ) → IsRing one → IsRing other → row_of one ≡ Some row → row_of other ≡ Some row
    → one ≡ other
