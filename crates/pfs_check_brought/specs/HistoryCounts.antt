-- How many puts to its histories each session has written.
use Rattle.std.specs.Prelude.{ℕ, ◌≡◌, ◌==◌, Bool, false, ◌&&◌, List, length, Option, Some, None, unwrap_or}
use Rattle.std.specs.BTreeMap.{BTreeMap, get}
use Rattle.std.specs.declared.cmp.Ordering.{Ordering}
use Rattle.std.specs.Ordering.{nat_cmp, ordering_then}
use Rattle.pfs_model.specs.EntryPlaces.{Placed, by_session}
use Rattle.pfs_model.specs.Rings.{history_puts, is_history_row}
use Rattle.pfs_check_brought.specs.declared.histories.HistoryKey.{HistoryKey}
use Rattle.pfs_check_brought.specs.declared.histories.HistoryCounts.{HistoryCounts}

abbrev pub history_cmp : HistoryKey → HistoryKey → Ordering
history_cmp one other =
    ordering_then (nat_cmp one.session other.session)
    (ordering_then (nat_cmp one.slot other.slot) (nat_cmp one.kind other.kind))

abbrev pub is_same_history : HistoryKey → HistoryKey → Bool
is_same_history one other =
    (one.session == other.session) && ((one.slot == other.slot) && (one.kind == other.kind))

abbrev pub history_at : ℕ → ℕ → ℕ → HistoryKey
history_at session slot kind = record { session = session; slot = slot; kind = kind }

abbrev pub history_count : BTreeMap HistoryKey ℕ → HistoryKey → ℕ
history_count counts key = unwrap_or (get history_cmp counts key) 0

-- so many stand among these entries
abbrev pub written : HistoryKey → List Placed → ℕ
written key earlier = length (history_puts key.slot key.kind (by_session key.session earlier))

abbrev pub AreHistories : List Placed → HistoryCounts → Type 0
AreHistories earlier histories = (key : HistoryKey) → history_count histories.counts key ≡ written key earlier

-- In the history of this kind, and of no other, a row stands in a slot; or in none.
abbrev pub IsHistoryKind : ℕ → ℕ → Option ℕ → Type 0
IsHistoryKind slot row None = (other : ℕ) → is_history_row slot other row ≡ false
IsHistoryKind slot row (Some kind) = (other : ℕ) → is_history_row slot other row ≡ (kind == other)
