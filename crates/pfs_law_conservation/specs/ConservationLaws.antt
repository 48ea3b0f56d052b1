-- From a run's journals to the conservation law, step by step, of each kind and at each phase's end.
use Rattle.std.specs.Prelude.{ℕ, ◌≡◌, ◌≤◌, ◌<◌, ◌^◌, ◌==◌, true, List, [], ◌∷◌, length, fold, count_by}
use Rattle.pfs_conservation.specs.RowChains.{Taken, with_event, content}
use Rattle.pfs_conservation.specs.PrintedChanges.{chain_of, Stands, AreAdded}
use Rattle.pfs_conservation.specs.Prints.{AreActed}
use Rattle.pfs_conservation.specs.CellHolders.{opened_by}
use Rattle.pfs_conservation.specs.KindSummaries.{Key, KeyAll, AreLow, shown_in}
use Rattle.pfs_model.specs.Chains.{Each}
use Rattle.pfs_model.specs.EntryPlaces.{Placed}
use Rattle.pfs_rows.specs.Rows.{row_number}
use Rattle.pfs_rows.specs.declared.place.Place.TheVariants.{GlobalCell}
use Rattle.pfs_rows.specs.declared.table.TableKind.{TableKind}
use Rattle.pfs_stat.specs.Stat.{zero_of, merge_of}
use Rattle.pfs_law_conservation.specs.RunActions.{moves_at, places_behind}
use Rattle.pfs_law_conservation.specs.KindRows.{limits_of, is_kind_row, cells_of}
use Rattle.pfs_law_conservation.specs.RunEvents.{events_in}
use Rattle.pfs_law_conservation.specs.Premises.{AreKept, IsOrderly, AreInRange}
use Rattle.pfs_law_conservation.specs.RunTerms.{Run, entries_to, actions_to, rows_by, lines_to, events_to, sums_to, whose_to, found_to, kept_to, stands_to, found_takes, IsCleared, counted_to, IsKeyOf}

-- the lines of a kind are acted: chained, in the order of the actions, by one session each, rising along sessions; and
-- each action prints just its moves
abbrev pub ActedLaw : Type 0
ActedLaw = (run : Run) (kind : TableKind) (phase : ℕ) → AreKept run
    → AreActed run.counted (moves_at run.setting kind (actions_to run phase)) (length (actions_to run phase))
    (lines_to run kind phase)

-- each event of the kind is added once, at its home, between its session's connect and quit
abbrev pub AddedLaw : Type 0
AddedLaw = (run : Run) (kind : TableKind) (phase : ℕ) → AreKept run → IsOrderly run
    → length (events_to run kind phase) < 2 ^ 64
    → AreAdded (rows_by run kind) (opened_by (limits_of run.setting)) (actions_to run phase)
    (events_to run kind phase) (lines_to run kind phase) (whose_to run phase)

-- what the lines make of a row is what stands there
abbrev pub ContentLaw : Type 0
ContentLaw = (run : Run) (kind : TableKind) (phase : ℕ) → AreKept run
    → (row : ℕ) → is_kind_row (cells_of run.setting kind) row ≡ true
    → content (sums_to run phase) (found_to run kind phase) (chain_of (lines_to run kind phase) row)
    ≡ stands_to run phase row

-- a take found something counted just where it does so by the lines
abbrev pub FoundLaw : Type 0
FoundLaw = (run : Run) (kind : TableKind) (phase : ℕ) → AreKept run
    → (action row version : ℕ) → Stands (lines_to run kind phase) row version (Taken action)
    → run.counted action row ≡ kept_to run kind phase action row

-- what the rows of a key show under a phase's end is what counts for it
abbrev pub SummedLaw : Type 0
SummedLaw = (run : Run) (kind : TableKind) (phase : ℕ) → AreKept run → IsOrderly run → AreInRange run.facts
    → length (events_to run kind phase) < 2 ^ 64
    → (key : Key) → IsKeyOf run key → (cells : List ℕ) → AreLow (rows_by run kind) cells
    → ((cell : ℕ) → count_by (λ c. c == cell) cells ≤ 1)
    → fold (λ sum row. merge_of sum (stands_to run phase row)) zero_of
    (shown_in (rows_by run kind) key cells (places_behind run.setting (actions_to run phase)))
    ≡ counted_to run kind phase key cells

-- what the rows of the global key show of a cell under a phase's end, and what the printed takes of the cell's global
-- row found, put together, are the events of the cell that were let through and have ended
abbrev pub DiscardedLaw : Type 0
DiscardedLaw = (run : Run) (kind : TableKind) (phase : ℕ) → AreKept run → IsOrderly run → AreInRange run.facts
    → length (events_to run kind phase) < 2 ^ 64
    → (cell : ℕ) → cells_of run.setting kind cell ≡ true
    → fold merge_of
    (fold (λ sum row. merge_of sum (stands_to run phase row)) zero_of
    (shown_in (rows_by run kind) KeyAll (cell ∷ []) (places_behind run.setting (actions_to run phase))))
    (found_takes run phase (row_number (GlobalCell cell)))
    ≡ fold (with_event (sums_to run phase)) zero_of (events_in (λ c. c == cell) (entries_to run phase))

-- the takes of a cell's global row are those of TRUNCATEs of the kind's global summary: no other action discards
abbrev pub ClearedLaw : Type 0
ClearedLaw = (run : Run) (kind : TableKind) (phase : ℕ) → AreKept run
    → (cell : ℕ) → cells_of run.setting kind cell ≡ true
    → Each (λ (place : Placed). IsCleared run kind phase (row_number (GlobalCell cell)) place place.entry)
    (entries_to run phase)
