-- The laws over all journals.
use Rattle.std.specs.Prelude.{◌≡◌, ℕ, ◌≤◌, ◌==◌, ◌&&◌, nat_lt, Bool, true, List, [], ◌∷◌, length, fold, filter, count_by}
use Rattle.pfs_stat.specs.declared.Stat.{Stat}
use Rattle.pfs_stat.specs.declared.Measure.{Measure}
use Rattle.pfs_stat.specs.Stat.{Fits, zero_of, stat_of, merge_of}
use Rattle.pfs_conservation.specs.RowChains.{Sums, with_event, content, found_by}
use Rattle.pfs_conservation.specs.Removals.{removal}
use Rattle.pfs_conservation.specs.ActionMoves.{moves_of}
use Rattle.pfs_conservation.specs.PlaceFolds.{Global}
use Rattle.pfs_conservation.specs.AdministrationFold.{Action, numbered, state_after}
use Rattle.pfs_conservation.specs.CellHolders.{Numbering, IsNumbering, holder_of, takes_by, Limits, AreLimits, opened_by}
use Rattle.pfs_conservation.specs.KindSummaries.{Key, KeyAll, home_cell, AreLow, Whose, home_at, shown_in, leads_at, covers_to}
use Rattle.pfs_conservation.specs.KindFacts.{IsListing, HasSlot}
use Rattle.pfs_conservation.specs.PrintedChanges.{Tagged, chain_of, AreAdded}
use Rattle.pfs_conservation.specs.Prints.{AreActed}
use Rattle.pfs_conservation.specs.Conservation.{counts_after, Journals, IsEvent, AreKept, IsSummary, IsConserved, IsDiscarded, takes_of, last_of}

abbrev pub stats : (ℕ → Measure) → Sums Stat
stats measures = record { nothing = zero_of; merge = merge_of; of_event = λ event. stat_of (measures event) }

-- whatever the interleaving, what a summary row shows is the merge of the events that count there
abbrev pub Conserved : Type 0
Conserved =
    (measures : ℕ → Measure) → ((event : ℕ) → Fits (stat_of (measures event)))
    → (journals : Journals Stat) → AreKept (stats measures) (λ stat. stat.count) journals
    → (shown covers : List ℕ) (path : ℕ → List ℕ) (leads : ℕ → Bool) → IsSummary journals shown covers path leads
    → IsConserved (stats measures) journals shown covers leads

-- every event is shown by the global row or was discarded by one take of its cell
abbrev pub Discarded : Type 0
Discarded =
    (measures : ℕ → Measure) → ((event : ℕ) → Fits (stat_of (measures event)))
    → (journals : Journals Stat) → AreKept (stats measures) (λ stat. stat.count) journals
    → (shown covers : List ℕ) (path : ℕ → List ℕ) (global : ℕ) → IsSummary journals shown covers path (λ event. true)
    → ((event : ℕ) → IsEvent journals event → last_of (journals.home event) (path event) ≡ global)
    → IsDiscarded (stats measures) journals shown global

-- For the printed lines of one kind that keep their rules: what the rows of a key show after the last action is the
-- merge of the events that lead to the key, but for those with a covering action at or after their removal.
abbrev pub Reported : Type 0
Reported =
    (measures : ℕ → Measure) → ((event : ℕ) → Fits (stat_of (measures event)))
    → (n : Numbering) → IsNumbering n → (rows : List ℕ) → IsListing n rows → (limits : Limits) → AreLimits limits
    → (actions : List Action) (kind : ℕ) (events : List ℕ) (lines : List Tagged) (whose : ℕ → Whose)
    → AreActed (λ action row. nat_lt 0 (found_by (stats measures) (chain_of lines) 4 action row).count)
    (λ action. moves_of (holder_of n (opened_by limits) (numbered actions))
    (takes_by n (opened_by limits) (numbered actions) kind) action rows) (length actions) lines
    → AreAdded n (opened_by limits) actions events lines whose
    → (key : Key) (cells : List ℕ) → AreLow n cells → ((cell : ℕ) → count_by (λ c. c == cell) cells ≤ 1)
    → ((event : ℕ) → 1 ≤ count_by (λ e. event == e) events → HasSlot key (whose event))
    → fold (λ sum row. merge_of sum
    (content (stats measures) (found_by (stats measures) (chain_of lines) 4) (chain_of lines row))) zero_of
    (shown_in n key cells (state_after (opened_by limits) (numbered actions) (length actions)))
    ≡ fold (with_event (stats measures)) zero_of (filter (λ event. leads_at key cells (whose event)
    && counts_after (removal event (chain_of lines (home_at n (whose event))))
    (covers_to kind key (opened_by limits) (numbered actions) (length actions))) events)

-- For the same lines: what the rows of the global key show of a cell after the last action, and what the takes of the
-- cell's global row found, put together, are the events of the cell.
abbrev pub ReportedDiscarded : Type 0
ReportedDiscarded =
    (measures : ℕ → Measure) → ((event : ℕ) → Fits (stat_of (measures event)))
    → (n : Numbering) → IsNumbering n → (rows : List ℕ) → IsListing n rows → (limits : Limits) → AreLimits limits
    → (actions : List Action) (kind : ℕ) (events : List ℕ) (lines : List Tagged) (whose : ℕ → Whose)
    → AreActed (λ action row. nat_lt 0 (found_by (stats measures) (chain_of lines) 4 action row).count)
    (λ action. moves_of (holder_of n (opened_by limits) (numbered actions))
    (takes_by n (opened_by limits) (numbered actions) kind) action rows) (length actions) lines
    → AreAdded n (opened_by limits) actions events lines whose
    → (cell : ℕ) → n.is_cell cell ≡ true
    → fold (λ sum action. merge_of sum (found_by (stats measures) (chain_of lines) 4 action (n.row cell Global)))
    (fold (λ sum row. merge_of sum
    (content (stats measures) (found_by (stats measures) (chain_of lines) 4) (chain_of lines row))) zero_of
    (shown_in n KeyAll (cell ∷ []) (state_after (opened_by limits) (numbered actions) (length actions))))
    (takes_of (chain_of lines (n.row cell Global)))
    ≡ fold (with_event (stats measures)) zero_of (filter (λ event. home_cell (whose event) == cell) events)
