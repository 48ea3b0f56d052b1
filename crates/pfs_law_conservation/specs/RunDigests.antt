-- The rows of a run's digests, as conservation goes by them: one action clears all of them together, and they give
-- nothing.
use Rattle.std.specs.Prelude.{ℕ, zero, suc, ◌≡◌, ◌≤◌, ◌<◌, ◌^◌, ◌==◌, ◌&&◌, cond, Bool, true, false, List, [], ◌∷◌, length, map, filter, fold, count_by, Option, Some, None}
use Rattle.pfs_admin.specs.declared.changes.Change.{Change}
use Rattle.pfs_admin.specs.declared.changes.Change.TheVariants as changes
use Rattle.pfs_board.specs.declared.view.Label.{Label}
use Rattle.pfs_classes.specs.declared.setting.Setting.{Setting}
use Rattle.pfs_conservation.specs.ActionMoves.{moves_of}
use Rattle.pfs_conservation.specs.RowChains.{with_event, content, found_by}
use Rattle.pfs_conservation.specs.Conservation.{counts_after}
use Rattle.pfs_conservation.specs.DigestClears.{held, clears}
use Rattle.pfs_conservation.specs.PrintedChanges.{Tagged, chain_of, AllOnce, times_added}
use Rattle.pfs_conservation.specs.Prints.{AreActed}
use Rattle.pfs_conservation.specs.Removals.{removal}
use Rattle.pfs_conservation.specs.KindSummaries.{those_to}
use Rattle.pfs_model.specs.EntryAsks.{digest_row}
use Rattle.pfs_model.specs.EntryPlaces.{Placed}
use Rattle.pfs_model.specs.SetupFlags.{is_digested}
use Rattle.pfs_model.specs.SummaryCounts.{is_digest_row}
use Rattle.pfs_runs.specs.Labels.{label_at}
use Rattle.pfs_stat.specs.Stat.{zero_of}
use Rattle.pfs_stat.specs.declared.Stat.{Stat}
use Rattle.pfs_rows.specs.declared.truncations.Truncation.TheVariants.{DigestSummary}
use Rattle.pfs_law_conservation.specs.RunActions.{labels_so_far}
use Rattle.pfs_law_conservation.specs.RunEvents.{Ended, number_of, all_ended, of_number}
use Rattle.pfs_law_conservation.specs.Premises.{AreKept, IsOrderly, AreInRange}
use Rattle.pfs_law_conservation.specs.RunTerms.{Run, entries_to, actions_to, sums_to, stands_to}
use Rattle.pfs_law_conservation.specs.KindLines.{all_lines, lines_on}

-- so many rows from this one on
abbrev pub rows_from : ℕ → ℕ → List ℕ
rows_from row zero = []
rows_from row (suc more) = row ∷ rows_from (suc row) more

-- the rows of a setting: that of the texts without a place, then one for each place
unfoldable pub digest_rows : Setting → List ℕ
digest_rows setting = rows_from 8385 (suc (length setting.digests))

-- the lines that change such rows: additions, and takes of those that clear the table
abbrev pub digest_lines : List Placed → List Tagged
digest_lines places = lines_on is_digest_row (all_lines places)

-- the numbers of the digested statements that have ended
abbrev pub is_of_digest : (ℕ → ℕ → ℕ) → Ended → Bool
is_of_digest flags one = is_digested flags one.context.slot one.event

abbrev pub digested_in : (ℕ → ℕ → ℕ) → List Placed → List ℕ
digested_in flags places = map number_of (filter (is_of_digest flags) (all_ended places))

-- the row that an event is counted in beside that of its cell
abbrev pub digest_home : Option Ended → ℕ
digest_home None = 0
digest_home (Some one) = digest_row one.event.subject.digest

-- the change clears the table
abbrev pub is_clearing : Change → Bool
is_clearing (changes.Truncate DigestSummary) = true
is_clearing _ = false

abbrev pub clears_by : (Label → Change) → Option Label → Bool
clears_by change None = false
clears_by change (Some label) = is_clearing (change label)

-- of a run up to a phase
abbrev pub digest_lines_to : Run → ℕ → List Tagged
digest_lines_to run phase = digest_lines (entries_to run phase)

abbrev pub digested_to : Run → ℕ → List ℕ
digested_to run phase = digested_in run.flags (entries_to run phase)

abbrev pub digest_home_to : Run → ℕ → ℕ → ℕ
digest_home_to run phase event = digest_home (of_number event (all_ended (entries_to run phase)))

abbrev pub clears_to : Run → ℕ → ℕ → Bool
clears_to run phase action = clears_by run.change (label_at (labels_so_far run.labels (entries_to run phase)) action)

abbrev pub digest_found_to : Run → ℕ → ℕ → ℕ → Stat
digest_found_to run phase = found_by (sums_to run phase) (chain_of (digest_lines_to run phase)) 1

-- the lines are acted: each action that clears the table takes each of its rows, in their order, and no other takes one
abbrev pub DigestActedLaw : Type 0
DigestActedLaw = (run : Run) (phase : ℕ) → AreKept run
    → AreActed run.counted
    (λ action. moves_of held (clears (clears_to run phase) (digest_rows run.setting)) action (digest_rows run.setting))
    (length (actions_to run phase)) (digest_lines_to run phase)

-- each digested statement is added once to the row of its digest, and to no other of these rows
pub record AreAddedOnce (run : Run) (phase : ℕ) : Type 0 where
  pub once : AllOnce (digested_to run phase) (digest_lines_to run phase)
  pub counted : (event : ℕ) → 1 ≤ count_by (λ e. event == e) (digested_to run phase) → (row : ℕ)
      → times_added event (digest_lines_to run phase) row ≡ cond (row == digest_home_to run phase event) 1 0
  pub known : (event : ℕ) → 1 ≤ count_by (λ e. event == e) (digested_to run phase)
      → 1 ≤ count_by (λ r. r == digest_home_to run phase event) (digest_rows run.setting)

abbrev pub DigestAddedLaw : Type 0
DigestAddedLaw = (run : Run) (phase : ℕ) → AreKept run → IsOrderly run → AreAddedOnce run phase

-- what the lines make of a row is what stands there
abbrev pub DigestContentLaw : Type 0
DigestContentLaw = (run : Run) (phase : ℕ) → AreKept run → (row : ℕ) → is_digest_row row ≡ true
    → content (sums_to run phase) (digest_found_to run phase) (chain_of (digest_lines_to run phase) row)
    ≡ stands_to run phase row

-- what stands in a row under a phase's end are the digested statements of its digest, but for those that a TRUNCATE of
-- the table took
abbrev pub digest_counts_to : Run → ℕ → ℕ → ℕ → Bool
digest_counts_to run phase row event =
    (digest_home_to run phase event == row)
    && counts_after (removal event (chain_of (digest_lines_to run phase) (digest_home_to run phase event)))
    (those_to (clears_to run phase) (length (actions_to run phase)))

abbrev pub DigestSummedLaw : Type 0
DigestSummedLaw = (run : Run) (phase : ℕ) → AreKept run → IsOrderly run → AreInRange run.facts
    → length (digested_to run phase) < 2 ^ 64 → (row : ℕ) → is_digest_row row ≡ true
    → stands_to run phase row
    ≡ fold (with_event (sums_to run phase)) zero_of
    (filter (digest_counts_to run phase row) (digested_to run phase))
