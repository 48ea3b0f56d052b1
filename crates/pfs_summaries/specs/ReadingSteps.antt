-- What one reading does to what was collected before it.
use Rattle.std.specs.Prelude.{ℕ, ◌≡◌, ◌<◌, ◌+◌, ◌-◌, ◌*◌, nat_le, nat_lt, true, false, if◌then◌else◌, List, length, slice_set, slice_index_or, Option, Some, None}
use Rattle.pfs_rows.specs.declared.place.Place.{Place}
use Rattle.pfs_rows.specs.declared.table.Seen.{Seen}
use Rattle.pfs_rows.specs.declared.table.Seen.TheVariants.{Whole, Free, Busy}
use Rattle.pfs_rows.specs.declared.table.Reading.{Reading}
use Rattle.pfs_rows.specs.declared.table.Reading.TheVariants.{Slot, Word}
use Rattle.pfs_rows.specs.declared.table.SummaryTable.{SummaryTable}
use Rattle.pfs_rows.specs.Rows.{place_at}
use Rattle.pfs_stat.specs.Stat.{zero_of, merge_of, stat_of_words}
use Rattle.pfs_summaries.specs.declared.tallies.Tally.{Tally}
use Rattle.pfs_summaries.specs.Cells.{key_of, cell_of, tally_of}
use Rattle.pfs_summaries.specs.FoundContents.{whole_of}

-- contents with what one more reading found. One past the last row isn't kept
abbrev pub with_reading : ℕ → Reading → List (Option (List ℕ)) → List (Option (List ℕ))
with_reading first (Slot row seen) contents =
    if nat_le first row then slice_set contents (row - first) (whole_of seen) else contents
with_reading first (Word word version flags) contents = contents

abbrev pub none_of : Tally
none_of = record { stat = zero_of; busy = false }

-- a tally with one more cell
abbrev pub added : Seen → Tally → Tally
added (Whole version content) tally = record { stat = merge_of tally.stat (stat_of_words content); busy = tally.busy }
added (Busy first second) tally = record { stat = tally.stat; busy = true }
added (Free word) tally = tally

-- tallies, 64 to a key, with one more cell
abbrev pub at_key : Seen → List Tally → ℕ → Option ℕ → List Tally
at_key seen tallies cell None = tallies
at_key seen tallies cell (Some key) =
    if nat_lt key 32 then slice_set tallies (64 * key + cell)
    (added seen (slice_index_or tallies (64 * key + cell) none_of)) else tallies

abbrev pub at_place : SummaryTable → List (Option (List ℕ)) → Seen → List Tally → Option Place → List Tally
at_place which infos seen tallies None = tallies
at_place which infos seen tallies (Some place) = at_key seen tallies (cell_of place) (key_of which infos place)

abbrev pub with_cell : SummaryTable → List (Option (List ℕ)) → Reading → List Tally → List Tally
with_cell which infos (Slot row seen) tallies = at_place which infos seen tallies (place_at row)
with_cell which infos (Word word version flags) tallies = tallies

-- the tally of a cell's number under a key
abbrev pub tally_in : List Tally → ℕ → ℕ → Tally
tally_in tallies key cell = slice_index_or tallies (64 * key + cell) none_of

-- these are the tallies of the readings
pub record AreTallies (which : SummaryTable) (infos : List (Option (List ℕ))) (readings : List Reading)
    (tallies : List Tally) : Type 0 where
  pub count : length tallies ≡ 2048
  pub each : (key cell : ℕ) → key < 32 → cell < 64 → tally_in tallies key cell ≡ tally_of which infos readings key cell
