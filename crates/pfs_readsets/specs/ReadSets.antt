-- The read set of a table: its rows, then its words, each list ascending.
use Rattle.std.specs.Prelude.{◌≡◌, ℕ, ◌+◌, Bool, true, false, ◌&&◌, ◌==◌, if◌then◌else◌, zero, suc, List, [], ◌∷◌, ◌++◌, length, map, Option, Some, None}
use Rattle.std.specs.List.{list_any}
use Rattle.pfs_rows.specs.declared.place.Place.{Place}
use Rattle.pfs_rows.specs.declared.table.Table.{Table}
use Rattle.pfs_rows.specs.declared.table.Reading.{Reading}
use Rattle.pfs_rows.specs.declared.table.Reading.TheVariants as readings
use Rattle.pfs_rows.specs.declared.table.Seen.{Seen}
use Rattle.pfs_rows.specs.declared.table.Seen.TheVariants.{Whole}
use Rattle.pfs_rows.specs.Rows.{place_at}
use Rattle.pfs_readsets.specs.declared.target.Target.{Target}
use Rattle.pfs_readsets.specs.declared.target.Target.TheVariants.{Row, Word}
use Rattle.pfs_readsets.specs.TablePlaces.{Scope, has_cell, reads, reads_word}

-- the target that a reading is of
abbrev pub target_of : Reading → Target
target_of (readings.Slot row seen) = Row row
target_of (readings.Word word version flags) = Word word

abbrev pub found_whole : Seen → Bool
found_whole (Whole version content) = true
found_whole _ = false

-- the reading found this row Whole
abbrev pub shows_whole : ℕ → Reading → Bool
shows_whole row (readings.Slot other seen) = (other == row) && found_whole seen
shows_whole row (readings.Word word version flags) = false

-- some reading found the row Whole
abbrev pub is_whole : List Reading → ℕ → Bool
is_whole readings row = list_any (shows_whole row) readings

abbrev pub on_place : (Place → Bool) → Option Place → Bool
on_place test None = false
on_place test (Some place) = test place

abbrev pub reads_row : Table → (ℕ → Bool) → ℕ → (ℕ → Bool) → ℕ → Bool
reads_row table cells digests whole row = on_place (reads table cells digests whole) (place_at row)

-- of so many numbers from one on those that pass, ascending
unfoldable pub passing : (ℕ → Bool) → ℕ → ℕ → List ℕ
passing test from zero = []
passing test from (suc count) = if test from then from ∷ passing test (from + 1) count
    else passing test (from + 1) count

-- the rows, and the words, that a SELECT on the table reads, where these rows were Whole
abbrev pub row_test : Scope → Table → List Reading → ℕ → Bool
row_test scope table readings = reads_row table (has_cell scope table) scope.digests (is_whole readings)

abbrev pub word_test : Scope → Table → List Reading → ℕ → Bool
word_test scope table readings = reads_word table (length scope.classes) (is_whole readings)

-- the read set given the readings so far: the rows of the board and then the switch words, each ascending
abbrev pub read_set : Scope → Table → List Reading → List Target
read_set scope table readings =
    map Row (passing (row_test scope table readings) 0 14242)
    ++ map Word (passing (word_test scope table readings) 0 160)

-- the readings are of exactly these targets, in their order
abbrev pub IsReadSet : Scope → Table → List Reading → Type 0
IsReadSet scope table readings = map target_of readings ≡ read_set scope table readings

-- the readings so far are of the first targets, and this is the next
abbrev pub IsNext : Scope → Table → List Reading → Target → Type 0
IsNext scope table readings target =
    (rest : List Target) × (read_set scope table readings ≡ map target_of readings ++ target ∷ rest)
