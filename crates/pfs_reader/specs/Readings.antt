-- What a reader asks of a store.
use Rattle.std.specs.Prelude.{◌≡◌, ℕ, ◌<◌, List, ◌++◌, map, reverse, Option, None}
use Rattle.pfs_rows.specs.declared.table.Table.{Table}
use Rattle.pfs_rows.specs.declared.table.Reading.{Reading}
use Rattle.pfs_rows.specs.declared.table.Reading.TheVariants as readings
use Rattle.pfs_levels.specs.Calls.{Call, Reads, Loads, IsRow}
use Rattle.pfs_readsets.specs.declared.read_set.ReadSet.{ReadSet}
use Rattle.pfs_readsets.specs.declared.target.Target.{Target}
use Rattle.pfs_readsets.specs.declared.target.Target.TheVariants as targets
use Rattle.pfs_readsets.specs.TablePlaces.{Scope}
use Rattle.pfs_readsets.specs.ReadSets.{read_set, target_of}
use Rattle.pfs_readsets.specs.ReadProgress.{Reached}

-- the call that a reading is
abbrev pub call_of : Reading → Call
call_of (readings.Slot row seen) = Reads row seen
call_of (readings.Word word version flags) = Loads word version flags

-- the calls of readings, the newest first
abbrev pub calls_of : List Reading → List Call
calls_of readings = reverse (map call_of readings)

-- what a store can be asked for: row 0 is no row to read
abbrev pub IsThere : Target → Type 0
IsThere (targets.Row row) = IsRow row
IsThere (targets.Word word) = word < 160

-- no row but row 0 is in hand
abbrev pub HoldsNone : (ℕ → Option ℕ) → Type 0
HoldsNone hand = (row : ℕ) → 0 < row → hand row ≡ None

-- the readings are of the first targets of a read set
abbrev pub IsFront : Scope → Table → List Reading → Type 0
IsFront scope table readings =
    (rest : List Target) × (read_set scope table readings ≡ map target_of readings ++ rest)

-- some readings brought the read set here
abbrev pub IsReading : ReadSet → Type 0
IsReading set = (scope : Scope) × (table : Table) × (readings : List Reading) × Reached set scope table readings
