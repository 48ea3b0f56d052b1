-- What readings of a plain store find.
use Rattle.std.specs.Prelude.{◌≡◌, ◌*◌, ℕ, if◌then◌else◌, List}
use Rattle.pfs_rows.specs.declared.table.Reading.{Reading}
use Rattle.pfs_rows.specs.declared.table.Reading.TheVariants as readings
use Rattle.pfs_rows.specs.declared.table.Seen.{Seen}
use Rattle.pfs_rows.specs.declared.table.Seen.TheVariants.{Whole, Free}
use Rattle.pfs_levels.specs.Calls.{Call}
use Rattle.pfs_levels.specs.JointCalls.{changes_of, count, flags_at, sets_of, word_version}
use Rattle.pfs_levels.specs.PlainStore.{content_at, ops_of, slot_after}

-- what stands in a row after these calls: its last version with the content there, or that it is free. Lock words are
-- four times the version
abbrev pub seen_after : List Call → ℕ → Seen
seen_after calls row =
    let version = count (changes_of calls) row in
    if (slot_after (ops_of calls) row).allocated
    then Whole version (content_at (ops_of calls) row version)
    else Free (4 * version)

-- a reading finds what these calls left: a row as it stands, or a word at its last version
abbrev pub IsFound : List ℕ → List Call → Reading → Type 0
IsFound flags calls (readings.Slot row seen) = seen ≡ seen_after calls row
IsFound flags calls (readings.Word word version found) =
    (version ≡ word_version (sets_of calls) word) × (found ≡ flags_at flags (sets_of calls) word version)
