-- What the readings of rows found.
use Rattle.std.specs.Prelude.{ℕ, ◌==◌, Bool, true, false, List, map, reverse, find, option_and_then, slice_index_or, ◌+◌, Option, Some, None}
use Rattle.std.specs.List.{range_with_len}
use Rattle.std.specs.Option.{option_map}
use Rattle.pfs_rows.specs.declared.table.Seen.{Seen}
use Rattle.pfs_rows.specs.declared.table.Seen.TheVariants.{Whole, Free, Busy}
use Rattle.pfs_rows.specs.declared.table.Reading.{Reading}
use Rattle.pfs_rows.specs.declared.table.Reading.TheVariants.{Slot, Word}
use Rattle.pfs_containers.specs.declared.infos.ThreadInfo.{ThreadInfo}
use Rattle.pfs_containers.specs.declared.infos.AccountInfo.{AccountInfo}
use Rattle.pfs_containers.specs.declared.infos.NameInfo.{NameInfo}
use Rattle.pfs_containers.specs.InfoWords.{thread_of, account_of, name_of}

-- the content of a row that was found whole
abbrev pub whole_of : Seen → Option (List ℕ)
whole_of (Whole version content) = Some content
whole_of (Free word) = None
whole_of (Busy first second) = None

abbrev pub is_busy : Seen → Bool
is_busy (Busy first second) = true
is_busy (Whole version content) = false
is_busy (Free word) = false

-- a reading of this row
abbrev pub is_reading_of : ℕ → Reading → Bool
is_reading_of row (Slot other seen) = other == row
is_reading_of row (Word word version flags) = false

abbrev pub content_in : Reading → Option (List ℕ)
content_in (Slot row seen) = whole_of seen
content_in (Word word version flags) = None

abbrev pub found_busy : Reading → Bool
found_busy (Slot row seen) = is_busy seen
found_busy (Word word version flags) = false

-- the content that the last reading of a row found, where it found it whole
abbrev pub content_at : List Reading → ℕ → Option (List ℕ)
content_at readings row = option_and_then content_in (find (is_reading_of row) (reverse readings))

-- the contents of so many rows from the first on
abbrev pub contents_of : ℕ → ℕ → List Reading → List (Option (List ℕ))
contents_of first count readings = map (content_at readings) (range_with_len first count)

-- the contents of the rows 0 to 128, among them every info row: 1 to 32 are the threads', 33 to 64 the accounts', 65
-- to 96 the users', 97 to 128 the hosts'
abbrev pub infos_of : List Reading → List (Option (List ℕ))
infos_of readings = contents_of 0 129 readings

abbrev pub info_at : List (Option (List ℕ)) → ℕ → Option (List ℕ)
info_at infos row = slice_index_or infos row None

-- what the info of a thread, an account, a user or a host says, by its place
abbrev pub thread_at : List (Option (List ℕ)) → ℕ → Option ThreadInfo
thread_at infos thread = option_map thread_of (info_at infos (1 + thread))

abbrev pub account_at : List (Option (List ℕ)) → ℕ → Option AccountInfo
account_at infos account = option_map account_of (info_at infos (33 + account))

abbrev pub user_at : List (Option (List ℕ)) → ℕ → Option NameInfo
user_at infos user = option_map name_of (info_at infos (65 + user))

abbrev pub host_at : List (Option (List ℕ)) → ℕ → Option NameInfo
host_at infos host = option_map name_of (info_at infos (97 + host))
