-- What a session does at a text of SQL beside its changes: it tells of it, and reads rows and words.
use Rattle.std.specs.Prelude.{ℕ, List, [], ◌∷◌}
use Rattle.pfs_event.specs.declared.entry.Entry.{Entry}
use Rattle.pfs_event.specs.declared.entry.Entry.TheVariants as says
use Rattle.pfs_levels.specs.Calls.{Call}
use Rattle.pfs_reader.specs.Readings.{call_of}
use Rattle.pfs_rows.specs.declared.table.Reading.{Reading}
use Rattle.pfs_rows.specs.declared.table.Reading.TheVariants as readings
use Rattle.pfs_rows.specs.declared.table.Seen.{Seen}
use Rattle.pfs_rows.specs.declared.table.Seen.TheVariants as seen
use Rattle.pfs_session.specs.declared.remarks.Remark.{Remark}
use Rattle.pfs_session.specs.declared.remarks.Remark.TheVariants as remarks

pub data Inquiry : Type 0 where
  Looks : Reading → Inquiry
  Remarks : Remark → Inquiry

-- what was found of a row: a content at a version, that it is free, or two words of it that differ or are another's
abbrev pub seen_entry : ℕ → Seen → Entry
seen_entry row (seen.Whole version content) = says.Seen row version
seen_entry row (seen.Free word) = says.Vacant row
seen_entry row (seen.Busy first second) = says.Busy row first second

abbrev pub reading_entry : Reading → Entry
reading_entry (readings.Slot row found) = seen_entry row found
reading_entry (readings.Word word version flags) = says.Saw word version

abbrev pub remark_entry : Remark → Entry
remark_entry remarks.Query = says.Query
remark_entry (remarks.Rows count) = says.Rows count
remark_entry (remarks.Refused error) = says.Error error

abbrev pub inquiry_calls : Inquiry → List Call
inquiry_calls (Looks reading) = call_of reading ∷ []
inquiry_calls (Remarks remark) = []

abbrev pub inquiry_entry : Inquiry → Entry
inquiry_entry (Looks reading) = reading_entry reading
inquiry_entry (Remarks remark) = remark_entry remark
