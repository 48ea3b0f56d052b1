-- What a row of an event table shows of an event's words.
use Rattle.std.specs.Prelude.{ℕ, ◌+◌, ◌-◌, ◌/◌, ◌%◌, ◌^◌, Bool, ◌&&◌, ◌==◌, not, nat_le, if◌then◌else◌, List, [], ◌∷◌, ◌++◌, Option, Some, None, option_and_then, slice_get, slice_index, codes}
use Rattle.std.specs.Option.{option_map}
use Rattle.hex.specs.Hex.{encode_lower}
use Rattle.sha2.specs.Sha256.{sha256}
use Rattle.pfs_event.specs.declared.event.Event.{Event}
use Rattle.pfs_rows.specs.declared.table.TableKind.{TableKind}
use Rattle.pfs_rows.specs.declared.table.TableKind.TheVariants.{Waits, Stages, Statements, Transactions}
use Rattle.pfs_classes.specs.declared.classes.Class.{Class}
use Rattle.pfs_classes.specs.declared.setting.Setting.{Setting}
use Rattle.pfs_classes.specs.declared.setting.TableName.{TableName}
use Rattle.pfs_classes.specs.declared.setting.DigestText.{DigestText}
use Rattle.pfs_classes.specs.Registry.{class_at}
use Rattle.pfs_text.specs.declared.values.RowValue.{RowValue}
use Rattle.pfs_text.specs.declared.values.RowValue.TheVariants.{Null, Number, Text}

-- an event's numbers, one field for each
pub record Fields : Type 0 where
  pub session : ℕ
  pub number : ℕ
  pub last : ℕ
  pub class : ℕ
  pub link : ℕ
  pub nesting : ℕ
  pub parent : ℕ
  pub start : ℕ
  pub duration : ℕ
  pub lock : ℕ
  pub errors : ℕ
  pub warnings : ℕ
  pub affected : ℕ
  pub sent : ℕ
  pub examined : ℕ
  pub ticket : ℕ
  pub timed : Bool
  pub read_only : Bool

abbrev pub fields_of : Event → Fields
fields_of e = record {
  session = e.session;
  number = e.number;
  last = e.last;
  class = e.class;
  link = e.link;
  nesting = e.nesting;
  parent = e.parent;
  start = e.start;
  duration = e.duration;
  lock = e.lock;
  errors = e.errors;
  warnings = e.warnings;
  affected = e.affected;
  sent = e.sent;
  examined = e.examined;
  ticket = e.ticket;
  timed = e.timed;
  read_only = e.read_only;
}

-- words are an event's where the class is at most 62, the link at most 64, the nesting at most 4, and word 5 is 0
unfoldable pub are_event : List ℕ → Bool
are_event words =
    nat_le (slice_index words 3 % 64) 62
    && (nat_le (slice_index words 3 / 64) 64 && (nat_le (slice_index words 4 / 4) 4 && (slice_index words 5 == 0)))

unfoldable pub fields_in : List ℕ → Fields
fields_in words = record {
  session = slice_index words 0;
  number = slice_index words 1;
  last = slice_index words 2;
  class = slice_index words 3 % 64;
  link = slice_index words 3 / 64;
  nesting = slice_index words 4 / 4;
  parent = slice_index words 6;
  start = slice_index words 7;
  duration = slice_index words 8;
  lock = slice_index words 9;
  errors = slice_index words 10;
  warnings = slice_index words 11;
  affected = slice_index words 12;
  sent = slice_index words 13;
  examined = slice_index words 14;
  ticket = slice_index words 15;
  timed = slice_index words 4 % 2 == 1;
  read_only = slice_index words 4 / 2 % 2 == 1;
}

-- the event with these words, or none
abbrev pub event_in : List ℕ → Option Fields
event_in words = if are_event words then Some (fields_in words) else None

-- the name of the class with this id, where the setting has both
abbrev pub class_name : Setting → ℕ → Option (List ℕ)
class_name setting id =
    option_and_then (λ (class : Class). slice_get setting.names class.name) (class_at setting.classes id)

-- a value that only shows where the test is true
abbrev pub where_true : Bool → ℕ → RowValue
where_true test number = if test then Number number else Null

-- it has ended, so that the number of its end is not 0
abbrev pub has_ended : Fields → Bool
has_ended event = not (event.last == 0)

-- the kind of the event that it lies in
abbrev pub nesting_name : ℕ → RowValue
nesting_name nesting =
    if nesting == 1 then Text (codes "TRANSACTION") else
    if nesting == 2 then Text (codes "STATEMENT") else
    if nesting == 3 then Text (codes "STAGE") else
    if nesting == 4 then Text (codes "WAIT") else
    Null

-- what every event table shows: whose event it is and its numbers, its class, its times where they count and where it
-- has ended, and what it lies in
unfoldable pub event_head : Fields → List ℕ → List RowValue
event_head event name =
    Number event.session
    ∷ Number event.number
    ∷ where_true (has_ended event) event.last
    ∷ Text name
    ∷ where_true event.timed event.start
    ∷ where_true (event.timed && has_ended event) ((event.start + event.duration) % 2 ^ 64)
    ∷ where_true (event.timed && has_ended event) event.duration
    ∷ where_true (not (event.nesting == 0)) event.parent
    ∷ nesting_name event.nesting
    ∷ []

-- the table of a wait, or nothing where it is on none. A number that the setting doesn't have gives no row
abbrev pub table_values : TableName → List RowValue
table_values table = Text table.schema ∷ Text table.name ∷ []

unfoldable pub object_of : Setting → ℕ → Option (List RowValue)
object_of setting link = if link == 0 then Some (Null ∷ Null ∷ [])
    else option_map table_values (slice_get setting.tables (link - 1))

-- the SHA-256 of a statement's digest text in lower-case hexadecimal digits, or nothing where it has none
abbrev pub digest_values : DigestText → List RowValue
digest_values digest = Text (encode_lower (sha256 digest.text)) ∷ []

unfoldable pub digest_of : Setting → ℕ → Option (List RowValue)
digest_of setting link = if link == 0 then Some (Null ∷ [])
    else option_map digest_values (slice_get setting.digests (link - 1))

abbrev pub statement_values : Fields → List RowValue
statement_values event =
    Number event.lock ∷ Number event.errors ∷ Number event.warnings ∷ Number event.affected ∷ Number event.sent
    ∷ Number event.examined ∷ []

-- what the tables of a kind show beside
unfoldable pub event_tail : Setting → TableKind → Fields → Option (List RowValue)
event_tail setting Waits event = object_of setting event.link
event_tail setting Stages event = Some []
event_tail setting Statements event =
    option_map (λ digest. statement_values event ++ digest) (digest_of setting event.link)
event_tail setting Transactions event =
    Some (Text (if event.read_only then codes "READ ONLY" else codes "READ WRITE") ∷ [])

-- the row of an event, where the setting has all that it shows
abbrev pub named_values : Setting → TableKind → Fields → List ℕ → Option (List RowValue)
named_values setting kind event name =
    option_map (λ tail. event_head event name ++ tail) (event_tail setting kind event)

abbrev pub event_values : Setting → TableKind → Fields → Option (List RowValue)
event_values setting kind event = option_and_then (named_values setting kind event) (class_name setting event.class)
