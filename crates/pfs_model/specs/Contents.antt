-- What stands in a row at a version: each change makes its content of the one before.
use Rattle.std.specs.Prelude.{ℕ, ◌≡◌, ◌+◌, ◌*◌, ◌-◌, ◌==◌, ◌&&◌, not, nat_lt, nat_le, Bool, true, false, cond, List, [], ◌∷◌, map, fold, replicate, Option, Some, None}
use Rattle.pfs_stat.specs.declared.Stat.{Stat}
use Rattle.pfs_stat.specs.declared.Measure.{Measure}
use Rattle.pfs_stat.specs.Stat.{zero_of, stat_of, merge_of, words_of, stat_of_words}
use Rattle.pfs_event.specs.declared.entry.Entry.{Entry}
use Rattle.pfs_event.specs.declared.entry.Entry.TheVariants as says
use Rattle.pfs_event.specs.declared.kind.EventKind.{EventKind}
use Rattle.pfs_event.specs.declared.kind.EventKind.TheVariants as kinds
use Rattle.pfs_event.specs.EventForm.{bit_of}
use Rattle.pfs_event.specs.NestingKinds.{nesting_number}
use Rattle.pfs_model.specs.declared.lines.Opened.{Opened}
use Rattle.pfs_model.specs.Contexts.{Context, brought}
use Rattle.pfs_model.specs.EventNumbers.{nesting_of}
use Rattle.pfs_model.specs.EntryPlaces.{Placed}
use Rattle.pfs_model.specs.SetupFlags.{is_timed, is_digested}

-- What the script says of an event: the session's clock at its start, its duration in picoseconds, and a statement's
-- six numbers.
pub record Facts : Type 0 where
  pub start : ℕ
  pub duration : ℕ
  pub lock : ℕ
  pub errors : ℕ
  pub warnings : ℕ
  pub affected : ℕ
  pub sent : ℕ
  pub examined : ℕ

-- what an ended event adds
abbrev pub measure_of : Bool → Facts → Measure
measure_of timed facts = record {
  timed = timed;
  wait = facts.duration;
  lock = facts.lock;
  errors = facts.errors;
  warnings = facts.warnings;
  affected = facts.affected;
  sent = facts.sent;
  examined = facts.examined;
}

-- what an event of a session adds when it ends: timed by the flags that its start saw, with the script's facts of the
-- session's events, by their position among its starts. `slots` has the printed slot of each session
abbrev pub amount_by : (ℕ → ℕ → ℕ) → (ℕ → Option ℕ) → (ℕ → ℕ → Facts) → ℕ → Opened → Stat
amount_by flags slots facts session event =
    stat_of (measure_of (is_timed flags (slots session) event) (facts session event.index))

-- a number, or 0 where there is none; and one more than it
abbrev pub or_zero : Option ℕ → ℕ
or_zero None = 0
or_zero (Some number) = number

abbrev pub plus_one : Option ℕ → ℕ
plus_one None = 0
plus_one (Some number) = number + 1

-- what an event is linked to: its table, for a wait of one, or its digest's place, for a digested statement that has
-- one
abbrev pub link_of : Bool → Opened → ℕ
link_of true event = plus_one event.subject.digest
link_of false event = plus_one event.subject.table

-- a READ ONLY transaction: it counts in the last of the 64 cells
abbrev pub is_read_only : EventKind → ℕ → Bool
is_read_only kinds.Transaction cell = cell == 63
is_read_only kinds.Wait cell = false
is_read_only kinds.Stage cell = false
is_read_only kinds.Statement cell = false

-- the event that one lies in: the number of its kind, 0 without one, and its EVENT_ID
abbrev pub nesting_type : Option Opened → ℕ
nesting_type None = 0
nesting_type (Some event) = nesting_number event.subject.kind

abbrev pub nesting_id : Option Opened → ℕ
nesting_id None = 0
nesting_id (Some event) = or_zero event.number

-- an event as a put finds it: the event, those open around it, and its END_EVENT_ID where it has ended
pub record Written : Type 0 where
  pub event : Opened
  pub around : List Opened
  pub last : Option ℕ

-- a number that an event has only once it has ended
abbrev pub if_ended : Option ℕ → ℕ → ℕ
if_ended None number = 0
if_ended (Some last) number = number

-- the words: of a session, by the flags that the event's start saw in this slot, the script's facts of it, and the
-- ticket of a put of the long history
abbrev pub words_at : (ℕ → ℕ → ℕ) → ℕ → Option ℕ → Facts → Option ℕ → Written → List ℕ
words_at flags session slot facts ticket written =
    session ∷ or_zero written.event.number ∷ or_zero written.last
    ∷ (or_zero written.event.subject.class + 64 * link_of (is_digested flags slot written.event) written.event)
    ∷ (bit_of (is_timed flags slot written.event)
    + 2 * bit_of (is_read_only written.event.subject.kind written.event.subject.cell)
    + 4 * nesting_type (nesting_of written.around))
    ∷ 0
    ∷ nesting_id (nesting_of written.around)
    ∷ facts.start
    ∷ if_ended written.last facts.duration
    ∷ if_ended written.last facts.lock
    ∷ if_ended written.last facts.errors
    ∷ if_ended written.last facts.warnings
    ∷ if_ended written.last facts.affected
    ∷ if_ended written.last facts.sent
    ∷ if_ended written.last facts.examined
    ∷ plus_one ticket
    ∷ []

-- what a put writes: the event that has just ended, or else the innermost open one, which has just started
abbrev pub written_of : Option Opened → List Opened → ℕ → Option Written
written_of (Some event) others drawn = Some (record { event = event; around = others; last = Some drawn })
written_of None (event ∷ others) drawn = Some (record { event = event; around = others; last = None })
written_of None [] drawn = None

abbrev pub written_at : Context → Option Written
written_at context = written_of context.ended context.opened context.drawn

-- What contents go by beside the printed entries: the flags of the switch words' versions, the printed slot of each
-- session, the script's facts of a session's events by their position among its starts, and the words of an info row
-- behind an action.
pub record Given : Type 0 where
  pub flags : ℕ → ℕ → ℕ
  pub slots : ℕ → Option ℕ
  pub facts : ℕ → ℕ → Facts
  pub info_words : ℕ → ℕ → List ℕ

-- what an event of a session adds
abbrev pub amount_of : Given → ℕ → Opened → Stat
amount_of given session event = amount_by given.flags given.slots given.facts session event

-- the words that a put leaves; `ticket` is that of a put of the long history
abbrev pub words_written : Given → ℕ → Option ℕ → Option ℕ → Option Written → List ℕ
words_written given session slot ticket None = []
words_written given session slot ticket (Some written) =
    words_at given.flags session slot (given.facts session written.event.index) ticket written

abbrev pub event_at : Given → Placed → Context → Option ℕ → List ℕ
event_at given place context ticket = words_written given place.session context.slot ticket (written_at context)

abbrev pub merged : Stat → List Stat → Stat
merged here amounts = fold merge_of here amounts

-- the content behind a change of a row that had this before it
abbrev pub content_after : Given → (ℕ → ℕ → List ℕ) → Placed → Context → List ℕ → Entry → List ℕ
content_after given content place context here (says.Add row version) =
    words_of (merged (stat_of_words here) (map (amount_of given place.session) (brought context row)))
content_after given content place context here (says.Take row version) = words_of zero_of
content_after given content place context here (says.Give row version from) =
    words_of (merge_of (stat_of_words here) (stat_of_words (content from (context.source_version - 1))))
content_after given content place context here (says.Tag row version) = given.info_words context.action row
content_after given content place context here (says.Ring row version) = event_at given place context None
content_after given content place context here (says.Long row version ticket) =
    event_at given place context (Some ticket)
content_after given content place context here entry = here

-- a content that is made of the one before
abbrev pub IsNext : (ℕ → ℕ → List ℕ) → (List ℕ → List ℕ) → ℕ → ℕ → Type 0
IsNext content make row version =
    (before : ℕ) × (version ≡ before + 1) × (content row version ≡ make (content row before))

abbrev pub IsContent : Given → (ℕ → ℕ → List ℕ) → Placed → Entry → Type 0
IsContent given content place (says.Add row version) =
    IsNext content (λ here. content_after given content place place.context here place.entry) row version
IsContent given content place (says.Take row version) =
    IsNext content (λ here. content_after given content place place.context here place.entry) row version
IsContent given content place (says.Give row version from) =
    (place.context.source ≡ Some from)
    × IsNext content (λ here. content_after given content place place.context here place.entry) row version
IsContent given content place (says.Tag row version) =
    IsNext content (λ here. content_after given content place place.context here place.entry) row version
IsContent given content place (says.Ring row version) =
    IsNext content (λ here. content_after given content place place.context here place.entry) row version
IsContent given content place (says.Long row version ticket) =
    IsNext content (λ here. content_after given content place place.context here place.entry) row version
IsContent given content place entry = Unit {0}

abbrev pub AllContents : Given → (ℕ → ℕ → List ℕ) → List Placed → Type 0
AllContents given content [] = Unit {0}
AllContents given content (place ∷ places) =
    IsContent given content place place.entry × AllContents given content places

-- a take found an event where the content before it has counted one
abbrev pub IsFoundAsCounted : (ℕ → ℕ → List ℕ) → (ℕ → ℕ → Bool) → ℕ → Entry → Type 0
IsFoundAsCounted content counted action (says.Take row version) =
    counted action row ≡ not ((stat_of_words (content row (version - 1))).count == 0)
IsFoundAsCounted content counted action entry = Unit {0}

abbrev pub AreFoundAsCounted : (ℕ → ℕ → List ℕ) → (ℕ → ℕ → Bool) → List Placed → Type 0
AreFoundAsCounted content counted [] = Unit {0}
AreFoundAsCounted content counted (place ∷ places) =
    IsFoundAsCounted content counted place.context.action place.entry × AreFoundAsCounted content counted places

-- what a row holds at first: a cell and a digest row count nothing, any other row is all zeros
abbrev pub opening_words : ℕ → List ℕ
opening_words row = cond (nat_le 129 row && nat_lt row 8450) (words_of zero_of) (replicate 16 0)

-- the contents of all rows at all versions: each as its change makes it
pub record AreContents (given : Given) (content : ℕ → ℕ → List ℕ) (all : List Placed) : Type 0 where
  pub opens : (row : ℕ) → content row 0 ≡ opening_words row
  pub made : AllContents given content all
