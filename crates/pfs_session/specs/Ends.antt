-- What an event's end loads and adds, and what a session holds back.
use Rattle.std.specs.Prelude.{ℕ, ◌≡◌, ◌+◌, ◌-◌, ◌%◌, ◌^◌, Bool, true, false, if◌then◌else◌, List, [], ◌∷◌, ◌++◌, Option, Some, None, slice_set}
use Rattle.pfs_event.specs.Verdicts.{is_let_through}
use Rattle.pfs_event.specs.declared.entry.Entry.{Entry}
use Rattle.pfs_event.specs.declared.entry.Entry.TheVariants as says
use Rattle.pfs_event.specs.declared.kind.EventKind.{EventKind}
use Rattle.pfs_event.specs.declared.kind.EventKind.TheVariants as kinds
use Rattle.pfs_event.specs.declared.open.Open.{Open}
use Rattle.pfs_levels.specs.Calls.{Call, Opening, Adds, Loads, row_in}
use Rattle.pfs_levels.specs.Moves.{Did}
use Rattle.pfs_levels.specs.declared.answers.Added.{Added}
use Rattle.pfs_levels.specs.declared.answers.Added.TheVariants.{Counted, Held}
use Rattle.pfs_levels.specs.declared.answers.Word.{Word}
use Rattle.pfs_event.specs.declared.event.Event.{Event}
use Rattle.pfs_model.specs.SetupFlags.{thread_word, is_attributed, history_consumer, long_consumer}
use Rattle.pfs_rings.specs.declared.puts.Put.{Put}
use Rattle.pfs_rings.specs.declared.rings.Ring.TheVariants.{Current, History, Long}
use Rattle.pfs_stat.specs.Stat.{stat_of, merge_of}
use Rattle.pfs_stat.specs.declared.Stat.{Stat}
use Rattle.pfs_session.specs.EventPuts.{PutIf, StandInRings, put_entries, goes_on, depth_of, moved_by}
use Rattle.pfs_session.specs.SessionStates.{State, Book, held_row, held_at, next_of}
use Rattle.pfs_session.specs.declared.events.Numbers.{Numbers}
use Rattle.pfs_session.specs.declared.outcomes.Ended.{Ended}

abbrev pub no_numbers : Numbers
no_numbers = record { lock = 0; errors = 0; warnings = 0; affected = 0; sent = 0; examined = 0 }

-- the numbers of a statement, and of another event none
abbrev pub numbers_for : EventKind → Numbers → Numbers
numbers_for kinds.Statement numbers = numbers
numbers_for kinds.Wait numbers = no_numbers
numbers_for kinds.Stage numbers = no_numbers
numbers_for kinds.Transaction numbers = no_numbers

-- how long an event took that ends when the clock stands so, modulo 2^64
abbrev pub lasted : Open → ℕ → ℕ
lasted what clock = (clock + (2 ^ 64 - what.event.start)) % 2 ^ 64

-- what an open event adds when it ends at this clock
abbrev pub amount_of : Open → ℕ → Numbers → Stat
amount_of what clock numbers = stat_of (record {
  timed = what.event.timed;
  wait = lasted what clock;
  lock = (numbers_for what.kind numbers).lock;
  errors = (numbers_for what.kind numbers).errors;
  warnings = (numbers_for what.kind numbers).warnings;
  affected = (numbers_for what.kind numbers).affected;
  sent = (numbers_for what.kind numbers).sent;
  examined = (numbers_for what.kind numbers).examined;
})

-- the cell of a slot in which an open event counts: that of its class, and of a READ ONLY transaction the last one
abbrev pub cell_in : Open → ℕ
cell_in what = if what.event.read_only then 63 else what.event.class

-- the number of the cell: an attributed event counts in its thread's, another in the global one
abbrev pub cell_number : Open → ℕ
cell_number what = if is_attributed what.verdict then cell_in what else 64 + cell_in what

-- the number of the row of a digested statement: that of the texts without a place, then one for each place
abbrev pub digest_number : Open → ℕ
digest_number what = 128 + what.event.link

-- an amount behind what is held for its row
abbrev pub with_held : Option Stat → Stat → Stat
with_held None amount = amount
with_held (Some held) amount = merge_of held amount

-- what is held for the row once this was added, or wasn't
abbrev pub still_held : Stat → Added → Option Stat
still_held amount (Counted row version) = None
still_held amount (Held row first second) = Some amount

abbrev pub added_entry : Added → Entry
added_entry (Counted row version) = says.Add row version
added_entry (Held row first second) = says.Held row first second

abbrev pub added_entries : Option Added → List Entry
added_entries None = []
added_entries (Some added) = added_entry added ∷ []

-- an amount is added to a row, with all that is held for the row, or held with it
pub record AddsTo (s : State) (slot cell : ℕ) (amount : Stat) (calls : List Call) (entries : List Entry)
    (after : State) : Type 0 where
  pub answer : Added
  pub row_is : row_in answer ≡ held_row slot cell
  pub calls_are : calls ≡ Adds (held_row slot cell) (with_held (held_at s.held cell) amount) answer ∷ []
  pub entries_are : entries ≡ added_entry answer ∷ []
  pub after_is : after ≡ record s {
    held = slice_set s.held cell (still_held (with_held (held_at s.held cell) amount) answer);
  }

pub record AddsNothing (s : State) (calls : List Call) (entries : List Entry) (after : State) : Type 0 where
  pub calls_are : calls ≡ []
  pub entries_are : entries ≡ []
  pub after_is : after ≡ s

-- an ended event is added to its digest's row, where it is a digested statement
abbrev pub DigestsIn : Bool → State → ℕ → Open → Numbers → List Call → List Entry → State → Type 0
DigestsIn false s slot what numbers calls entries after = AddsNothing s calls entries after
DigestsIn true s slot what numbers calls entries after =
    AddsTo s slot (digest_number what) (amount_of what s.clock numbers) calls entries after

-- the innermost event, which is let through, is counted: the consumers' word and the thread's are loaded, and it is
-- added to its cell's row, with all that is held for that, or held with it
pub record EndsCounted (s : State) (slot : ℕ) (what : Open) (others : List Open) (numbers : Numbers)
    (calls : List Call) (entries : List Entry) (after : State) : Type 0 where
  pub consumers : Word
  pub thread : Word
  pub answer : Added
  pub row_is : row_in answer ≡ held_row slot (cell_number what)
  pub calls_are : calls
      ≡ Adds (held_row slot (cell_number what))
      (with_held (held_at s.held (cell_number what)) (amount_of what s.clock numbers)) answer
      ∷ Loads (thread_word slot) thread.version thread.flags ∷ Loads 0 consumers.version consumers.flags ∷ []
  pub entries_are : entries
      ≡ says.End (Some what.event.number) (Some s.drawn) (Some consumers.version) (Some thread.version)
      ∷ added_entry answer ∷ []
  pub after_is : after ≡ record s {
    opened = record s.opened { events = others };
    held = slice_set s.held (cell_number what) (still_held
        (with_held (held_at s.held (cell_number what)) (amount_of what s.clock numbers)) answer);
  }

-- it is counted, and behind that added to its digest's row, where it is a digested statement
pub record EndsAdded (s : State) (slot : ℕ) (what : Open) (others : List Open) (numbers : Numbers)
    (calls : List Call) (entries : List Entry) (after : State) : Type 0 where
  pub between : State
  pub counted_calls : List Call
  pub counted_entries : List Entry
  pub digested_calls : List Call
  pub digested_entries : List Entry
  pub counts : EndsCounted s slot what others numbers counted_calls counted_entries between
  pub digests : DigestsIn what.digested between slot what numbers digested_calls digested_entries after
  pub calls_are : calls ≡ digested_calls ++ counted_calls
  pub entries_are : entries ≡ counted_entries ++ digested_entries

-- an event as it is written at its end
abbrev pub ended_event : Open → ℕ → ℕ → Numbers → Event
ended_event what drawn clock numbers = record what.event {
  last = drawn;
  duration = lasted what clock;
  lock = (numbers_for what.kind numbers).lock;
  errors = (numbers_for what.kind numbers).errors;
  warnings = (numbers_for what.kind numbers).warnings;
  affected = (numbers_for what.kind numbers).affected;
  sent = (numbers_for what.kind numbers).sent;
  examined = (numbers_for what.kind numbers).examined;
}

-- an event that ends is offered to its current place, its history and the long history, in this order. It isn't among
-- the open ones any more
pub record PutsAtEnd (s : State) (slot : ℕ) (what : Open) (numbers : Numbers) (consumers thread : ℕ)
    (calls : List Call) (entries : List Entry) (after : State) : Type 0 where
  pub current : Option Put
  pub history : Option Put
  pub long : Option Put
  pub current_calls : List Call
  pub history_calls : List Call
  pub long_calls : List Call
  pub current_is : PutIf what.placed (Current slot what.kind (depth_of what.kind s.opened.events))
      (ended_event what s.drawn s.clock numbers) current current_calls
  pub history_is : PutIf (goes_on what.placed (history_consumer what.kind) consumers thread)
      (History slot what.kind (next_of what.kind s.nexts)) (ended_event what s.drawn s.clock numbers) history
      history_calls
  pub long_is : PutIf (goes_on what.placed (long_consumer what.kind) consumers thread) (Long what.kind)
      (ended_event what s.drawn s.clock numbers) long long_calls
  pub calls_are : calls ≡ long_calls ++ (history_calls ++ current_calls)
  pub entries_are : entries ≡ put_entries current ++ (put_entries history ++ put_entries long)
  pub after_is : after ≡ record s { nexts = moved_by what.kind history s.nexts }

-- it ends: it is added, and behind that put to the rings that it is offered to, by the words that were loaded
pub record EndsThrough (s : State) (slot : ℕ) (what : Open) (others : List Open) (numbers : Numbers)
    (calls : List Call) (entries : List Entry) (after : State) : Type 0 where
  pub among : State
  pub added_calls : List Call
  pub added_entries : List Entry
  pub ring_calls : List Call
  pub ring_entries : List Entry
  pub adds : EndsAdded s slot what others numbers added_calls added_entries among
  pub puts : PutsAtEnd among slot what numbers adds.counts.consumers.flags adds.counts.thread.flags ring_calls
      ring_entries after
  pub calls_are : calls ≡ ring_calls ++ added_calls
  pub entries_are : entries ≡ added_entries ++ ring_entries

-- an event that isn't let through ends, and nothing is loaded or added
pub record EndsSilently (s : State) (others : List Open) (calls : List Call) (entries : List Entry)
    (after : State) : Type 0 where
  pub calls_are : calls ≡ []
  pub entries_are : entries ≡ says.End None None None None ∷ []
  pub after_is : after ≡ record s { opened = record s.opened { events = others } }

-- a session without a slot has no event that is let through
abbrev pub EndsIn : State → Option ℕ → Bool → Open → List Open → Numbers → List Call → List Entry → State → Type 0
EndsIn s slot false what others numbers calls entries after = EndsSilently s others calls entries after
EndsIn s None true what others numbers calls entries after = ⊥
EndsIn s (Some slot) true what others numbers calls entries after =
    EndsThrough s slot what others numbers calls entries after

-- an event that isn't among the open ones any more was counted so
pub record HasCounted (old new : Book) (what : Open) (numbers : Numbers) (answer : Added) (consumers thread : ℕ)
    (was now : Opening → List Call → Type 0) : Type 0 where
  pub slot : ℕ
  pub calls : List Call
  pub entries : List Entry
  pub slot_is : old.state.place.thread ≡ Some slot
  pub counts : EndsCounted old.state slot what old.state.opened.events numbers calls entries new.state
  pub answer_is : counts.answer ≡ answer
  pub consumers_is : counts.consumers.flags ≡ consumers
  pub thread_is : counts.thread.flags ≡ thread
  pub did : Did calls entries old.journal new.journal was now

-- and added to its digest's row so, where it is a digested statement
pub record HasDigested (old new : Book) (what : Open) (numbers : Numbers) (answer : Option Added) (was now : Opening
    → List Call → Type 0) : Type 0 where
  pub slot : ℕ
  pub calls : List Call
  pub slot_is : old.state.place.thread ≡ Some slot
  pub digests : DigestsIn what.digested old.state slot what numbers calls (added_entries answer) new.state
  pub did : Did calls (added_entries answer) old.journal new.journal was now

-- and put to the rings that it was offered to so, by these flags
pub record HasPuts (old new : Book) (what : Open) (numbers : Numbers) (consumers thread : ℕ)
    (current history long : Option Put) (was now : Opening → List Call → Type 0) : Type 0 where
  pub slot : ℕ
  pub calls : List Call
  pub entries : List Entry
  pub slot_is : old.state.place.thread ≡ Some slot
  pub puts : PutsAtEnd old.state slot what numbers consumers thread calls entries new.state
  pub current_is : puts.current ≡ current
  pub history_is : puts.history ≡ history
  pub long_is : puts.long ≡ long
  pub did : Did calls entries old.journal new.journal was now

-- it ended so
pub record Finished (old new : Book) (what : Open) (numbers : Numbers) (answer : Ended) (was now : Opening → List Call
    → Type 0) : Type 0 where
  pub slot : ℕ
  pub calls : List Call
  pub entries : List Entry
  pub slot_is : old.state.place.thread ≡ Some slot
  pub ends : EndsThrough old.state slot what old.state.opened.events numbers calls entries new.state
  pub summary_is : ends.adds.counts.answer ≡ answer.summary
  pub digest_is : ends.adds.digested_entries ≡ added_entries answer.digest
  pub puts_are : ends.ring_entries
      ≡ put_entries answer.current ++ (put_entries answer.history ++ put_entries answer.long)
  pub stand : StandInRings answer.current answer.history answer.long
  pub did : Did calls entries old.journal new.journal was now

-- the open events without the innermost
abbrev pub outer_events : List Open → List Open
outer_events [] = []
outer_events (what ∷ events) = events

abbrev pub without_innermost : State → State
without_innermost s = record s { opened = record s.opened { events = outer_events s.opened.events } }

pub record Ends (s : State) (numbers : Numbers) (calls : List Call) (entries : List Entry) (after : State) : Type 0
  where
    pub what : Open
    pub others : List Open
    pub innermost : s.opened.events ≡ what ∷ others
    pub ends : EndsIn s s.place.thread (is_let_through what.verdict) what others numbers calls entries after
