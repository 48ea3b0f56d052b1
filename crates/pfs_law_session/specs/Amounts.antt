-- What a session adds to a row is what its journal brings there: each ended event once, with its time and its numbers.
use Rattle.std.specs.Prelude.{ℕ, ◌≡◌, ◌+◌, ◌-◌, ◌%◌, ◌^◌, ◌==◌, Bool, true, false, if◌then◌else◌, List, [], ◌∷◌, ◌++◌, drop, map, Option, Some, None, IfSome}
use Rattle.pfs_admin.specs.ConnectionAsks.{placed_of}
use Rattle.pfs_admin.specs.AdministrationStates.{seat_at}
use Rattle.pfs_event.specs.Verdicts.{is_let_through}
use Rattle.pfs_event.specs.declared.entry.Entry.{Entry}
use Rattle.pfs_event.specs.declared.entry.Entry.TheVariants as says
use Rattle.pfs_event.specs.declared.kind.EventKind.{EventKind}
use Rattle.pfs_event.specs.declared.open.Open.{Open}
use Rattle.pfs_levels.specs.Calls.{Call, Adds, Rings, Reads, Loads, Draws, Takes, Puts, Frees, Sets, Enters, Leaves, Meets}
use Rattle.pfs_levels.specs.RowWords.{merged}
use Rattle.pfs_levels.specs.declared.answers.Added.TheVariants.{Counted, Held}
use Rattle.pfs_levels.specs.declared.answers.RingPut.TheVariants.{Done, Busy, Late}
use Rattle.pfs_model.specs.Contents.{Facts, Given, Written, amount_by, amount_of, or_zero, link_of, is_read_only, nesting_type, nesting_id, words_at, written_at, IsNext, IsContent}
use Rattle.pfs_model.specs.Contents.{merged as all_merged}
use Rattle.pfs_levels.specs.JointCalls.{total, At, Setting, AllAgree}
use Rattle.pfs_model.specs.EntryAsks.{cell_row, digest_row}
use Rattle.pfs_model.specs.Contexts.{Context, Waiting, brought, held_for}
use Rattle.pfs_model.specs.Contexts.{fresh as empty}
use Rattle.pfs_model.specs.EntryPlaces.{Placed, placed_lines, after_lines, told_by, by_session, places}
use Rattle.pfs_model.specs.EventNumbers.{nesting_of}
use Rattle.pfs_model.specs.SetupFlags.{is_digested, is_timed}
use Rattle.pfs_model.specs.Shapes.{counted_slot}
use Rattle.pfs_model.specs.declared.lines.Opened.{Opened}
use Rattle.pfs_session.specs.Ends.{numbers_for, with_held}
use Rattle.pfs_session.specs.Settlements.{owed_by_state}
use Rattle.pfs_session.specs.Starts.{IsUnfilled}
use Rattle.pfs_session.specs.SessionStates.{State, Owed, fresh}
use Rattle.pfs_session.specs.Turns.{Step, StartsEvent, EndsEvent, Spends, SettlesHeld, Connects, Quits, Truncates, Changes, Inquires, steps_of}
use Rattle.pfs_session.specs.declared.events.Numbers.{Numbers}
use Rattle.pfs_stat.specs.Stat.{words_of, stat_of_words}
use Rattle.pfs_stat.specs.declared.Stat.{Stat}
use Rattle.pfs_law_session.specs.Agreement.{Stands}
use Rattle.pfs_law_session.specs.Deeds.{Deed, Connecting, Starting, Staging, StageEnding, Ending, Spending, Quitting, Truncating, Changing, Showing, Querying, Refusing, Closing, Part, part_calls}
use Rattle.pfs_law_session.specs.JournalLaws.{AreParts, MayDoAll, AllLoadsAgree, lines_of, entries_of, state_behind}
use Rattle.pfs_law_session.specs.Stints.{Stint, AreStints, blocks_of, parts_by, state_by, over_by}

-- an event that has started and not ended: its position among the session's starts, its kind, the clock at its start
pub record Going : Type 0 where
  pub index : ℕ
  pub kind : EventKind
  pub start : ℕ

-- what the steps of a session tell of it: its clock, how many events it has started, and those that it hasn't ended,
-- the innermost first
pub record Clocked : Type 0 where
  pub clock : ℕ
  pub begun : ℕ
  pub going : List Going

abbrev pub at_first : Clocked
at_first = record { clock = 0; begun = 0; going = [] }

abbrev pub stepped : Clocked → Step → Clocked
stepped clocked (StartsEvent subject) = record {
  clock = clocked.clock;
  begun = clocked.begun + 1;
  going = record { index = clocked.begun; kind = subject.kind; start = clocked.clock } ∷ clocked.going;
}
stepped clocked (EndsEvent numbers) = record clocked { going = drop 1 clocked.going }
stepped clocked (Spends time) = record clocked { clock = (clocked.clock + time) % 2 ^ 64 }
stepped clocked SettlesHeld = clocked
stepped clocked (Connects admin user host) = clocked
stepped clocked (Quits admin) = clocked
stepped clocked (Truncates admin what) = clocked
stepped clocked (Changes admin what) = clocked
stepped clocked (Inquires what) = clocked

-- these are the facts of an event that ends when the clock stands so: how long it took, modulo 2^64, and a statement's
-- numbers
pub record IsMeasured (clock : ℕ) (numbers : Numbers) (event : Going) (facts : Facts) : Type 0 where
  pub duration : facts.duration ≡ (clock + (2 ^ 64 - event.start)) % 2 ^ 64
  pub lock : facts.lock ≡ (numbers_for event.kind numbers).lock
  pub errors : facts.errors ≡ (numbers_for event.kind numbers).errors
  pub warnings : facts.warnings ≡ (numbers_for event.kind numbers).warnings
  pub affected : facts.affected ≡ (numbers_for event.kind numbers).affected
  pub sent : facts.sent ≡ (numbers_for event.kind numbers).sent
  pub examined : facts.examined ≡ (numbers_for event.kind numbers).examined

abbrev pub EndFacts : (ℕ → Facts) → ℕ → Numbers → List Going → Type 0
EndFacts facts clock numbers [] = Unit {0}
EndFacts facts clock numbers (event ∷ events) = IsMeasured clock numbers event (facts event.index)

-- a start gives the clock at the start of its event, an end the rest
abbrev pub StepFacts : (ℕ → Facts) → Clocked → Step → Type 0
StepFacts facts clocked (StartsEvent subject) = (facts clocked.begun).start ≡ clocked.clock
StepFacts facts clocked (EndsEvent numbers) = EndFacts facts clocked.clock numbers clocked.going
StepFacts facts clocked (Spends time) = Unit {0}
StepFacts facts clocked SettlesHeld = Unit {0}
StepFacts facts clocked (Connects admin user host) = Unit {0}
StepFacts facts clocked (Quits admin) = Unit {0}
StepFacts facts clocked (Truncates admin what) = Unit {0}
StepFacts facts clocked (Changes admin what) = Unit {0}
StepFacts facts clocked (Inquires what) = Unit {0}

abbrev pub all_stepped : Clocked → List Step → Clocked
all_stepped clocked [] = clocked
all_stepped clocked (step ∷ steps) = all_stepped (stepped clocked step) steps

-- these are the facts of a session's events, by their position among its starts, as its steps give them
abbrev pub AreFacts : (ℕ → Facts) → Clocked → List Step → Type 0
AreFacts facts clocked [] = Unit {0}
AreFacts facts clocked (step ∷ steps) = StepFacts facts clocked step × AreFacts facts (stepped clocked step) steps

abbrev pub AllFacts : (ℕ → Facts) → Clocked → List Part → Type 0
AllFacts facts clocked [] = Unit {0}
AllFacts facts clocked (p ∷ ps) =
    AreFacts facts clocked (steps_of p.turns) × AllFacts facts (all_stepped clocked (steps_of p.turns)) ps

abbrev pub clock_behind : Clocked → List Part → Clocked
clock_behind clocked [] = clocked
clock_behind clocked (p ∷ ps) = clock_behind (all_stepped clocked (steps_of p.turns)) ps

-- amounts put together, the newest first; none where there are none
abbrev pub sum_of : List Stat → Option Stat
sum_of [] = None
sum_of (amount ∷ amounts) = Some (with_held (sum_of amounts) amount)

-- what is owed to a row
abbrev pub owed_to : ℕ → List Owed → Option Stat
owed_to row [] = None
owed_to row (one ∷ others) = if one.row == row then Some one.amount else owed_to row others

-- the open events, of which a journal knows the positions and a session kind and start
abbrev pub going_of : List Opened → List Open → List Going
going_of [] whats = []
going_of (event ∷ events) [] = []
going_of (event ∷ events) (what ∷ whats) =
    record { index = event.index; kind = what.kind; start = what.event.start } ∷ going_of events whats

abbrev pub HaveStarted : (ℕ → Facts) → List Going → Type 0
HaveStarted facts [] = Unit {0}
HaveStarted facts (event ∷ events) = ((facts event.index).start ≡ event.start) × HaveStarted facts events

-- an open event is as its words in a ring say, but for its start; what its end fills in is empty
pub record IsWorded (flags : ℕ → ℕ → ℕ) (slot : Option ℕ) (session : ℕ) (event : Opened) (around : List Opened)
    (what : Open) : Type 0 where
  pub session_is : session ≡ what.event.session
  pub number : or_zero event.number ≡ what.event.number
  pub class : or_zero event.subject.class ≡ what.event.class
  pub link : link_of (is_digested flags slot event) event ≡ what.event.link
  pub timed : is_timed flags slot event ≡ what.event.timed
  pub read_only : is_read_only event.subject.kind event.subject.cell ≡ what.event.read_only
  pub nesting : nesting_type (nesting_of around) ≡ what.event.nesting
  pub parent : nesting_id (nesting_of around) ≡ what.event.parent
  pub unfilled : IsUnfilled what

-- each open event that is offered to its current place
abbrev pub AreWorded : (ℕ → ℕ → ℕ) → Option ℕ → ℕ → List Opened → List Open → Type 0
AreWorded flags slot session [] whats = Unit {0}
AreWorded flags slot session (event ∷ events) [] = Unit {0}
AreWorded flags slot session (event ∷ events) (what ∷ whats) =
    (what.placed ≡ true → IsWorded flags slot session event events what) × AreWorded flags slot session events whats

-- a session holds for each row exactly the sum of what its journal says is waiting for the row; its clock and its open
-- events are those of its steps, and the facts have their starts; its number and its slot, where it has one, are those
-- given; and its open events are as their words say
pub record Sums (flags : ℕ → ℕ → ℕ) (slots : ℕ → Option ℕ) (facts : ℕ → ℕ → Facts) (session : ℕ) (clocked : Clocked)
    (context : Context) (s : State) : Type 0 where
  pub clock : clocked.clock ≡ s.clock
  pub begun : clocked.begun ≡ context.begun
  pub going : clocked.going ≡ going_of context.opened s.opened.events
  pub starts : HaveStarted (facts session) clocked.going
  pub held : (row : ℕ) → owed_to row (owed_by_state s)
      ≡ sum_of (map (amount_by flags slots facts session) (held_for row context.waiting))
  pub seat : IfSome s.place.thread (λ n. slots session ≡ Some n)
  pub own : s.number ≡ session
  pub worded : AreWorded flags s.place.thread session context.opened s.opened.events

-- by the contents of the rows: an addition and a put made a row's content, and a take found it
abbrev pub ContentAgrees : (ℕ → ℕ → List ℕ) → Call → Type 0
ContentAgrees content (Adds row amount (Counted at version)) =
    (before : ℕ) × (version ≡ before + 1) × (content at version ≡ merged (content at before) amount)
ContentAgrees content (Adds row amount (Held at first second)) = Unit {0}
ContentAgrees content (Takes row version found) = found ≡ content row version
ContentAgrees content (Puts row put version) = content row version ≡ put
ContentAgrees content (Rings row put (Done version)) =
    (before : ℕ) × (version ≡ before + 1) × (content row version ≡ put)
ContentAgrees content (Rings row put (Busy first second)) = Unit {0}
ContentAgrees content (Rings row put (Late ticket version)) = Unit {0}
ContentAgrees content (Reads row seen) = Unit {0}
ContentAgrees content (Loads at version found) = Unit {0}
ContentAgrees content (Draws kind ticket) = Unit {0}
ContentAgrees content (Frees row version) = Unit {0}
ContentAgrees content (Sets at to version) = Unit {0}
ContentAgrees content (Enters label labels) = Unit {0}
ContentAgrees content Leaves = Unit {0}
ContentAgrees content (Meets versions) = Unit {0}

abbrev pub ContentsAgree : (ℕ → ℕ → List ℕ) → List Call → Type 0
ContentsAgree content [] = Unit {0}
ContentsAgree content (call ∷ calls) = ContentAgrees content call × ContentsAgree content calls

abbrev pub AllContentsAgree : (ℕ → ℕ → List ℕ) → List Part → Type 0
AllContentsAgree content [] = Unit {0}
AllContentsAgree content (p ∷ ps) = ContentsAgree content (part_calls p) × AllContentsAgree content ps

-- a session of this number gets this slot when it connects
abbrev pub IsPlaced : Option ℕ → ℕ → Deed → Type 0
IsPlaced slot number (Connecting admin user host) = (placed_of (seat_at admin number user host)).thread ≡ slot
IsPlaced slot number (Starting subject) = Unit {0}
IsPlaced slot number (Staging subject) = Unit {0}
IsPlaced slot number StageEnding = Unit {0}
IsPlaced slot number (Ending numbers) = Unit {0}
IsPlaced slot number (Spending time) = Unit {0}
IsPlaced slot number (Quitting admin) = Unit {0}
IsPlaced slot number (Truncating admin what) = Unit {0}
IsPlaced slot number (Changing admin what) = Unit {0}
IsPlaced slot number (Showing admin count) = Unit {0}
IsPlaced slot number (Querying readings count) = Unit {0}
IsPlaced slot number (Refusing error) = Unit {0}
IsPlaced slot number Closing = Unit {0}

abbrev pub AllPlaced : Option ℕ → ℕ → List Part → Type 0
AllPlaced slot number [] = Unit {0}
AllPlaced slot number (p ∷ ps) = IsPlaced slot number p.deed × AllPlaced slot number ps

-- an addition makes its row's content of the one before, by all events that it brings there
abbrev pub IsAdded : (Opened → Stat) → (ℕ → ℕ → List ℕ) → Context → Entry → Type 0
IsAdded amount content context (says.Add row version) =
    IsNext content (λ here. words_of (all_merged (stat_of_words here) (map amount (brought context row)))) row version
IsAdded amount content context entry = Unit {0}

abbrev pub AreAdded : (Opened → Stat) → (ℕ → ℕ → List ℕ) → List Placed → Type 0
AreAdded amount content [] = Unit {0}
AreAdded amount content (place ∷ places) =
    IsAdded amount content place.context place.entry × AreAdded amount content places

-- the words of an event as a put finds it, by what its session's entries so far tell
abbrev pub words_put : (ℕ → ℕ → ℕ) → (ℕ → Facts) → ℕ → Option ℕ → Option ℕ → Option Written → List ℕ
words_put flags facts session slot ticket None = []
words_put flags facts session slot ticket (Some written) =
    words_at flags session slot (facts written.event.index) ticket written

-- a put leaves the words of the event that has just ended, or has just started, at the next version of its row
abbrev pub IsPut : (ℕ → ℕ → ℕ) → (ℕ → Facts) → (ℕ → ℕ → List ℕ) → ℕ → Context → Entry → Type 0
IsPut flags facts content session context (says.Ring row version) =
    IsNext content (λ here. words_put flags facts session context.slot None (written_at context)) row version
IsPut flags facts content session context (says.Long row version ticket) =
    IsNext content (λ here. words_put flags facts session context.slot (Some ticket) (written_at context)) row version
IsPut flags facts content session context entry = Unit {0}

abbrev pub ArePut : (ℕ → ℕ → ℕ) → (ℕ → Facts) → (ℕ → ℕ → List ℕ) → ℕ → List Placed → Type 0
ArePut flags facts content session [] = Unit {0}
ArePut flags facts content session (place ∷ places) =
    IsPut flags facts content session place.context place.entry × ArePut flags facts content session places

-- an event with the row in which it counts
abbrev pub in_row : ℕ → Opened → Waiting
in_row row event = record { row = row; event = event }

-- a digested statement with the row of its digest
abbrev pub in_digest_row : Bool → Opened → List Waiting
in_digest_row false event = []
in_digest_row true event = in_row (digest_row event.subject.digest) event ∷ []

-- the event that an end counts: the innermost open one, where it is let through, in its cell, and a digested statement
-- in the row of its digest too
abbrev pub counted_first : (ℕ → ℕ → ℕ) → Option ℕ → List Opened → List Waiting
counted_first flags slot [] = []
counted_first flags slot (event ∷ others) =
    if is_let_through event.verdict
    then in_row (cell_row (counted_slot slot event.verdict) event.subject.cell) event
    ∷ in_digest_row (is_digested flags slot event) event
    else []

abbrev pub counted_at : (ℕ → ℕ → ℕ) → Context → Entry → List Waiting
counted_at flags context (says.End event last consumers thread) = counted_first flags context.slot context.opened
counted_at flags context entry = []

-- the events that an addition brings
abbrev pub brought_at : Context → Entry → List Waiting
brought_at context (says.Add row version) = map (in_row row) (brought context row)
brought_at context entry = []

abbrev pub counted_in : (ℕ → ℕ → ℕ) → List Placed → List Waiting
counted_in flags [] = []
counted_in flags (place ∷ places) = counted_at flags place.context place.entry ++ counted_in flags places

abbrev pub brought_in : List Placed → List Waiting
brought_in [] = []
brought_in (place ∷ places) = brought_at place.context place.entry ++ brought_in places

-- each event that ended and counts, or waited before, was brought or waits behind, just as often, each in its rows
abbrev pub IsOnce : (ℕ → ℕ → ℕ) → List Waiting → List Placed → List Waiting → Type 0
IsOnce flags before places behind = (weight : Waiting → ℕ)
    → total weight (counted_in flags places) + total weight before
    ≡ total weight (brought_in places) + total weight behind

-- each addition of a session's journal brings its row exactly the events that the journal says; each put leaves the
-- words of its event; each event that ended and counts was brought once to each of its rows, or waits for it; and behind
-- the journal the session holds for each row exactly what waits for it
pub record IsAccounted (flags : ℕ → ℕ → ℕ) (slots : ℕ → Option ℕ) (facts : ℕ → ℕ → Facts) (session : ℕ)
    (content : ℕ → ℕ → List ℕ) (clocked : Clocked) (context : Context) (s : State) (parts : List Part) : Type 0 where
  pub added : (phase : ℕ) → AreAdded (amount_by flags slots facts session) content
      (placed_lines phase session context (lines_of parts) (entries_of parts))
  pub put : (phase : ℕ) → ArePut flags (facts session) content session
      (placed_lines phase session context (lines_of parts) (entries_of parts))
  pub once : (phase : ℕ) → IsOnce flags context.waiting
      (placed_lines phase session context (lines_of parts) (entries_of parts))
      (after_lines context (lines_of parts) (entries_of parts)).waiting
  pub sums : Sums flags slots facts session (clock_behind clocked parts)
      (after_lines context (lines_of parts) (entries_of parts)) (state_behind s parts)

-- of lines one after another of a session that stands as its journal tells, whose facts are those that its steps give,
-- where each load gave the flags of its version, and each addition, take and put agrees with the contents
abbrev pub AmountsLaw : Type 0
AmountsLaw = (flags : ℕ → ℕ → ℕ) (slots : ℕ → Option ℕ) (facts : ℕ → ℕ → Facts) (session : ℕ)
    (content : ℕ → ℕ → List ℕ) (over : Bool) (clocked : Clocked) (context : Context) (s : State) (parts : List Part)
    → Stands flags over context s → Sums flags slots facts session clocked context s → MayDoAll over s parts
    → AreParts s parts → AllLoadsAgree flags parts → AllPlaced (slots session) s.number parts
    → AllFacts (facts session) clocked parts → AllContentsAgree content parts
    → IsAccounted flags slots facts session content clocked context s parts

-- a session that begins stands so; and where a session holds nothing, nothing waits
pub record SumsLaw : Type 0 where
  pub fresh : (flags : ℕ → ℕ → ℕ) (slots : ℕ → Option ℕ) (facts : ℕ → ℕ → Facts) (session stack depth : ℕ)
      → Sums flags slots facts session at_first empty (fresh session stack depth)
  pub nothing : (flags : ℕ → ℕ → ℕ) (slots : ℕ → Option ℕ) (facts : ℕ → ℕ → Facts) (session : ℕ) (clocked : Clocked)
      (context : Context) (s : State) → Sums flags slots facts session clocked context s → owed_by_state s ≡ []
      → context.waiting ≡ []

-- of a session through all its phases: each addition of its journal brings its row exactly the events that the journal
-- says; each put leaves the words of its event; each event that ended and counts was brought once to its row, or waits
-- for it, and the session holds exactly what waits; and once it has ended, each such event was brought just once, to its
-- row, and nothing else was brought
pub record IsWhole (flags : ℕ → ℕ → ℕ) (slots : ℕ → Option ℕ) (facts : ℕ → ℕ → Facts) (content : ℕ → ℕ → List ℕ)
    (s : State) (session : ℕ) (stints : List Stint) : Type 0 where
  pub added : AreAdded (amount_by flags slots facts session) content (by_session session (places (blocks_of stints)))
  pub put : ArePut flags (facts session) content session (by_session session (places (blocks_of stints)))
  pub once : IsOnce flags [] (by_session session (places (blocks_of stints)))
      (told_by session empty (blocks_of stints)).waiting
  pub sums : Sums flags slots facts session (clock_behind at_first (parts_by session stints))
      (told_by session empty (blocks_of stints)) (state_by session s stints)
  pub ended : over_by session false stints ≡ true → IsOnce flags [] (by_session session (places (blocks_of stints))) []

-- of each session among those that run
abbrev pub WholeLaw : Type 0
WholeLaw = (flags : ℕ → ℕ → ℕ) (slots : ℕ → Option ℕ) (facts : ℕ → ℕ → Facts) (content : ℕ → ℕ → List ℕ)
    (stack : ℕ) (depths : ℕ → ℕ) (session : ℕ) (stints : List Stint) → AreStints stack depths stints
    → AllLoadsAgree flags (parts_by session stints) → AllPlaced (slots session) session (parts_by session stints)
    → AllFacts (facts session) at_first (parts_by session stints) → AllContentsAgree content (parts_by session stints)
    → IsWhole flags slots facts content (fresh session stack (depths session)) session stints

-- whatever a session does from its beginning on has facts
abbrev pub FactsLaw : Type 0
FactsLaw = (parts : List Part) → (facts : ℕ → Facts) × AllFacts facts at_first parts

-- what the rules ask of a put's content
abbrev pub IsRinged : Given → (ℕ → ℕ → List ℕ) → Placed → Entry → Type 0
IsRinged given content place (says.Ring row version) = IsContent given content place place.entry
IsRinged given content place (says.Long row version ticket) = IsContent given content place place.entry
IsRinged given content place entry = Unit {0}

-- what a store's actors have in common says what this law asks of the contents, and what it answers is the content that
-- the rules of a journal ask for
pub record ContentsLaw : Type 0 where
  pub agree : (opening : List ℕ) (content : ℕ → ℕ → List ℕ) (log : List At) (sets : List Setting) (calls : List Call)
      → AllAgree opening content log sets calls → ContentsAgree content calls
  pub ask : (given : Given) (content : ℕ → ℕ → List ℕ) (place : Placed) (row version : ℕ)
      → place.entry ≡ says.Add row version
      → IsAdded (amount_of given place.session) content place.context place.entry
      → IsContent given content place place.entry
  pub ask_put : (given : Given) (content : ℕ → ℕ → List ℕ) (place : Placed)
      → IsPut given.flags (given.facts place.session) content place.session place.context place.entry
      → IsRinged given content place place.entry
