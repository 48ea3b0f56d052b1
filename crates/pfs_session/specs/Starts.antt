-- What an event's start loads, decides and opens.
use Rattle.std.specs.Prelude.{ℕ, ◌≡◌, ◌+◌, ◌==◌, Bool, true, false, ◌&&◌, ◌||◌, if◌then◌else◌, List, [], ◌∷◌, ◌++◌, Option, Some, None, is_some, is_none}
use Rattle.std.specs.Option.{option_map}
use Rattle.pfs_consumers.specs.Tree.{acts_of}
use Rattle.pfs_consumers.specs.declared.Consumer.TheVariants.{StatementsDigest}
use Rattle.pfs_event.specs.Verdicts.{is_let_through}
use Rattle.pfs_event.specs.declared.entry.Entry.{Entry}
use Rattle.pfs_event.specs.declared.entry.Entry.TheVariants as says
use Rattle.pfs_event.specs.declared.open.Open.{Open}
use Rattle.pfs_event.specs.declared.verdict.Verdict.{Verdict}
use Rattle.pfs_event.specs.declared.verdict.Verdict.TheVariants.{LostThread, LostClass}
use Rattle.pfs_levels.specs.Calls.{Call, Loads}
use Rattle.pfs_levels.specs.declared.answers.Word.{Word}
use Rattle.pfs_model.specs.Contents.{plus_one}
use Rattle.pfs_model.specs.SetupFlags.{SeenSetup, verdict_by, has_time, is_wait, is_statement, thread_word, class_word, table_word}
use Rattle.pfs_model.specs.declared.lines.Subject.{Subject}
use Rattle.pfs_session.specs.Ends.{no_numbers}
use Rattle.pfs_rings.specs.declared.puts.Put.{Put}
use Rattle.pfs_session.specs.EventPuts.{PutIn, put_entries, is_placed_by, depth_of}
use Rattle.pfs_session.specs.SessionStates.{State, around, count_open, one_if}
use Rattle.pfs_session.specs.declared.setup.Setup.{Setup}

-- of a table, if there is one
abbrev pub table_calls : Option ℕ → Option Word → List Call
table_calls (Some table) (Some word) = Loads (table_word table) word.version word.flags ∷ []
table_calls (Some table) None = []
table_calls None word = []

-- the consumers' word, the thread's, the class's and, of an event of a table, the table's: newest first
abbrev pub setup_calls : ℕ → ℕ → Option ℕ → Setup → List Call
setup_calls slot class table seen =
    table_calls table seen.table
    ++ (Loads (class_word class) seen.class.version seen.class.flags
    ∷ Loads (thread_word slot) seen.thread.version seen.thread.flags
    ∷ Loads 0 seen.consumers.version seen.consumers.flags ∷ [])

-- of a session without a slot, and of a lost class, nothing is loaded
abbrev pub load_calls : Option ℕ → Option ℕ → Option ℕ → Option Setup → List Call
load_calls (Some slot) (Some class) table (Some seen) = setup_calls slot class table seen
load_calls (Some slot) (Some class) table None = []
load_calls (Some slot) None table seen = []
load_calls None class table seen = []

abbrev pub HasTable : Option ℕ → Option Setup → Type 0
HasTable table None = Unit {0}
HasTable table (Some seen) = is_some seen.table ≡ is_some table

-- just where the session has a slot and the class isn't lost, words are loaded, and a table's where there is one
pub record IsLoaded (slot class table : Option ℕ) (seen : Option Setup) : Type 0 where
  pub there : is_some seen ≡ (is_some slot && is_some class)
  pub table_is : HasTable table seen

abbrev pub flags_in : Option Word → ℕ
flags_in None = 0
flags_in (Some word) = word.flags

abbrev pub flags_of : Setup → SeenSetup
flags_of seen = record {
  consumers = seen.consumers.flags;
  thread = seen.thread.flags;
  class = seen.class.flags;
  table = flags_in seen.table;
}

-- the verdict of what was loaded, where so many let-through statements and waits of the session are open
abbrev pub verdict_seen : ℕ → Option ℕ → Subject → Option Setup → ℕ → ℕ → Verdict
verdict_seen stack None subject seen statements waits = LostThread
verdict_seen stack (Some slot) subject None statements waits = LostClass
verdict_seen stack (Some slot) subject (Some seen) statements waits =
    verdict_by stack subject (flags_of seen) statements waits

abbrev pub verdict_in : State → Subject → Option Setup → Verdict
verdict_in s subject seen =
    verdict_seen s.stack s.place.thread subject seen (count_open is_statement s.opened.events)
    (count_open is_wait s.opened.events)

-- an event is timed where its class is, and its table if it is of one
abbrev pub is_timed_by : Subject → Option Setup → Bool
is_timed_by subject None = false
is_timed_by subject (Some seen) =
    has_time seen.class.flags && (is_none subject.table || has_time (flags_in seen.table))

-- a statement that is let through is digested where `statements_digest` acts by what was loaded
abbrev pub is_digested_by : Subject → Verdict → Option Setup → Bool
is_digested_by subject verdict None = false
is_digested_by subject verdict (Some seen) =
    is_statement subject.kind && is_let_through verdict && acts_of seen.consumers.flags StatementsDigest

-- one more than the place of a digested statement's text, and of any other event than its table's number; 0 without one
abbrev pub link_of : Bool → Subject → ℕ
link_of true subject = plus_one subject.digest
link_of false subject = plus_one subject.table

-- the id of a class that isn't lost
abbrev pub IsClass : Option ℕ → ℕ → Type 0
IsClass None number = number ≡ 0
IsClass (Some class) number = number ≡ class

-- what an end fills in, and the ticket of a put, is empty in an event that has just started
pub record IsUnfilled (what : Open) : Type 0 where
  pub last : what.event.last ≡ 0
  pub duration : what.event.duration ≡ 0
  pub numbers : record {
    lock = what.event.lock;
    errors = what.event.errors;
    warnings = what.event.warnings;
    affected = what.event.affected;
    sent = what.event.sent;
    examined = what.event.examined;
  } ≡ no_numbers
  pub ticket : what.event.ticket ≡ 0

-- the open event that a start of a subject makes, with this verdict, in a session of this number that has drawn so many
-- event numbers, at this clock, where those events are open; whether it is timed, digested, and offered to its current
-- place is decided here
pub record IsOpened (session drawn clock : ℕ) (events : List Open) (subject : Subject) (verdict : Verdict)
    (timed digested placed : Bool) (what : Open) : Type 0 where
  pub kind : what.kind ≡ subject.kind
  pub verdict_is : what.verdict ≡ verdict
  pub session_is : what.event.session ≡ session
  pub number : what.event.number ≡ drawn + 1
  pub class : IsClass subject.class what.event.class
  pub digested_is : what.digested ≡ digested
  pub placed_is : what.placed ≡ placed
  pub link : what.event.link ≡ link_of digested subject
  pub lies_in : record { nesting = what.event.nesting; parent = what.event.parent } ≡ around events
  pub start : what.event.start ≡ clock
  pub timed_is : what.event.timed ≡ timed
  pub read_only : what.event.read_only ≡ (subject.cell == 63)
  pub unfilled : IsUnfilled what

-- the EVENT_ID of an event that is let through
abbrev pub if_through : Verdict → ℕ → Option ℕ
if_through verdict number = if is_let_through verdict then Some number else None

abbrev pub version_of : Word → ℕ
version_of word = word.version

abbrev pub versions_in : Setup → Option ℕ
versions_in seen = option_map version_of seen.table

-- the entry of a start: its event number, its verdict, and the versions that it loaded
abbrev pub start_entry : Verdict → ℕ → Option Setup → Entry
start_entry verdict number None = says.Start (if_through verdict number) verdict None None None None
start_entry verdict number (Some seen) =
    says.Start (if_through verdict number) verdict (Some seen.consumers.version) (Some seen.thread.version)
    (Some seen.class.version) (versions_in seen)

abbrev pub started : State → Open → State
started s what = record s {
  drawn = s.drawn + one_if (is_let_through what.verdict);
  opened = record s.opened { events = what ∷ s.opened.events };
}

-- a start loads, decides by what it loaded, and opens the event
pub record Begins (s : State) (subject : Subject) (calls : List Call) (entries : List Entry) (after : State) : Type 0
  where
    pub seen : Option Setup
    pub what : Open
    pub loaded : IsLoaded s.place.thread subject.class subject.table seen
    pub calls_are : calls ≡ load_calls s.place.thread subject.class subject.table seen
    pub opened : IsOpened s.number s.drawn s.clock s.opened.events subject (verdict_in s subject seen)
        (is_timed_by subject seen) (is_digested_by subject (verdict_in s subject seen) seen)
        (is_placed_by subject (verdict_in s subject seen) seen) what
    pub entries_are : entries ≡ start_entry (verdict_in s subject seen) (s.drawn + 1) seen ∷ []
    pub after_is : after ≡ started s what

-- and behind that the event is put to its current place, where it is offered there
pub record Starts (s : State) (subject : Subject) (calls : List Call) (entries : List Entry) (after : State) : Type 0
  where
    pub begun_calls : List Call
    pub begun_entries : List Entry
    pub begins : Begins s subject begun_calls begun_entries after
    pub current : Option Put
    pub put_calls : List Call
    pub put_is : PutIn s.place.thread begins.what (depth_of begins.what.kind s.opened.events) begins.what.event current
        put_calls
    pub calls_are : calls ≡ put_calls ++ begun_calls
    pub entries_are : entries ≡ begun_entries ++ put_entries current
