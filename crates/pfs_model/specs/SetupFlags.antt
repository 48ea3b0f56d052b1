-- What the flags were at a version, what an event saw of them, and its verdict.
use Rattle.std.specs.Prelude.{ℕ, ◌≡◌, ◌+◌, ◌==◌, nat_le, Bool, true, false, ◌&&◌, ◌||◌, not, cond, if◌then◌else◌, List, [], ◌∷◌, ◌++◌, Option, Some, None, is_some, is_none}
use Rattle.std.specs.Int.{bit_at}
use Rattle.pfs_consumers.specs.Tree.{is_on, acts_of}
use Rattle.pfs_consumers.specs.declared.Consumer.{Consumer}
use Rattle.pfs_consumers.specs.declared.Consumer.TheVariants as consumers
use Rattle.pfs_event.specs.declared.entry.Entry.{Entry}
use Rattle.pfs_event.specs.declared.entry.Entry.TheVariants as says
use Rattle.pfs_event.specs.declared.kind.EventKind.{EventKind}
use Rattle.pfs_event.specs.declared.kind.EventKind.TheVariants as kinds
use Rattle.pfs_event.specs.declared.verdict.Verdict.{Verdict}
use Rattle.pfs_event.specs.declared.verdict.Verdict.TheVariants.{LostThread, LostClass, OffGlobal, OffClass, OffTable, OffThread, LostNested, LostLocker, Aside, Attributed}
use Rattle.pfs_model.specs.declared.changes.Change.{Change}
use Rattle.pfs_model.specs.declared.lines.Opened.{Opened}
use Rattle.pfs_model.specs.declared.lines.Subject.{Subject}
use Rattle.pfs_event.specs.Verdicts.{is_let_through}
use Rattle.pfs_model.specs.Contexts.{Context, subject_of}
use Rattle.pfs_model.specs.EntryPlaces.{Placed}
use Rattle.pfs_model.specs.Chains.{times, change_at}
use Rattle.pfs_model.specs.Actions.{Setting}

-- the flags of a word's version: those that it was set to, and at first the opening ones
abbrev pub flags_at : (ℕ → ℕ) → List Setting → ℕ → ℕ → ℕ
flags_at opening [] word version = opening word
flags_at opening (setting ∷ settings) word version =
    cond ((setting.word == word) && (setting.version == version)) setting.flags (flags_at opening settings word version)

-- the switch words: 0 has the consumers' flags, then one for each thread slot, each class and each table
abbrev pub thread_word : ℕ → ℕ
thread_word slot = 1 + slot

abbrev pub class_word : ℕ → ℕ
class_word class = 33 + class

abbrev pub table_word : ℕ → ℕ
table_word table = 96 + table

-- a word that is there, at a version that is named
abbrev pub word_named : (ℕ → ℕ) → Option ℕ → Option ℕ → List Change
word_named word (Some number) (Some version) = change_at (word number) version ∷ []
word_named word (Some number) None = []
word_named word None version = []

abbrev pub class_of : Option Subject → Option ℕ
class_of None = None
class_of (Some subject) = subject.class

abbrev pub table_of : Option Subject → Option ℕ
table_of None = None
table_of (Some subject) = subject.table

abbrev pub loads_at : Option Subject → Context → Entry → List Change
loads_at subject context (says.Start event verdict consumers thread class table) =
    word_named (λ number. number) (Some 0) consumers
    ++ (word_named thread_word context.slot thread
    ++ (word_named class_word (class_of subject) class ++ word_named table_word (table_of subject) table))
loads_at subject context (says.End event last consumers thread) =
    word_named (λ number. number) (Some 0) consumers ++ word_named thread_word context.slot thread
loads_at subject context (says.Saw word version) = change_at word version ∷ []
loads_at subject context _ = []

-- the switch words that an entry says were loaded, each with its version
abbrev pub loads_of : Placed → List Change
loads_of place = loads_at (subject_of place.line) place.context place.entry

-- the flags that a start or an end saw; 0 where a word isn't loaded
pub record SeenSetup : Type 0 where
  pub consumers : ℕ
  pub thread : ℕ
  pub class : ℕ
  pub table : ℕ

abbrev pub flags_seen : (ℕ → ℕ → ℕ) → (ℕ → ℕ) → Option ℕ → Option ℕ → ℕ
flags_seen flags word (Some number) (Some version) = flags (word number) version
flags_seen flags word (Some number) None = 0
flags_seen flags word None version = 0

-- what an open event saw at its start, by the printed slot and versions
abbrev pub seen_by : (ℕ → ℕ → ℕ) → Option ℕ → Opened → SeenSetup
seen_by flags slot event = record {
  consumers = flags_seen flags (λ number. number) (Some 0) event.consumers;
  thread = flags_seen flags thread_word slot event.thread;
  class = flags_seen flags class_word event.subject.class event.class;
  table = flags_seen flags table_word event.subject.table event.table;
}

abbrev pub is_yes : ℕ → ℕ → Bool
is_yes flags bit = bit_at flags bit == 1

-- ENABLED of a class or a table, and INSTRUMENTED of a thread
abbrev pub is_enabled : ℕ → Bool
is_enabled flags = is_yes flags 0

-- TIMED of a class or a table
abbrev pub has_time : ℕ → Bool
has_time flags = is_yes flags 1

-- HISTORY of a thread
abbrev pub has_history : ℕ → Bool
has_history flags = is_yes flags 1

abbrev pub is_wait : EventKind → Bool
is_wait kinds.Wait = true
is_wait kinds.Stage = false
is_wait kinds.Statement = false
is_wait kinds.Transaction = false

abbrev pub is_statement : EventKind → Bool
is_statement kinds.Statement = true
is_statement kinds.Wait = false
is_statement kinds.Stage = false
is_statement kinds.Transaction = false

-- how many let-through events that pass the test are open
abbrev pub open_through : (EventKind → Bool) → List Opened → ℕ
open_through test opened = times (λ event. is_let_through event.verdict && test event.subject.kind) opened

-- The verdict: the first case that holds, where so many let-through statements and waits of the session are open, and
-- at most `stack` statements may be nested.
abbrev pub verdict_by : ℕ → Subject → SeenSetup → ℕ → ℕ → Verdict
verdict_by stack subject seen statements waits =
    if not (is_on seen.consumers consumers.GlobalInstrumentation) then OffGlobal else
    if not (is_enabled seen.class) then OffClass else
    if is_some subject.table && not (is_enabled seen.table) then OffTable else
    if is_on seen.consumers consumers.ThreadInstrumentation && not (is_enabled seen.thread) then OffThread else
    if is_statement subject.kind && nat_le stack statements then LostNested else
    if is_wait subject.kind && nat_le 4 waits then LostLocker else
    if not (is_on seen.consumers consumers.ThreadInstrumentation) then Aside else
    Attributed

-- of a session with these open events
abbrev pub verdict_on : ℕ → Subject → SeenSetup → List Opened → Verdict
verdict_on stack subject seen opened =
    verdict_by stack subject seen (open_through is_statement opened) (open_through is_wait opened)

abbrev pub verdict_of : ℕ → Option ℕ → Subject → SeenSetup → List Opened → Verdict
verdict_of stack None subject seen opened = LostThread
verdict_of stack (Some slot) subject seen opened = if is_none subject.class then LostClass
    else verdict_on stack subject seen opened

-- the start names the verdict of the flags that it saw
abbrev pub IsJudged : ℕ → (ℕ → ℕ → ℕ) → Option Subject → Context → Entry → Type 0
IsJudged stack flags (Some subject) context (says.Start event verdict consumers thread class table) =
    verdict ≡ verdict_of stack context.slot subject
    (seen_by flags context.slot (record {
      subject = subject;
      verdict = verdict;
      index = context.begun;
      number = event;
      consumers = consumers;
      thread = thread;
      class = class;
      table = table;
    }))
    context.opened
IsJudged stack flags subject context entry = Unit {0}

abbrev pub AreJudged : ℕ → (ℕ → ℕ → ℕ) → List Placed → Type 0
AreJudged stack flags [] = Unit {0}
AreJudged stack flags (place ∷ places) = IsJudged stack flags (subject_of place.line) place.context place.entry
    × AreJudged stack flags places

-- a let-through event is timed where its class is, and its table if it is of one
abbrev pub is_timed : (ℕ → ℕ → ℕ) → Option ℕ → Opened → Bool
is_timed flags slot event =
    has_time (seen_by flags slot event).class
    && (is_none event.subject.table || has_time (seen_by flags slot event).table)

-- a let-through statement is digested where `statements_digest` acts at its start
abbrev pub is_digested : (ℕ → ℕ → ℕ) → Option ℕ → Opened → Bool
is_digested flags slot event =
    is_statement event.subject.kind && is_let_through event.verdict
    && acts_of (seen_by flags slot event).consumers consumers.StatementsDigest

abbrev pub current_consumer : EventKind → Consumer
current_consumer kinds.Wait = consumers.WaitsCurrent
current_consumer kinds.Stage = consumers.StagesCurrent
current_consumer kinds.Statement = consumers.StatementsCurrent
current_consumer kinds.Transaction = consumers.TransactionsCurrent

abbrev pub history_consumer : EventKind → Consumer
history_consumer kinds.Wait = consumers.WaitsHistory
history_consumer kinds.Stage = consumers.StagesHistory
history_consumer kinds.Statement = consumers.StatementsHistory
history_consumer kinds.Transaction = consumers.TransactionsHistory

abbrev pub long_consumer : EventKind → Consumer
long_consumer kinds.Wait = consumers.WaitsHistoryLong
long_consumer kinds.Stage = consumers.StagesHistoryLong
long_consumer kinds.Statement = consumers.StatementsHistoryLong
long_consumer kinds.Transaction = consumers.TransactionsHistoryLong

abbrev pub is_attributed : Verdict → Bool
is_attributed Attributed = true
is_attributed _ = false

-- an attributed event is offered to its current place where that consumer acts at its start, then and again at its end
abbrev pub is_offered_current : (ℕ → ℕ → ℕ) → Option ℕ → Opened → Bool
is_offered_current flags slot event =
    is_attributed event.verdict && acts_of (seen_by flags slot event).consumers (current_consumer event.subject.kind)

-- and at its end to a history where that consumer acts then and the thread's HISTORY is YES then; `consumers` and
-- `thread` are the versions that its end loaded
abbrev pub is_offered_at_end : (EventKind → Consumer) → (ℕ → ℕ → ℕ) → Option ℕ → Opened → Option ℕ → Option ℕ → Bool
is_offered_at_end ring flags slot event consumers thread =
    is_offered_current flags slot event
    && acts_of (flags_seen flags (λ number. number) (Some 0) consumers) (ring event.subject.kind)
    && has_history (flags_seen flags thread_word slot thread)
