-- Worked examples: flags at a version, what an event saw, its verdict, where it is offered, and its numbers.
use Rattle.std.proofs.Common.{◌≡◌, refl, ℕ, true, false, cond, List, [], ◌∷◌, ◌==◌, arith}
use Rattle.std.specs.Prelude.{Option, Some, None}
use Rattle.pfs_event.specs.declared.entry.Entry.TheVariants as says
use Rattle.pfs_event.specs.declared.verdict.Verdict.{Verdict}
use Rattle.pfs_event.specs.declared.verdict.Verdict.TheVariants.{Attributed, Aside, OffGlobal, OffClass, OffTable, OffThread, LostThread, LostClass, LostNested, LostLocker}
use Rattle.pfs_stat.specs.Stat.{zero_of}
use Rattle.pfs_model.specs.declared.lines.Line.TheVariants as lines
use Rattle.pfs_model.specs.declared.lines.Opened.{Opened}
use Rattle.pfs_model.specs.Actions.{Setting, settings_of}
use Rattle.pfs_model.specs.Contents.{Facts, amount_by}
use Rattle.pfs_model.specs.Contexts.{fresh}
use Rattle.pfs_model.specs.EventNumbers.{IsNumbered, nesting_of}
use Rattle.pfs_model.specs.SetupFlags.{flags_at, loads_of, IsJudged, is_timed, is_digested, is_offered_current, is_offered_at_end, history_consumer, long_consumer}
use Rattle.pfs_model.specs.Chains.{change_at}
use Rattle.pfs_model.proofs.ExampleEntries.{binlog, waiting, passing, select, selecting, handler, handling, acted, flags_of_all}

-- The sets of two sessions: a class's word gets two versions, by actions 2 and 3, and a thread's word one. Word 0 opens
-- with the consumers' flags, any other here with both of its flags.
abbrev settings : List Setting
settings = settings_of (acted 1 1 (says.Set 1 1 1) ∷ acted 2 3 (says.Set 39 2 1) ∷ acted 1 2 (says.Set 39 1 2) ∷ [])

abbrev opening : ℕ → ℕ
opening word = cond (word == 0) 28888 3

at_first : flags_at opening settings 39 0 ≡ 3
at_first = refl

set_once : flags_at opening settings 39 1 ≡ 2
set_once = refl

-- the second set of the word stands before the first one in the report
set_again : flags_at opening settings 39 2 ≡ 1
set_again = refl

-- a version that no set gave has the opening flags; that no line names it is asked elsewhere
never_set : flags_at opening settings 0 7 ≡ 28888
never_set = refl

not_the_last : flags_at opening settings 39 1 ≡ 1 → ⊥
not_the_last same = let two : 2 ≡ 1 = same in absurd (omega (arith, two))

-- a start has the verdict of the flags that it loaded: at version 1 the class was off, whatever its end sees
judged : IsJudged 10 (flags_at opening settings) (Some binlog) (record fresh { slot = Some 0 }) (says.Start None OffClass (Some 0) (Some 1) (Some 1) None)
judged = refl

flags_of_the_end : IsJudged 10 (flags_at opening settings) (Some binlog) (record fresh { slot = Some 0 }) (says.Start (Some 1) Attributed (Some 0) (Some 1) (Some 1) None) → ⊥
flags_of_the_end same = cc

-- A wait, a statement and a table's wait, under these flags of the consumers, the thread, the class and the table, with
-- these events open, where 2 statements may be open at once: the consumers' flags at first are 28888, without
-- `global_instrumentation` 24792, and without `thread_instrumentation` 20696.
abbrev wait_is : ℕ → ℕ → ℕ → List Opened → Verdict → Type 0
wait_is consumers thread class opened verdict =
    IsJudged 2 (flags_of_all consumers thread class 3) (Some binlog) (record fresh { slot = Some 0; opened = opened }) (says.Start None verdict (Some 0) (Some 0) (Some 0) None)

abbrev statement_is : ℕ → List Opened → Verdict → Type 0
statement_is consumers opened verdict =
    IsJudged 2 (flags_of_all consumers 3 3 3) (Some select) (record fresh { slot = Some 0; opened = opened }) (says.Start None verdict (Some 0) (Some 0) (Some 0) None)

abbrev table_wait_is : ℕ → ℕ → Verdict → Type 0
table_wait_is class table verdict =
    IsJudged 2 (flags_of_all 28888 3 class table) (Some handler) (record fresh { slot = Some 0 }) (says.Start None verdict (Some 0) (Some 0) (Some 0) (Some 0))

-- no slot goes before every other case, and a lost class before all that goes by flags
no_slot : IsJudged 2 (flags_of_all 24792 0 0 0) (Some (record binlog { class = None })) fresh (says.Start None LostThread None None None None)
no_slot = refl

lost_class : IsJudged 2 (flags_of_all 24792 0 0 0) (Some (record binlog { class = None })) (record fresh { slot = Some 0 }) (says.Start None LostClass None None None None)
lost_class = refl

-- `global_instrumentation` is asked before the class, the class before the table, the table before the thread
off_global : wait_is 24792 0 0 [] OffGlobal
off_global = refl

global_goes_first : wait_is 24792 0 0 [] OffClass → ⊥
global_goes_first same = cc

off_class : wait_is 28888 0 2 [] OffClass
off_class = refl

off_table : table_wait_is 3 2 OffTable
off_table = refl

class_goes_first : table_wait_is 2 2 OffTable → ⊥
class_goes_first same = cc

off_thread : wait_is 28888 2 3 [] OffThread
off_thread = refl

-- without `thread_instrumentation` the thread isn't asked
aside : wait_is 20696 0 3 [] Aside
aside = refl

-- the fifth wait inside four let-through ones finds no room, and one that is off doesn't count among them
fifth : wait_is 28888 3 3 (waiting ∷ waiting ∷ record waiting { verdict = Aside } ∷ waiting ∷ []) LostLocker
fifth = refl

fourth : wait_is 28888 3 3 (waiting ∷ passing ∷ waiting ∷ waiting ∷ []) Attributed
fourth = refl

-- and so a third statement, where two may be open
nested : statement_is 28888 (selecting ∷ selecting ∷ []) LostNested
nested = refl

nested_in_one : statement_is 28888 (waiting ∷ selecting ∷ passing ∷ []) Attributed
nested_in_one = refl

nested_and_off : statement_is 24792 (selecting ∷ selecting ∷ []) LostNested → ⊥
nested_and_off same = cc

-- a wait is timed where its class is, and a table's wait where its table is too
timed : is_timed (flags_of_all 28888 3 3 0) (Some 0) waiting ≡ true
timed = refl

untimed : is_timed (flags_of_all 28888 3 1 3) (Some 0) waiting ≡ false
untimed = refl

table_untimed : is_timed (flags_of_all 28888 3 3 1) (Some 0) handling ≡ false
table_untimed = refl

-- the words that the start loaded are a session's, a class's and a table's own
loaded : loads_of (record { phase = 1; session = 1; line = lines.Start handler; context = record fresh { slot = Some 0 }; entry = says.Start (Some 1) Attributed (Some 4) (Some 2) (Some 1) (Some 0) }) ≡ change_at 0 4 ∷ change_at 1 2 ∷ change_at 43 1 ∷ change_at 98 0 ∷ []
loaded = refl

-- digests: 28672 are `global_instrumentation`, `thread_instrumentation` and `statements_digest` alone
digested : is_digested (flags_of_all 28672 3 3 3) (Some 0) selecting ≡ true
digested = refl

no_digest_of_a_wait : is_digested (flags_of_all 28672 3 3 3) (Some 0) waiting ≡ false
no_digest_of_a_wait = refl

-- `statements_digest` doesn't act without `global_instrumentation`
digests_off : is_digested (flags_of_all 24576 3 3 3) (Some 0) selecting ≡ false
digests_off = refl

-- at first `events_statements_current` is YES and `events_waits_current` NO; an event aside is offered nowhere
offered : is_offered_current (flags_of_all 28888 3 3 3) (Some 0) selecting ≡ true
offered = refl

not_offered : is_offered_current (flags_of_all 28888 3 3 3) (Some 0) waiting ≡ false
not_offered = refl

aside_not_offered : is_offered_current (flags_of_all 28888 3 3 3) (Some 0) (record selecting { verdict = Aside }) ≡ false
aside_not_offered = refl

-- a history is offered by the flags of the end, and the thread's HISTORY then: here version 1 of the consumers' word has
-- no consumer but the two instrumentations
abbrev flags_later : ℕ → ℕ → ℕ
flags_later word version = cond (word == 0) (cond (version == 0) 28888 12288) 3

to_history : is_offered_at_end history_consumer flags_later (Some 0) selecting (Some 0) (Some 1) ≡ true
to_history = refl

no_more_then : is_offered_at_end history_consumer flags_later (Some 0) selecting (Some 1) (Some 1) ≡ false
no_more_then = refl

not_to_long_history : is_offered_at_end long_consumer flags_later (Some 0) selecting (Some 0) (Some 1) ≡ false
not_to_long_history = refl

no_history_of_the_thread : is_offered_at_end history_consumer (flags_of_all 28888 1 3 3) (Some 0) selecting (Some 0) (Some 1) ≡ false
no_history_of_the_thread = refl

-- numbers: the second let-through event is 2, whatever else was started; an event that is off has none
second : IsNumbered (record fresh { drawn = 1; begun = 3 }) (says.Start (Some 2) Aside (Some 0) (Some 1) (Some 2) None)
second = refl

off_has_none : IsNumbered (record fresh { drawn = 1; begun = 3 }) (says.Start (Some 2) OffClass (Some 0) (Some 1) (Some 2) None) → ⊥
off_has_none same = cc

-- an end has its event's number and the last one that was drawn; of an event that isn't let through it has none
ends : IsNumbered (record fresh { drawn = 3; opened = waiting ∷ [] }) (says.End (Some 1) (Some 3) (Some 0) (Some 1))
ends = (refl, refl)

off_ends : IsNumbered (record fresh { drawn = 3; opened = passing ∷ [] }) (says.End None None None None)
off_ends = (refl, refl)

ends_at_its_own : IsNumbered (record fresh { drawn = 3; opened = waiting ∷ [] }) (says.End (Some 1) (Some 1) (Some 0) (Some 1)) → ⊥
ends_at_its_own is = let last : ◌≡◌ {A = Option ℕ} (Some 1) (Some 3) = is.1 in cc

-- an event lies in the innermost one that is let through
nesting : nesting_of (passing ∷ selecting ∷ waiting ∷ []) ≡ Some selecting
nesting = refl

in_none : nesting_of (passing ∷ []) ≡ None
in_none = refl

-- what an event adds: its duration where it is timed; the numbers of a statement are its own in any case
abbrev facts : ℕ → ℕ → Facts
facts session index = record { start = 10; duration = 5; lock = 2; errors = 0; warnings = 1; affected = 0; sent = 3; examined = 4 }

adds_time : amount_by (flags_of_all 28888 3 3 3) (λ session. Some 0) facts 1 selecting ≡ record zero_of { count = 1; sum = 5; min = 5; max = 5; lock = 2; warnings = 1; sent = 3; examined = 4 }
adds_time = refl

adds_no_time : amount_by (flags_of_all 28888 3 1 3) (λ session. Some 0) facts 1 selecting ≡ record zero_of { count = 1; lock = 2; warnings = 1; sent = 3; examined = 4 }
adds_no_time = refl
