-- Whether a line may stand behind the lines before it, by counts and tests of them all; else the least reason why not.
use Rattle.std.specs.Prelude.{ℕ, ◌==◌, ◌&&◌, ◌||◌, Bool, true, false, not, nat_lt, nat_le, if◌then◌else◌, List, [], ◌∷◌, ◌++◌, length, map, codes, Option, Some, None, is_none, is_some, Result, Ok, Err, count_by}
use Rattle.std.specs.List.{list_any, list_all}
use Rattle.std.specs.Str.{bytes_eq}
use Rattle.pfs_rows.specs.declared.limits.Limit.{Limit}
use Rattle.pfs_rows.specs.Limits.{order_of, least_of, most_of}
use Rattle.pfs_classes.specs.Kinds.{is_fixed}
use Rattle.pfs_event.specs.declared.kind.EventKind.{EventKind}
use Rattle.pfs_event.specs.declared.kind.EventKind.TheVariants as kinds
use Rattle.pfs_script.specs.declared.forms.Form.{Form}
use Rattle.pfs_script.specs.declared.forms.Form.TheVariants as form
use Rattle.pfs_script.specs.declared.reasons.Reason.{Reason}
use Rattle.pfs_script.specs.declared.reasons.Reason.TheVariants.{OutOfPlace, BadNumber, BadSession, UnknownName, BadLimit, BadNesting, BadStatement, TooLong, TooMuch}
use Rattle.pfs_script.specs.Headings.{named_limit, named_consumer, is_before_limits, is_known}
use Rattle.pfs_script.specs.Marks.{Mark, Opens, Ends, EndsStage, Passes}
use Rattle.pfs_script.specs.Brackets.{open_in, kinds_of, innermost, may_stand, is_in_statement}
use Rattle.pfs_script.specs.Sessions.{is_phase, phase_of, is_block_of, session_now, lines_of, has_quit}
use Rattle.pfs_script.specs.Finds.{is_refused, tables_of}
use Rattle.pfs_script.specs.CommandFronts.{begins_with}
use Rattle.pfs_script.specs.LineCounts.{ahead_of_last, is_repeat, is_in_repeat, counted}
use Rattle.pfs_script.specs.declared.forms.Numbers.{Numbers}
use Rattle.pfs_script.specs.Forms.{form}

abbrev pub is_class : Form → Bool
is_class (form.Class name kind enabled timed) = true
is_class _ = false

-- what a line does to the events of its block that are open
abbrev pub mark_of_form : Form → Mark
mark_of_form (form.Wait class) = Opens kinds.Wait
mark_of_form (form.TableWait class schema name) = Opens kinds.Wait
mark_of_form (form.Statement class text) = Opens kinds.Statement
mark_of_form (form.Transaction access) = Opens kinds.Transaction
mark_of_form (form.Stage class) = Opens kinds.Stage
mark_of_form form.StageEnd = EndsStage
mark_of_form form.End = Ends
mark_of_form (form.EndStatement numbers) = Ends
mark_of_form _ = Passes

-- the kinds of a session's events that are open behind all its lines so far, from the innermost on
abbrev pub session_kinds : ℕ → List Form → List EventKind
session_kinds number before = kinds_of (open_in (map mark_of_form (lines_of number before)))

-- those of the session in whose block the next line stands
unfoldable pub kinds_open : List Form → List EventKind
kinds_open before = session_kinds (session_now before) before

abbrev pub same_kind : EventKind → EventKind → Bool
same_kind kinds.Wait kinds.Wait = true
same_kind kinds.Stage kinds.Stage = true
same_kind kinds.Statement kinds.Statement = true
same_kind kinds.Transaction kinds.Transaction = true
same_kind _ _ = false

-- the same kinds in the same order
abbrev pub same_kinds : List EventKind → List EventKind → Bool
same_kinds [] [] = true
same_kinds [] (other ∷ others) = false
same_kinds (kind ∷ kinds) [] = false
same_kinds (kind ∷ kinds) (other ∷ others) = same_kind kind other && same_kinds kinds others

-- no block line may stand there: no block has begun in the phase, or its session has quit
abbrev pub is_blockless : List Form → Bool
is_blockless before = (session_now before == 0) || has_quit (session_now before) before

-- limits stand before all other lines but silent ones, what sets up before the first phase, sessions in a phase, and
-- the lines of a block behind its session and before its `quit`; a repeat holds no other repeat, no session, no phase
-- and no `quit`
abbrev pub is_out_of_place : List Form → Form → Bool
is_out_of_place before (form.Limit name value) = not (list_all is_before_limits before)
is_out_of_place before (form.Class name kind enabled timed) = list_any is_phase before
is_out_of_place before (form.Consumer name on) = list_any is_phase before
is_out_of_place before (form.Instrument pattern enabled timed) = list_any is_phase before
is_out_of_place before (form.Connect session user host) = not (list_any is_phase before) || is_in_repeat before
is_out_of_place before (form.Resume session) = not (list_any is_phase before) || is_in_repeat before
is_out_of_place before form.Phase = is_in_repeat before
is_out_of_place before (form.Wait class) = is_blockless before
is_out_of_place before (form.TableWait class schema name) = is_blockless before
is_out_of_place before (form.Statement class text) = is_blockless before
is_out_of_place before (form.Transaction access) = is_blockless before
is_out_of_place before (form.Stage class) = is_blockless before
is_out_of_place before form.StageEnd = is_blockless before
is_out_of_place before (form.Spend time) = is_blockless before
is_out_of_place before form.End = is_blockless before
is_out_of_place before (form.EndStatement numbers) = is_blockless before
is_out_of_place before (form.Sql text) = is_blockless before
is_out_of_place before form.Quit = is_blockless before || is_in_repeat before
is_out_of_place before (form.Repeat times) = is_blockless before || is_in_repeat before
is_out_of_place before form.Done = not (is_in_repeat before)
is_out_of_place before _ = false

-- one of the six numbers is over 2^64 - 1
abbrev pub has_bad_number : Numbers → Bool
has_bad_number numbers =
    is_none numbers.lock || is_none numbers.errors || is_none numbers.warnings || is_none numbers.affected
    || is_none numbers.sent || is_none numbers.examined

-- it is over 2^64 - 1, or 0
abbrev pub is_no_count : Option ℕ → Bool
is_no_count None = true
is_no_count (Some times) = times == 0

-- a number is over 2^64 - 1, or a repeat runs no time
abbrev pub is_bad_number : Form → Bool
is_bad_number (form.Limit name value) = is_none value
is_bad_number (form.Connect session user host) = is_none session
is_bad_number (form.Resume session) = is_none session
is_bad_number (form.Spend time) = is_none time
is_bad_number (form.EndStatement numbers) = has_bad_number numbers
is_bad_number (form.Repeat times) = is_no_count times
is_bad_number _ = false

-- the sessions have the numbers 1 to 64
abbrev pub is_outside : ℕ → Bool
is_outside number = not (nat_le 1 number && nat_le number 64)

-- a session gives its names at its first block and nowhere else, has one block at most in a phase, and none when it
-- has quit
abbrev pub is_bad_session : List Form → Form → Bool
is_bad_session before (form.Connect (Some number) user host) = is_outside number || list_any (is_block_of number) before
is_bad_session before (form.Resume (Some number)) =
    is_outside number || (not (list_any (is_block_of number) before)
    || (list_any (is_block_of number) (phase_of before) || has_quit number before))
is_bad_session before _ = false

-- the name is that of a class which a wait, a statement or a stage can have; the forms see to it that it is of their
-- kind
abbrev pub is_event_class : List Form → List ℕ → Bool
is_event_class before class = is_known before class && not (bytes_eq class (codes "transaction"))

-- a limit's and a consumer's name is in its table; a new class has a name of its own and a kind that a script may add
-- to; an event's class is known, though it may be lost
abbrev pub is_unknown : List Form → Form → Bool
is_unknown before (form.Limit name value) = is_none (named_limit name)
is_unknown before (form.Class name kind enabled timed) = is_fixed kind || is_known before name
is_unknown before (form.Consumer name on) = is_none (named_consumer name)
is_unknown before (form.Wait class) = not (is_event_class before class)
is_unknown before (form.TableWait class schema name) = not (is_event_class before class)
is_unknown before (form.Statement class text) = not (is_event_class before class)
is_unknown before (form.Stage class) = not (is_event_class before class)
is_unknown before _ = false

-- the value is in the limit's range
abbrev pub is_within : Option Limit → ℕ → Bool
is_within (Some one) value = nat_le (least_of one) value && nat_le value (most_of one)
is_within None value = true

abbrev pub same_limit : Option Limit → Option Limit → Bool
same_limit (Some one) (Some other) = order_of one == order_of other
same_limit _ _ = false

-- the line gives this limit
abbrev pub gives : Option Limit → Form → Bool
gives one (form.Limit name value) = same_limit one (named_limit name)
gives one _ = false

-- a limit's value is in its range, and it is given once
abbrev pub is_bad_limit : List Form → Form → Bool
is_bad_limit before (form.Limit name (Some value)) =
    not (is_within (named_limit name) value) || list_any (gives (named_limit name)) before
is_bad_limit before _ = false

-- an event starts where its kind may, an end has something to end, and one with numbers a statement; at a `quit`
-- nothing is open; a repeat leaves events of the kinds open that were open where it began. All are judged over all
-- lines of the session
abbrev pub is_bad_nesting : List Form → Form → Bool
is_bad_nesting before (form.EndStatement numbers) = not (is_in_statement (kinds_open before))
is_bad_nesting before form.Quit = is_some (innermost (kinds_open before))
is_bad_nesting before form.Done = not (same_kinds (kinds_open before) (kinds_open (ahead_of_last is_repeat before)))
is_bad_nesting before line = not (may_stand (kinds_open before) (mark_of_form line))

abbrev pub one_each : Form → ℕ
one_each line = 1

-- with this line there are more than 200,000 lines
abbrev pub is_too_long : List Form → Form → Bool
is_too_long before line = nat_lt 200000 (counted one_each (before ++ line ∷ []))

abbrev pub is_select : Form → Bool
is_select (form.Sql text) = begins_with (codes "select") text
is_select _ = false

-- 1 for a SELECT
abbrev pub one_select : Form → ℕ
one_select line = if is_select line then 1 else 0

-- what an SQL command weighs
abbrev pub sql_weight : List ℕ → ℕ
sql_weight text = if begins_with (codes "select") text then 10000
    else (if begins_with (codes "truncate") text then 20000 else 300)

-- what a line weighs
abbrev pub weight_of : Form → ℕ
weight_of form.Phase = 10000
weight_of (form.Connect session user host) = 300
weight_of (form.Sql text) = sql_weight text
weight_of form.Quit = 300
weight_of (form.Wait class) = 8
weight_of (form.TableWait class schema name) = 8
weight_of (form.Statement class text) = 8
weight_of (form.Transaction access) = 8
weight_of (form.Stage class) = 8
weight_of form.StageEnd = 8
weight_of form.End = 8
weight_of (form.EndStatement numbers) = 8
weight_of _ = 1

-- with this line there are more than so many that pass the test
abbrev pub has_over : ℕ → (Form → Bool) → List Form → Form → Bool
has_over most test before line = nat_lt most (count_by test (before ++ line ∷ []))

-- with this line there are more than 64 phases, 256 classes of the script's own, 64 tables or 256 SELECTs, or the
-- lines weigh more than 5,000,000; a repeat counts in full at its `done`
abbrev pub is_too_much : List Form → Form → Bool
is_too_much before line =
    has_over 64 is_phase before line
    || (has_over 256 is_class before line || (nat_lt 256 (counted one_select (before ++ line ∷ []))
    || nat_lt 5000000 (counted weight_of (before ++ line ∷ []))))

-- with this line there are more than 64 tables
abbrev pub is_table_too_many : List Form → Form → Bool
is_table_too_many before line = nat_lt 64 (length (tables_of (before ++ line ∷ [])))

-- the lexer refuses the text of the statement
abbrev pub is_bad_statement : Form → Bool
is_bad_statement (form.Statement class text) = is_refused text
is_bad_statement _ = false

-- the least reason for which a line may not stand there
unfoldable pub fault_of : List Form → Form → Option Reason
fault_of before line =
    if is_out_of_place before line then Some OutOfPlace
    else (if is_bad_number line then Some BadNumber
    else (if is_bad_session before line then Some BadSession
    else (if is_unknown before line then Some UnknownName
    else (if is_bad_limit before line then Some BadLimit
    else (if is_bad_nesting before line then Some BadNesting
    else (if is_bad_statement line then Some BadStatement
    else (if is_too_long before line then Some TooLong
    else (if is_too_much before line || is_table_too_many before line then Some TooMuch
    else None))))))))

-- the line, where it has no fault
abbrev pub unless_fault : Form → Option Reason → Result Form Reason
unless_fault line None = Ok line
unless_fault line (Some reason) = Err reason

-- the form, where it may stand behind the lines before it
abbrev pub placed : List Form → Result Form Reason → Result Form Reason
placed before (Ok line) = unless_fault line (fault_of before line)
placed before (Err reason) = Err reason

-- what the next line says, or its least fault: first of its bytes, then of its place
unfoldable pub next : List Form → List ℕ → Result Form Reason
next before bytes = placed before (form bytes)
