-- What one line says, by its bytes alone.
use Rattle.std.specs.Prelude.{ℕ, Bool, ◌==◌, ◌&&◌, ◌||◌, if◌then◌else◌, List, [], length, slice_index, codes, Option, Some, None, Result, Ok, Err, option_map, option_and_then}
use Rattle.std.specs.List.{list_all}
use Rattle.std.specs.Str.{bytes_eq}
use Rattle.pfs_classes.specs.declared.kind.Kind.{Kind}
use Rattle.pfs_classes.specs.declared.kind.Kind.TheVariants.{Mutex, Rwlock, Cond, File, Socket, TableIo, TableLock, Stage as KindStage, Statement as KindStatement}
use Rattle.pfs_classes.specs.Kinds.{Fits, kind_of}
use Rattle.pfs_script.specs.Numerals.{number_of, numbers_of}
use Rattle.pfs_script.specs.ScriptWords.{is_script_byte, word_of, rest_of, schema_of, table_of, is_word, is_name, is_table_name, switch_of, switches_of}
use Rattle.pfs_script.specs.declared.words.Switches.{Switches}
use Rattle.pfs_script.specs.declared.blocks.Access.TheVariants.{ReadWrite, ReadOnly}
use Rattle.pfs_script.specs.declared.forms.Form.{Form}
use Rattle.pfs_script.specs.declared.forms.Form.TheVariants.{Silent, Limit, Class, Consumer, Instrument, Phase, Connect, Resume, Wait, TableWait, Statement, Transaction, Stage, StageEnd, Spend, End, EndStatement, Sql, Quit, Repeat, Done}
use Rattle.pfs_script.specs.declared.reasons.Reason.{Reason}
use Rattle.pfs_script.specs.declared.reasons.Reason.TheVariants.{BadByte, BadForm}

-- an empty line, or a comment
unfoldable pub is_silent : List ℕ → Bool
is_silent bytes = (length bytes == 0) || (slice_index bytes 0 == 35)

-- `limit NAME N`
abbrev pub limit_of : List ℕ → Option ℕ → Option Form
limit_of name value = if is_word name then Some (Limit name value) else None

unfoldable pub limit_form : List ℕ → Option Form
limit_form words = option_and_then (limit_of (word_of words)) (option_and_then number_of (rest_of words))

-- the kind of a class that may stand on a `class` line: `transaction` is the bare name of a kind
unfoldable pub class_kind_of : List ℕ → Option Kind
class_kind_of name = if bytes_eq name (codes "transaction") then None else kind_of name

-- `class NAME YES|NO YES|NO`
abbrev pub class_of : List ℕ → Switches → Option Form
class_of name switches = option_map (λ kind. Class name kind switches.enabled switches.timed) (class_kind_of name)

unfoldable pub class_form : List ℕ → Option Form
class_form words = option_and_then (class_of (word_of words)) (option_and_then switches_of (rest_of words))

-- the kind that a `class` line says is the kind of its name
abbrev pub HasItsKind : Form → Type 0
HasItsKind (Class name kind enabled timed) = Fits name kind
HasItsKind _ = Unit {0}

-- `consumer NAME YES|NO`
abbrev pub consumer_of : List ℕ → Bool → Option Form
consumer_of name on = if is_word name then Some (Consumer name on) else None

unfoldable pub consumer_form : List ℕ → Option Form
consumer_form words = option_and_then (consumer_of (word_of words)) (option_and_then switch_of (rest_of words))

-- `instrument PATTERN YES|NO YES|NO`
abbrev pub instrument_of : List ℕ → Switches → Option Form
instrument_of pattern switches = if is_word pattern then Some (Instrument pattern switches.enabled switches.timed)
    else None

unfoldable pub instrument_form : List ℕ → Option Form
instrument_form words = option_and_then (instrument_of (word_of words)) (option_and_then switches_of (rest_of words))

-- `session K USER HOST`, from USER on
abbrev pub connect_of : Option ℕ → List ℕ → List ℕ → Option Form
connect_of session user host = if is_name 32 user && is_name 60 host then Some (Connect session user host) else None

unfoldable pub connect_form : Option ℕ → List ℕ → Option Form
connect_form session names = option_and_then (connect_of session (word_of names)) (rest_of names)

-- `session K`, or `session K USER HOST`
abbrev pub session_of : Option (List ℕ) → Option ℕ → Option Form
session_of None session = Some (Resume session)
session_of (Some names) session = connect_form session names

unfoldable pub session_form : List ℕ → Option Form
session_form words = option_and_then (session_of (rest_of words)) (number_of (word_of words))

-- `start CLASS`
abbrev pub start_of_kind : List ℕ → Kind → Option Form
start_of_kind class Mutex = Some (Wait class)
start_of_kind class Rwlock = Some (Wait class)
start_of_kind class Cond = Some (Wait class)
start_of_kind class File = Some (Wait class)
start_of_kind class Socket = Some (Wait class)
start_of_kind class KindStatement = Some (Statement class [])
start_of_kind class _ = None

unfoldable pub start_class : List ℕ → Option Form
start_class class = option_and_then (start_of_kind class) (kind_of class)

-- `start transaction rw`, `start transaction ro`
unfoldable pub transaction_form : List ℕ → Option Form
transaction_form access =
    if bytes_eq access (codes "rw") then Some (Transaction ReadWrite)
    else (if bytes_eq access (codes "ro") then Some (Transaction ReadOnly) else None)

-- `start CLASS SCHEMA.NAME`
abbrev pub table_wait_of : List ℕ → List ℕ → List ℕ → Option Form
table_wait_of class schema name =
    if is_table_name schema && is_table_name name then Some (TableWait class schema name) else None

unfoldable pub table_wait_form : List ℕ → List ℕ → Option Form
table_wait_form class place = option_and_then (table_wait_of class (schema_of place)) (table_of place)

-- `start CLASS` with more behind it
abbrev pub start_of_kind_with : List ℕ → List ℕ → Kind → Option Form
start_of_kind_with class more TableIo = table_wait_form class more
start_of_kind_with class more TableLock = table_wait_form class more
start_of_kind_with class more KindStatement = Some (Statement class more)
start_of_kind_with class more _ = None

unfoldable pub start_class_with : List ℕ → List ℕ → Option Form
start_class_with class more =
    if bytes_eq class (codes "transaction") then transaction_form more
    else option_and_then (start_of_kind_with class more) (kind_of class)

abbrev pub start_of : List ℕ → Option (List ℕ) → Option Form
start_of class None = start_class class
start_of class (Some more) = start_class_with class more

unfoldable pub start_form : List ℕ → Option Form
start_form words = start_of (word_of words) (rest_of words)

-- `stage -`, `stage NAME`
abbrev pub stage_of : List ℕ → Kind → Option Form
stage_of class KindStage = Some (Stage class)
stage_of class _ = None

unfoldable pub stage_form : List ℕ → Option Form
stage_form word = if bytes_eq word (codes "-") then Some StageEnd else option_and_then (stage_of word) (kind_of word)

-- `spend N`
unfoldable pub spend_form : List ℕ → Option Form
spend_form word = option_map Spend (number_of word)

-- `end L E W A S X`
unfoldable pub end_form : List ℕ → Option Form
end_form words = option_map EndStatement (numbers_of words)

-- `sql TEXT`
unfoldable pub sql_form : List ℕ → Option Form
sql_form text = if is_word text then Some (Sql text) else None

-- `repeat N`
unfoldable pub repeat_form : List ℕ → Option Form
repeat_form word = option_map Repeat (number_of word)

-- a line of one word
unfoldable pub bare_form : List ℕ → Option Form
bare_form word =
    if bytes_eq word (codes "phase") then Some Phase
    else (if bytes_eq word (codes "end") then Some End
    else (if bytes_eq word (codes "quit") then Some Quit
    else (if bytes_eq word (codes "done") then Some Done
    else None)))

-- a block's line: a word, and what stands behind it
unfoldable pub block_form : List ℕ → List ℕ → Option Form
block_form word words =
    if bytes_eq word (codes "stage") then stage_form words
    else (if bytes_eq word (codes "spend") then spend_form words
    else (if bytes_eq word (codes "end") then end_form words
    else (if bytes_eq word (codes "sql") then sql_form words
    else (if bytes_eq word (codes "repeat") then repeat_form words
    else None))))

-- any line of a word and what stands behind it
unfoldable pub long_form : List ℕ → List ℕ → Option Form
long_form word words =
    if bytes_eq word (codes "limit") then limit_form words
    else (if bytes_eq word (codes "class") then class_form words
    else (if bytes_eq word (codes "consumer") then consumer_form words
    else (if bytes_eq word (codes "instrument") then instrument_form words
    else (if bytes_eq word (codes "session") then session_form words
    else (if bytes_eq word (codes "start") then start_form words
    else block_form word words)))))

abbrev pub form_of : List ℕ → Option (List ℕ) → Option Form
form_of word None = bare_form word
form_of word (Some words) = long_form word words

-- a line of words
unfoldable pub words_form : List ℕ → Option Form
words_form bytes = form_of (word_of bytes) (rest_of bytes)

abbrev pub or_bad_form : Option Form → Result Form Reason
or_bad_form (Some form) = Ok form
or_bad_form None = Err BadForm

-- what a line says, or why it says nothing
unfoldable pub form : List ℕ → Result Form Reason
form bytes =
    if list_all is_script_byte bytes then (if is_silent bytes then Ok Silent else or_bad_form (words_form bytes))
    else Err BadByte
