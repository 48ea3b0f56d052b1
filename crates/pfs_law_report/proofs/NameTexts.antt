-- The names of a script, and of its tables, have only bytes that its lines have, and its digest texts those and
-- printable ones.
use Rattle.std.proofs.Common.{ℕ, ◌≡◌, ◌+◌, ◌==◌, Bool, true, false, ◌&&◌, ◌||◌, cond, nat_lt, List, [], ◌∷◌, ◌++◌, length, map, drop, Option, Some, None, Result, Ok, Err, refl, subst}
use Rattle.std.specs.Prelude.{codes, is_some, option_map, option_and_then, position}
use Rattle.std.specs.List.{All, fold, list_all, list_any, position_or_len}
use Rattle.std.specs.Option.{IfSome}
use Rattle.std.specs.Str.{bytes_eq}
use Rattle.std.proofs.lemmas.Bool.{and_parts}
use Rattle.std.proofs.lemmas.List.Elements.{All-nil, All-cons, All-drop, All-push, All-same, All-take}
use Rattle.pfs_classes.specs.Builtins.{Row, builtins, with_builtins, with_rows}
use Rattle.pfs_classes.specs.declared.kind.Kind.{Kind}
use Rattle.pfs_classes.specs.declared.kind.Kind.TheVariants.{Mutex, Rwlock, Cond, File, Socket, TableIo, TableLock, Stage as KindStage, Statement as KindStatement, Transaction as KindTransaction}
use Rattle.pfs_classes.specs.Kinds.{kind_of}
use Rattle.pfs_classes.specs.declared.setting.DigestText.{DigestText}
use Rattle.pfs_classes.specs.declared.setting.TableName.{TableName}
use Rattle.pfs_digest.proofs.Bytes.{digest_plain, is_printable}
use Rattle.pfs_digest.specs.Digest.{digest_text_of}
use Rattle.pfs_journal.specs.Reports.{IsText, is_text_byte}
use Rattle.pfs_lexer.specs.declared.tokens.LexFault.{LexFault}
use Rattle.pfs_model.specs.Chains.{Each}
use Rattle.pfs_names.specs.InternedTexts.{interned}
use Rattle.pfs_script.specs.Finds.{add_digest, digests_of, has_text, of_text, table_number, tables_of, with_digest, with_table}
use Rattle.pfs_script.specs.Forms.{class_kind_of, class_of, class_form, limit_of, limit_form, consumer_of, consumer_form, instrument_of, instrument_form, connect_of, connect_form, session_of, session_form, start_of_kind, start_class, transaction_form, table_wait_of, table_wait_form, start_of_kind_with, start_class_with, start_of, start_form, stage_of, stage_form, spend_form, end_form, sql_form, repeat_form, bare_form, block_form, long_form, form_of, words_form, or_bad_form, is_silent, form}
use Rattle.pfs_script.specs.Headings.{Naming, head_of, limits_of, naming_behind, naming_of, naming_under, with_class}
use Rattle.pfs_script.specs.Reasons.{fault_of, next, placed, unless_fault}
use Rattle.pfs_script.specs.Numerals.{number_of, numbers_of}
use Rattle.pfs_script.specs.Scripts.{Begins, IsScript}
use Rattle.pfs_script.specs.SessionNames.{names_of, with_session}
use Rattle.pfs_script.specs.ScriptWords.{is_dot, is_script_byte, is_space, word_of, rest_of, schema_of, table_of, is_word, is_name, is_table_name, switch_of, switches_of}
use Rattle.pfs_script.specs.declared.blocks.Access.TheVariants.{ReadWrite, ReadOnly}
use Rattle.pfs_script.specs.declared.forms.Form.{Form}
use Rattle.pfs_script.specs.declared.forms.Form.TheVariants.{Silent, Limit, Class, Consumer, Instrument, Phase, Connect, TableWait, Statement, Transaction, StageEnd, Spend, End, EndStatement, Sql, Quit, Repeat, Done}
use Rattle.pfs_script.specs.declared.reasons.Reason.{Reason}
use Rattle.pfs_script.specs.declared.reasons.Reason.TheVariants.{BadByte}
use Rattle.pfs_law_report.specs.ReportableRuns.{IsNamedTable, NamesLaw, TableNamesLaw, TextsLaw}

-- the names that a line gives, those of its table, its statement and its text of SQL, are texts
abbrev pub IsClean : Form → Type 0
IsClean (Class name kind enabled timed) = IsText name
IsClean (Connect session user host) = IsText user × IsText host
IsClean (Statement class text) = IsText text
IsClean (TableWait class schema name) = IsText schema × IsText name
IsClean (Sql text) = IsText text
IsClean _ = Unit {0}

-- ---- parts of a text

tested_text : (text : List ℕ) → list_all is_text_byte text ≡ true → IsText text
tested_text [] e = All-nil (λ b. is_text_byte b ≡ true)
tested_text (b ∷ bs) e = let h = and_parts (is_text_byte b) (list_all is_text_byte bs) e in All-cons (λ b. is_text_byte b ≡ true) b bs h.0 (tested_text bs h.1)

word_text : (bytes : List ℕ) → IsText bytes → IsText (word_of bytes)
unfolding word_of
word_text bytes text = All-take (λ b. is_text_byte b ≡ true) (position_or_len is_space bytes) bytes text

rest_text : (bytes : List ℕ) → IsText bytes → IfSome (rest_of bytes) IsText
unfolding rest_of
rest_text bytes text = at (position is_space bytes)
  where
    at : (o : Option ℕ) → IfSome (option_map (λ at. drop (at + 1) bytes) o) IsText
    at None = tt
    at (Some k) = All-drop (λ b. is_text_byte b ≡ true) (k + 1) bytes text

schema_text : (bytes : List ℕ) → IsText bytes → IsText (schema_of bytes)
unfolding schema_of
schema_text bytes text = All-take (λ b. is_text_byte b ≡ true) (position_or_len is_dot bytes) bytes text

table_text : (bytes : List ℕ) → IsText bytes → IfSome (table_of bytes) IsText
unfolding table_of
table_text bytes text = at (position is_dot bytes)
  where
    at : (o : Option ℕ) → IfSome (option_map (λ at. drop (at + 1) bytes) o) IsText
    at None = tt
    at (Some k) = All-drop (λ b. is_text_byte b ≡ true) (k + 1) bytes text

-- ---- forms

abbrev Keeps : Option Form → Type 0
Keeps found = IfSome found IsClean

either : (test : Bool) (a b : Option Form) → Keeps a → Keeps b → Keeps (cond test a b)
either true a b p q = p
either false a b p q = q

chosen : (test : Bool) (f : Form) → IsClean f → Keeps (cond test (Some f) None)
chosen true f p = p
chosen false f p = tt

then_by : {A : Type 0} (f : A → Option Form) (o : Option A) → ((a : A) → Keeps (f a)) → Keeps (option_and_then f o)
then_by f None h = tt
then_by f (Some a) h = h a

then_text : (f : List ℕ → Option Form) (o : Option (List ℕ)) → IfSome o IsText → ((text : List ℕ) → IsText text → Keeps (f text)) → Keeps (option_and_then f o)
then_text f None is h = tt
then_text f (Some text) is h = h text is

made_by : {A : Type 0} (f : A → Form) (o : Option A) → ((a : A) → IsClean (f a)) → Keeps (option_map f o)
made_by f None h = tt
made_by f (Some a) h = h a

limit_keeps : (words : List ℕ) → Keeps (limit_form words)
unfolding limit_form
limit_keeps words = then_by (limit_of (word_of words)) (option_and_then number_of (rest_of words)) (λ value. chosen (is_word (word_of words)) (Limit (word_of words) value) tt)

class_keeps : (words : List ℕ) → IsText words → Keeps (class_form words)
unfolding class_form
class_keeps words text =
    then_by (class_of (word_of words)) (option_and_then switches_of (rest_of words))
    (λ s. made_by (λ kind. Class (word_of words) kind s.enabled s.timed) (class_kind_of (word_of words)) (λ kind. word_text words text))

consumer_keeps : (words : List ℕ) → Keeps (consumer_form words)
unfolding consumer_form
consumer_keeps words = then_by (consumer_of (word_of words)) (option_and_then switch_of (rest_of words)) (λ on. chosen (is_word (word_of words)) (Consumer (word_of words) on) tt)

instrument_keeps : (words : List ℕ) → Keeps (instrument_form words)
unfolding instrument_form
instrument_keeps words = then_by (instrument_of (word_of words)) (option_and_then switches_of (rest_of words)) (λ s. chosen (is_word (word_of words)) (Instrument (word_of words) s.enabled s.timed) tt)

connect_keeps : (session : Option ℕ) (names : List ℕ) → IsText names → Keeps (connect_form session names)
unfolding connect_form
connect_keeps session names text =
    then_text (connect_of session (word_of names)) (rest_of names) (rest_text names text)
    (λ host h. chosen (is_name 32 (word_of names) && is_name 60 host) (Connect session (word_of names) host) (word_text names text, h))

by_rest : (session : Option ℕ) (rest : Option (List ℕ)) → IfSome rest IsText → Keeps (session_of rest session)
by_rest session None text = tt
by_rest session (Some names) text = connect_keeps session names text

session_keeps : (words : List ℕ) → IsText words → Keeps (session_form words)
unfolding session_form
session_keeps words text = then_by (session_of (rest_of words)) (number_of (word_of words)) (λ session. by_rest session (rest_of words) (rest_text words text))

start_kind_keeps : (class : List ℕ) (kind : Kind) → Keeps (start_of_kind class kind)
start_kind_keeps class Mutex = tt
start_kind_keeps class Rwlock = tt
start_kind_keeps class Cond = tt
start_kind_keeps class File = tt
start_kind_keeps class Socket = tt
start_kind_keeps class TableIo = tt
start_kind_keeps class TableLock = tt
start_kind_keeps class KindStage = tt
start_kind_keeps class KindStatement = All-nil (λ b. is_text_byte b ≡ true)
start_kind_keeps class KindTransaction = tt

start_class_keeps : (class : List ℕ) → Keeps (start_class class)
unfolding start_class
start_class_keeps class = then_by (start_of_kind class) (kind_of class) (start_kind_keeps class)

transaction_keeps : (access : List ℕ) → Keeps (transaction_form access)
unfolding transaction_form
transaction_keeps access = either (bytes_eq access (codes "rw")) (Some (Transaction ReadWrite)) _ tt (chosen (bytes_eq access (codes "ro")) (Transaction ReadOnly) tt)

table_wait_keeps : (class place : List ℕ) → IsText place → Keeps (table_wait_form class place)
unfolding table_wait_form
table_wait_keeps class place text =
    then_text (table_wait_of class (schema_of place)) (table_of place) (table_text place text)
    (λ name n. chosen (is_table_name (schema_of place) && is_table_name name) (TableWait class (schema_of place) name) (schema_text place text, n))

start_kind_with_keeps : (class more : List ℕ) → IsText more → (kind : Kind) → Keeps (start_of_kind_with class more kind)
start_kind_with_keeps class more text Mutex = tt
start_kind_with_keeps class more text Rwlock = tt
start_kind_with_keeps class more text Cond = tt
start_kind_with_keeps class more text File = tt
start_kind_with_keeps class more text Socket = tt
start_kind_with_keeps class more text TableIo = table_wait_keeps class more text
start_kind_with_keeps class more text TableLock = table_wait_keeps class more text
start_kind_with_keeps class more text KindStage = tt
start_kind_with_keeps class more text KindStatement = text
start_kind_with_keeps class more text KindTransaction = tt

start_class_with_keeps : (class more : List ℕ) → IsText more → Keeps (start_class_with class more)
unfolding start_class_with
start_class_with_keeps class more text =
    either (bytes_eq class (codes "transaction")) (transaction_form more) (option_and_then (start_of_kind_with class more) (kind_of class))
    (transaction_keeps more) (then_by (start_of_kind_with class more) (kind_of class) (start_kind_with_keeps class more text))

start_of_keeps : (class : List ℕ) (rest : Option (List ℕ)) → IfSome rest IsText → Keeps (start_of class rest)
start_of_keeps class None text = start_class_keeps class
start_of_keeps class (Some more) text = start_class_with_keeps class more text

start_keeps : (words : List ℕ) → IsText words → Keeps (start_form words)
unfolding start_form
start_keeps words text = start_of_keeps (word_of words) (rest_of words) (rest_text words text)

stage_kind_keeps : (class : List ℕ) (kind : Kind) → Keeps (stage_of class kind)
stage_kind_keeps class Mutex = tt
stage_kind_keeps class Rwlock = tt
stage_kind_keeps class Cond = tt
stage_kind_keeps class File = tt
stage_kind_keeps class Socket = tt
stage_kind_keeps class TableIo = tt
stage_kind_keeps class TableLock = tt
stage_kind_keeps class KindStage = tt
stage_kind_keeps class KindStatement = tt
stage_kind_keeps class KindTransaction = tt

stage_keeps : (word : List ℕ) → Keeps (stage_form word)
unfolding stage_form
stage_keeps word = either (bytes_eq word (codes "-")) (Some StageEnd) (option_and_then (stage_of word) (kind_of word)) tt (then_by (stage_of word) (kind_of word) (stage_kind_keeps word))

spend_keeps : (word : List ℕ) → Keeps (spend_form word)
unfolding spend_form
spend_keeps word = made_by Spend (number_of word) (λ time. tt)

end_keeps : (words : List ℕ) → Keeps (end_form words)
unfolding end_form
end_keeps words = made_by EndStatement (numbers_of words) (λ numbers. tt)

sql_keeps : (words : List ℕ) → IsText words → Keeps (sql_form words)
unfolding sql_form
sql_keeps words text = chosen (is_word words) (Sql words) text

repeat_keeps : (word : List ℕ) → Keeps (repeat_form word)
unfolding repeat_form
repeat_keeps word = made_by Repeat (number_of word) (λ times. tt)

bare_keeps : (word : List ℕ) → Keeps (bare_form word)
unfolding bare_form
bare_keeps word =
    either (bytes_eq word (codes "phase")) (Some Phase) _ tt
    (either (bytes_eq word (codes "end")) (Some End) _ tt
    (either (bytes_eq word (codes "quit")) (Some Quit) _ tt
    (chosen (bytes_eq word (codes "done")) Done tt)))

block_keeps : (word words : List ℕ) → IsText words → Keeps (block_form word words)
unfolding block_form
block_keeps word words text =
    either (bytes_eq word (codes "stage")) (stage_form words) _ (stage_keeps words)
    (either (bytes_eq word (codes "spend")) (spend_form words) _ (spend_keeps words)
    (either (bytes_eq word (codes "end")) (end_form words) _ (end_keeps words)
    (either (bytes_eq word (codes "sql")) (sql_form words) _ (sql_keeps words text)
    (either (bytes_eq word (codes "repeat")) (repeat_form words) None (repeat_keeps words) tt))))

long_keeps : (word words : List ℕ) → IsText words → Keeps (long_form word words)
unfolding long_form
long_keeps word words text =
    either (bytes_eq word (codes "limit")) (limit_form words) _ (limit_keeps words)
    (either (bytes_eq word (codes "class")) (class_form words) _ (class_keeps words text)
    (either (bytes_eq word (codes "consumer")) (consumer_form words) _ (consumer_keeps words)
    (either (bytes_eq word (codes "instrument")) (instrument_form words) _ (instrument_keeps words)
    (either (bytes_eq word (codes "session")) (session_form words) _ (session_keeps words text)
    (either (bytes_eq word (codes "start")) (start_form words) (block_form word words) (start_keeps words text) (block_keeps word words text))))))

form_of_keeps : (word : List ℕ) (rest : Option (List ℕ)) → IfSome rest IsText → Keeps (form_of word rest)
form_of_keeps word None text = bare_keeps word
form_of_keeps word (Some words) text = long_keeps word words text

words_keep : (bytes : List ℕ) → IsText bytes → Keeps (words_form bytes)
unfolding words_form
words_keep bytes text = form_of_keeps (word_of bytes) (rest_of bytes) (rest_text bytes text)

-- ---- lines

abbrev SaysClean : Result Form Reason → Type 0
SaysClean (Ok line) = IsClean line
SaysClean (Err reason) = Unit {0}

or_bad_clean : (o : Option Form) → Keeps o → SaysClean (or_bad_form o)
or_bad_clean None k = tt
or_bad_clean (Some line) k = k

form_clean : (bytes : List ℕ) → SaysClean (form bytes)
unfolding form
form_clean bytes = at (list_all is_script_byte bytes) refl
  where
    said : (silent : Bool) → Keeps (words_form bytes) → SaysClean (cond silent (Ok Silent) (or_bad_form (words_form bytes)))
    said true k = tt
    said false k = or_bad_clean (words_form bytes) k

    at : (test : Bool) → list_all is_script_byte bytes ≡ test → SaysClean (cond test (cond (is_silent bytes) (Ok Silent) (or_bad_form (words_form bytes))) (Err BadByte))
    at true e = said (is_silent bytes) (words_keep bytes (tested_text bytes e))
    at false e = tt

unless_clean : (line : Form) (fault : Option Reason) → IsClean line → SaysClean (unless_fault line fault)
unless_clean line None k = k
unless_clean line (Some reason) k = tt

placed_clean : (before : List Form) (said : Result Form Reason) → SaysClean said → SaysClean (placed before said)
placed_clean before (Ok line) k = unless_clean line (fault_of before line) k
placed_clean before (Err reason) k = tt

next_clean : (before : List Form) (bytes : List ℕ) → SaysClean (next before bytes)
unfolding next
next_clean before bytes = placed_clean before (form bytes) (form_clean bytes)

pub lines_clean : (before : List Form) (raws : List (List ℕ)) (lines : List Form) → Begins before raws lines → Each IsClean lines
lines_clean before raws [] b = tt
lines_clean before [] (line ∷ lines) b = absurd b
lines_clean before (raw ∷ raws) (line ∷ lines) b = (subst SaysClean b.0 (next_clean before raw), lines_clean (before ++ line ∷ []) raws lines b.1)

-- ---- names

interned_text : (names : List (List ℕ)) (name : List ℕ) → All IsText names → IsText name → All IsText (interned names name)
unfolding interned
interned_text names name all text = at (list_any (λ one. bytes_eq one name) names)
  where
    at : (known : Bool) → All IsText (cond known names (names ++ name ∷ []))
    at true = all
    at false = All-push IsText names name all text

fold_text : (names more : List (List ℕ)) → All IsText names → Each IsText more → All IsText (fold interned names more)
fold_text names [] all each = all
fold_text names (name ∷ more) all each = fold_text (interned names name) more (interned_text names name all each.0) each.1

tested_texts : (texts : List (List ℕ)) → list_all (list_all is_text_byte) texts ≡ true → Each IsText texts
tested_texts [] e = tt
tested_texts (text ∷ texts) e = let h = and_parts (list_all is_text_byte text) (list_all (list_all is_text_byte) texts) e in (tested_text text h.0, tested_texts texts h.1)

builtin_texts : All IsText (with_builtins [])
builtin_texts =
    interned_text (with_rows [] builtins) (codes "transaction")
    (fold_text [] (map (λ (row : Row). row.name) builtins) (All-nil IsText) (tested_texts (map (λ (row : Row). row.name) builtins) refl)) (tested_text (codes "transaction") refl)

naming_text : (naming : Naming) (line : Form) → All IsText naming.names → IsClean line → All IsText (naming_behind naming line).names
unfolding with_class
naming_text naming (Class name kind enabled timed) all text = interned_text naming.names name all text
naming_text naming (Instrument pattern enabled timed) all text = all
naming_text naming _ all text = all

naming_texts : (naming : Naming) (lines : List Form) → All IsText naming.names → Each IsClean lines → All IsText (fold naming_behind naming lines).names
naming_texts naming [] all each = all
naming_texts naming (line ∷ lines) all each = naming_texts (naming_behind naming line) lines (naming_text naming line all each.0) each.1

head_texts : (lines : List Form) → Each IsClean lines → All IsText (head_of lines).names
unfolding head_of naming_of naming_under
head_texts lines each = naming_texts (naming_under (limits_of lines)) lines builtin_texts each

session_text : (names : List (List ℕ)) (line : Form) → All IsText names → IsClean line → All IsText (with_session names line)
session_text names (Connect session user host) all text = interned_text (interned names user) host (interned_text names user all text.0) text.1
session_text names _ all text = all

session_texts : (names : List (List ℕ)) (lines : List Form) → All IsText names → Each IsClean lines → All IsText (fold with_session names lines)
session_texts names [] all each = all
session_texts names (line ∷ lines) all each = session_texts (with_session names line) lines (session_text names line all each.0) each.1

names_texts : (lines : List Form) → Each IsClean lines → All IsText (names_of lines)
unfolding names_of
names_texts lines each = session_texts (head_of lines).names lines (head_texts lines each) each

pub all_texts : NamesLaw
unfolding IsScript
all_texts = λ text setting phases is. All-same IsText setting.names (names_of is.0) is.2.names (names_texts is.0 (lines_clean [] is.1.0 is.0 is.1.2))

-- ---- digest texts

abbrev IsTextual : DigestText → Type 0
IsTextual digest = IsText digest.text

printable_text : (b : ℕ) → is_printable b ≡ true → is_text_byte b ≡ true
printable_text b e = at (b == 9) (is_printable b) e where
  at : (tab printable : Bool) → printable ≡ true → (tab || printable) ≡ true
  at true printable e = refl
  at false printable e = e

added_textual : (most : ℕ) (digests : List DigestText) (text : List ℕ) (due : Result (List ℕ) LexFault) → IsText text → digest_text_of text ≡ due → All IsTextual digests → All IsTextual (add_digest most digests due)
added_textual most digests text (Err fault) clean e all = all
added_textual most digests text (Ok shown) clean e all = at (is_some (position (has_text shown) digests)) (nat_lt (length digests) most) where
  at : (found room : Bool) → All IsTextual (cond found digests (cond room (digests ++ of_text shown ∷ []) digests))
  at true room = all
  at false true = All-push IsTextual digests (of_text shown) all (digest_plain is_text_byte printable_text text shown clean e)
  at false false = all

line_textual : (most : ℕ) (digests : List DigestText) (line : Form) → All IsTextual digests → IsClean line → All IsTextual (with_digest most digests line)
line_textual most digests (Statement class text) all clean = added_textual most digests text (digest_text_of text) clean refl all
line_textual most digests _ all clean = all

lines_textual : (most : ℕ) (digests : List DigestText) (lines : List Form) → All IsTextual digests → Each IsClean lines → All IsTextual (fold (with_digest most) digests lines)
lines_textual most digests [] all each = all
lines_textual most digests (line ∷ lines) all each = lines_textual most (with_digest most digests line) lines (line_textual most digests line all each.0) each.1

digests_textual : (most : ℕ) (lines : List Form) → Each IsClean lines → All IsTextual (digests_of most lines)
unfolding digests_of
digests_textual most lines each = lines_textual most [] lines (All-nil IsTextual) each

pub all_digests : TextsLaw
unfolding IsScript
all_digests = λ text setting phases is.
    All-same IsTextual setting.digests (digests_of (limits_of is.0).digests is.0) is.2.digests (digests_textual (limits_of is.0).digests is.0 (lines_clean [] is.1.0 is.0 is.1.2))

-- ---- tables

line_named : (tables : List TableName) (line : Form) → All IsNamedTable tables → IsClean line → All IsNamedTable (with_table tables line)
line_named tables (TableWait class schema name) all clean = at (is_some (table_number tables schema name)) where
  at : (known : Bool) → All IsNamedTable (cond known tables (tables ++ record { schema = schema; name = name } ∷ []))
  at true = all
  at false = All-push IsNamedTable tables (record { schema = schema; name = name }) all clean
line_named tables _ all clean = all

lines_named : (tables : List TableName) (lines : List Form) → All IsNamedTable tables → Each IsClean lines → All IsNamedTable (fold with_table tables lines)
lines_named tables [] all each = all
lines_named tables (line ∷ lines) all each = lines_named (with_table tables line) lines (line_named tables line all each.0) each.1

tables_named : (lines : List Form) → Each IsClean lines → All IsNamedTable (tables_of lines)
unfolding tables_of
tables_named lines each = lines_named [] lines (All-nil IsNamedTable) each

pub all_tables_named : TableNamesLaw
unfolding IsScript
all_tables_named = λ text setting phases is.
    All-same IsNamedTable setting.tables (tables_of is.0) is.2.tables (tables_named is.0 (lines_clean [] is.1.0 is.0 is.1.2))
