-- The kind that a `class` line says.
use Rattle.std.proofs.Common.{◌≡◌, ◌↔◌, ℕ, List, Bool, true, false, ◌&&◌, Option, Some, None, sym, refl}
use Rattle.std.specs.Prelude.{cond, codes, IfSome, option_map, option_and_then}
use Rattle.std.specs.Str.{bytes_eq}
use Rattle.pfs_classes.specs.declared.kind.Kind.{Kind}
use Rattle.pfs_classes.specs.declared.kind.Kind.TheVariants.{Mutex, Rwlock, Cond, File, Socket, TableIo, TableLock, Stage as KindStage, Statement as KindStatement, Transaction as KindTransaction}
use Rattle.pfs_classes.specs.Kinds.{Fits, kind_of}
use Rattle.pfs_script.specs.Numerals.{number_of, numbers_of}
use Rattle.pfs_script.specs.ScriptWords.{word_of, rest_of, schema_of, table_of, is_word, is_name, is_table_name, switch_of, switches_of}
use Rattle.pfs_script.specs.declared.words.Switches.{Switches}
use Rattle.pfs_script.specs.declared.blocks.Access.TheVariants.{ReadWrite, ReadOnly}
use Rattle.pfs_script.specs.declared.forms.Form.{Form}
use Rattle.pfs_script.specs.declared.forms.Form.TheVariants.{Limit, Class, Consumer, Instrument, Phase, Connect, TableWait, Transaction, StageEnd, Spend, End, EndStatement, Sql, Quit, Repeat, Done}
use Rattle.pfs_script.specs.Forms.{HasItsKind, limit_of, limit_form, class_kind_of, class_of, class_form, consumer_of, consumer_form, instrument_of, instrument_form, connect_of, connect_form, session_of, session_form, start_of_kind, start_class, transaction_form, table_wait_of, table_wait_form, start_of_kind_with, start_class_with, start_of, start_form, stage_of, stage_form, spend_form, end_form, sql_form, repeat_form, bare_form, block_form, long_form, form_of, words_form}

abbrev Keeps : Option Form → Type 0
Keeps found = IfSome found HasItsKind

either : (test : Bool) (a b : Option Form) → Keeps a → Keeps b → Keeps (cond test a b)
either true a b p q = p
either false a b p q = q

chosen : (test : Bool) (f : Form) → HasItsKind f → Keeps (cond test (Some f) None)
chosen true f p = p
chosen false f p = tt

then_by : {A : Type 0} (f : A → Option Form) (o : Option A) → ((a : A) → Keeps (f a)) → Keeps (option_and_then f o)
then_by f None h = tt
then_by f (Some a) h = h a

made_by : {A : Type 0} (f : A → Form) (o : Option A) → ((a : A) → HasItsKind (f a)) → Keeps (option_map f o)
made_by f None h = tt
made_by f (Some a) h = h a

limit_keeps : (words : List ℕ) → Keeps (limit_form words)
unfolding limit_form
limit_keeps words = then_by (limit_of (word_of words)) (option_and_then number_of (rest_of words)) (λ value. chosen (is_word (word_of words)) (Limit (word_of words) value) tt)

kind_keeps : (name : List ℕ) (switches : Switches) (found : Option Kind) → ((kind : Kind) → found ≡ Some kind → Fits name kind) → Keeps (option_map (λ kind. Class name kind switches.enabled switches.timed) found)
kind_keeps name switches None fits = tt
kind_keeps name switches (Some kind) fits = fits kind refl

kind_found : (name : List ℕ) (bare : Bool) (found : Option Kind) → ((kind : Kind) → found ≡ Some kind → Fits name kind) → (kind : Kind) → cond bare None found ≡ Some kind → Fits name kind
kind_found name true found fits kind e = cc
kind_found name false found fits kind e = fits kind e

class_kind_fits : ((name : List ℕ) (kind : Kind) → kind_of name ≡ Some kind ↔ Fits name kind) → (name : List ℕ) (kind : Kind) → class_kind_of name ≡ Some kind → Fits name kind
unfolding class_kind_of
class_kind_fits exact name kind e = kind_found name (bytes_eq name (codes "transaction")) (kind_of name) (λ k h. (exact name k).0 h) kind e

class_keeps : ((name : List ℕ) (kind : Kind) → kind_of name ≡ Some kind ↔ Fits name kind) → (words : List ℕ) → Keeps (class_form words)
unfolding class_form
class_keeps exact words =
    then_by (class_of (word_of words)) (option_and_then switches_of (rest_of words))
    (λ switches. kind_keeps (word_of words) switches (class_kind_of (word_of words)) (class_kind_fits exact (word_of words)))

consumer_keeps : (words : List ℕ) → Keeps (consumer_form words)
unfolding consumer_form
consumer_keeps words = then_by (consumer_of (word_of words)) (option_and_then switch_of (rest_of words)) (λ on. chosen (is_word (word_of words)) (Consumer (word_of words) on) tt)

instrument_keeps : (words : List ℕ) → Keeps (instrument_form words)
unfolding instrument_form
instrument_keeps words = then_by (instrument_of (word_of words)) (option_and_then switches_of (rest_of words)) (λ s. chosen (is_word (word_of words)) (Instrument (word_of words) s.enabled s.timed) tt)

connect_keeps : (session : Option ℕ) (names : List ℕ) → Keeps (connect_form session names)
unfolding connect_form
connect_keeps session names = then_by (connect_of session (word_of names)) (rest_of names) (λ host. either (is_name 32 (word_of names) && is_name 60 host) (Some (Connect session (word_of names) host)) None tt tt)

by_rest : (session : Option ℕ) (rest : Option (List ℕ)) → Keeps (session_of rest session)
by_rest session None = tt
by_rest session (Some names) = connect_keeps session names

session_keeps : (words : List ℕ) → Keeps (session_form words)
unfolding session_form
session_keeps words = then_by (session_of (rest_of words)) (number_of (word_of words)) (λ session. by_rest session (rest_of words))

start_kind_keeps : (class : List ℕ) (kind : Kind) → Keeps (start_of_kind class kind)
start_kind_keeps class Mutex = tt
start_kind_keeps class Rwlock = tt
start_kind_keeps class Cond = tt
start_kind_keeps class File = tt
start_kind_keeps class Socket = tt
start_kind_keeps class TableIo = tt
start_kind_keeps class TableLock = tt
start_kind_keeps class KindStage = tt
start_kind_keeps class KindStatement = tt
start_kind_keeps class KindTransaction = tt

start_class_keeps : (class : List ℕ) → Keeps (start_class class)
unfolding start_class
start_class_keeps class = then_by (start_of_kind class) (kind_of class) (start_kind_keeps class)

transaction_keeps : (access : List ℕ) → Keeps (transaction_form access)
unfolding transaction_form
transaction_keeps access = either (bytes_eq access (codes "rw")) (Some (Transaction ReadWrite)) _ tt (chosen (bytes_eq access (codes "ro")) (Transaction ReadOnly) tt)

table_wait_keeps : (class place : List ℕ) → Keeps (table_wait_form class place)
unfolding table_wait_form
table_wait_keeps class place = then_by (table_wait_of class (schema_of place)) (table_of place) (λ name. chosen (is_table_name (schema_of place) && is_table_name name) (TableWait class (schema_of place) name) tt)

start_kind_with_keeps : (class more : List ℕ) (kind : Kind) → Keeps (start_of_kind_with class more kind)
start_kind_with_keeps class more Mutex = tt
start_kind_with_keeps class more Rwlock = tt
start_kind_with_keeps class more Cond = tt
start_kind_with_keeps class more File = tt
start_kind_with_keeps class more Socket = tt
start_kind_with_keeps class more TableIo = table_wait_keeps class more
start_kind_with_keeps class more TableLock = table_wait_keeps class more
start_kind_with_keeps class more KindStage = tt
start_kind_with_keeps class more KindStatement = tt
start_kind_with_keeps class more KindTransaction = tt

start_class_with_keeps : (class more : List ℕ) → Keeps (start_class_with class more)
unfolding start_class_with
start_class_with_keeps class more =
    either (bytes_eq class (codes "transaction")) (transaction_form more) (option_and_then (start_of_kind_with class more) (kind_of class))
    (transaction_keeps more) (then_by (start_of_kind_with class more) (kind_of class) (start_kind_with_keeps class more))

start_of_keeps : (class : List ℕ) (rest : Option (List ℕ)) → Keeps (start_of class rest)
start_of_keeps class None = start_class_keeps class
start_of_keeps class (Some more) = start_class_with_keeps class more

start_keeps : (words : List ℕ) → Keeps (start_form words)
unfolding start_form
start_keeps words = start_of_keeps (word_of words) (rest_of words)

stage_kind_keeps : (class : List ℕ) (kind : Kind) → Keeps (stage_of class kind)
stage_kind_keeps class Mutex = tt
stage_kind_keeps class Rwlock = tt
stage_kind_keeps class Cond = tt
stage_kind_keeps class File = tt
stage_kind_keeps class Socket = tt
stage_kind_keeps class TableIo = tt
stage_kind_keeps class TableLock = tt
stage_kind_keeps class KindStage = tt
stage_kind_keeps class KindStatement = tt
stage_kind_keeps class KindTransaction = tt

stage_keeps : (word : List ℕ) → Keeps (stage_form word)
unfolding stage_form
stage_keeps word = either (bytes_eq word (codes "-")) (Some StageEnd) (option_and_then (stage_of word) (kind_of word)) tt (then_by (stage_of word) (kind_of word) (stage_kind_keeps word))

spend_keeps : (word : List ℕ) → Keeps (spend_form word)
unfolding spend_form
spend_keeps word = made_by Spend (number_of word) (λ time. tt)

end_keeps : (words : List ℕ) → Keeps (end_form words)
unfolding end_form
end_keeps words = made_by EndStatement (numbers_of words) (λ numbers. tt)

sql_keeps : (text : List ℕ) → Keeps (sql_form text)
unfolding sql_form
sql_keeps text = chosen (is_word text) (Sql text) tt

repeat_keeps : (word : List ℕ) → Keeps (repeat_form word)
unfolding repeat_form
repeat_keeps word = made_by Repeat (number_of word) (λ times. tt)

bare_keeps : (word : List ℕ) → Keeps (bare_form word)
unfolding bare_form
bare_keeps word =
    either (bytes_eq word (codes "phase")) (Some Phase) _ tt
    (either (bytes_eq word (codes "end")) (Some End) _ tt
    (either (bytes_eq word (codes "quit")) (Some Quit) _ tt
    (chosen (bytes_eq word (codes "done")) Done tt)))

block_keeps : (word words : List ℕ) → Keeps (block_form word words)
unfolding block_form
block_keeps word words =
    either (bytes_eq word (codes "stage")) (stage_form words) _ (stage_keeps words)
    (either (bytes_eq word (codes "spend")) (spend_form words) _ (spend_keeps words)
    (either (bytes_eq word (codes "end")) (end_form words) _ (end_keeps words)
    (either (bytes_eq word (codes "sql")) (sql_form words) _ (sql_keeps words)
    (either (bytes_eq word (codes "repeat")) (repeat_form words) None (repeat_keeps words) tt))))

long_keeps : ((name : List ℕ) (kind : Kind) → kind_of name ≡ Some kind ↔ Fits name kind) → (word words : List ℕ) → Keeps (long_form word words)
unfolding long_form
long_keeps exact word words =
    either (bytes_eq word (codes "limit")) (limit_form words) _ (limit_keeps words)
    (either (bytes_eq word (codes "class")) (class_form words) _ (class_keeps exact words)
    (either (bytes_eq word (codes "consumer")) (consumer_form words) _ (consumer_keeps words)
    (either (bytes_eq word (codes "instrument")) (instrument_form words) _ (instrument_keeps words)
    (either (bytes_eq word (codes "session")) (session_form words) _ (session_keeps words)
    (either (bytes_eq word (codes "start")) (start_form words) (block_form word words) (start_keeps words) (block_keeps word words))))))

form_of_keeps : ((name : List ℕ) (kind : Kind) → kind_of name ≡ Some kind ↔ Fits name kind) → (word : List ℕ) (rest : Option (List ℕ)) → Keeps (form_of word rest)
form_of_keeps exact word None = bare_keeps word
form_of_keeps exact word (Some words) = long_keeps exact word words

words_keep : ((name : List ℕ) (kind : Kind) → kind_of name ≡ Some kind ↔ Fits name kind) → (bytes : List ℕ) → Keeps (words_form bytes)
unfolding words_form
words_keep exact bytes = form_of_keeps exact (word_of bytes) (rest_of bytes)

-- what words say, has its kind
pub words_have_kind : ((name : List ℕ) (kind : Kind) → kind_of name ≡ Some kind ↔ Fits name kind) → (bytes : List ℕ) (said : Form) → Some said ≡ words_form bytes → HasItsKind said
words_have_kind exact bytes said e = let keeps = words_keep exact bytes in rw (sym e) at keeps
