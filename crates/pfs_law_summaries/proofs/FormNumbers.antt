-- The numbers that a line of a script reads are of 64 bits.
use Rattle.std.proofs.Common.{ℕ, ◌≡◌, ◌<◌, ◌^◌, ◌&&◌, Bool, true, false, List, [], ◌∷◌, ◌++◌, Option, Some, None, IfSome, refl, subst, nat_lt, arith}
use Rattle.std.proofs.lemmas.Bool.Decides.{nat_tests}
use Rattle.std.specs.Prelude.{if◌then◌else◌, option_map, option_and_then, Result, Ok, Err, codes}
use Rattle.std.specs.List.{list_all}
use Rattle.std.specs.Str.{bytes_eq}
use Rattle.std.specs.Str.Parse.{digits_value}
use Rattle.pfs_classes.specs.declared.kind.Kind.{Kind}
use Rattle.pfs_classes.specs.declared.kind.Kind.TheVariants.{Mutex, Rwlock, Cond, File, Socket, TableIo, TableLock, Stage as KindStage, Statement as KindStatement}
use Rattle.pfs_classes.specs.Kinds.{kind_of}
use Rattle.pfs_script.specs.declared.forms.Form.{Form}
use Rattle.pfs_script.specs.declared.forms.Form.TheVariants as form
use Rattle.pfs_script.specs.declared.forms.Numbers.{Numbers}
use Rattle.pfs_script.specs.declared.reasons.Reason.{Reason}
use Rattle.pfs_script.specs.declared.reasons.Reason.TheVariants.{BadByte}
use Rattle.pfs_script.specs.Forms.{form as form_read, is_silent, limit_form, class_kind_of, class_form, consumer_form, instrument_form, connect_form, session_of, session_form, start_of_kind, start_class, transaction_form, table_wait_form, start_of_kind_with, start_class_with, start_of, start_form, stage_of, stage_form, spend_form, end_form, sql_form, repeat_form, bare_form, block_form, long_form, form_of, words_form, or_bad_form}
use Rattle.pfs_script.specs.Reasons.{next, placed, unless_fault, fault_of}
use Rattle.pfs_script.specs.Numerals.{is_numeral, number_below, number_of, first, first_of, numbers_of}
use Rattle.pfs_script.specs.Scripts.{Begins}
use Rattle.pfs_script.specs.ScriptWords.{is_script_byte, word_of, rest_of, schema_of, table_of, is_word, is_name, is_table_name, switch_of, switches_of}

abbrev pub IsLow : Option ℕ → Type 0
IsLow number = IfSome number (λ value. value < 2 ^ 64)

pub record AreLow (numbers : Numbers) : Type 0 where
  pub lock : IsLow numbers.lock
  pub errors : IsLow numbers.errors
  pub warnings : IsLow numbers.warnings
  pub affected : IsLow numbers.affected
  pub sent : IsLow numbers.sent
  pub examined : IsLow numbers.examined

abbrev pub IsLowForm : Form → Type 0
IsLowForm (form.EndStatement numbers) = AreLow numbers
IsLowForm _ = Unit {0}

-- what holds of what may be there

then_holds : {A B : Type 0} (o : Option A) (P : A → Type 0) (Q : B → Type 0) (f : A → Option B) → IfSome o P
    → ((x : A) → P x → IfSome (f x) Q) → IfSome (option_and_then f o) Q
then_holds None P Q f h g = tt
then_holds (Some x) P Q f h g = g x h

map_holds : {A B : Type 0} (o : Option A) (P : A → Type 0) (Q : B → Type 0) (f : A → B) → IfSome o P
    → ((x : A) → P x → Q (f x)) → IfSome (option_map f o) Q
map_holds None P Q f h g = tt
map_holds (Some x) P Q f h g = g x h

-- numerals

below_low : (value : ℕ) (b : Bool) → nat_lt value 18446744073709551616 ≡ b
    → IsLow (if b then Some value else None)
below_low value true e = grind (arith, nat_tests, e)
below_low value false e = tt

number_low : (text : List ℕ) → IfSome (number_of text) IsLow
unfolding number_of
number_low text = at (is_numeral text) where
  at : (b : Bool) → IfSome (if b then Some (number_below (digits_value 10 text)) else None) IsLow
  at true = below_low (digits_value 10 text) (nat_lt (digits_value 10 text) 18446744073709551616) refl
  at false = tt

first_low : (words : List ℕ) → IfSome (first_of words) (λ one. IsLow one.number)
unfolding first_of
first_low words = by (number_of (word_of words)) (rest_of words) (number_low (word_of words)) where
  at : (number : Option ℕ) → IsLow number → (o : Option (List ℕ))
      → IfSome (option_map (λ rest. first rest number) o) (λ one. IsLow one.number)
  at number low None = tt
  at number low (Some rest) = low

  by : (n : Option (Option ℕ)) (o : Option (List ℕ)) → IfSome n IsLow
      → IfSome (option_and_then (λ number. option_map (λ rest. first rest number) o) n) (λ one. IsLow one.number)
  by None o low = tt
  by (Some number) o low = at number low o

pub numbers_low : (words : List ℕ) → IfSome (numbers_of words) AreLow
unfolding numbers_of
numbers_low words =
    then_holds (first_of words) (λ one. IsLow one.number) AreLow _ (first_low words) (λ lock a.
    then_holds (first_of lock.rest) (λ one. IsLow one.number) AreLow _ (first_low lock.rest) (λ errors b.
    then_holds (first_of errors.rest) (λ one. IsLow one.number) AreLow _ (first_low errors.rest) (λ warnings c.
    then_holds (first_of warnings.rest) (λ one. IsLow one.number) AreLow _ (first_low warnings.rest) (λ affected d.
    then_holds (first_of affected.rest) (λ one. IsLow one.number) AreLow _ (first_low affected.rest) (λ sent e.
    map_holds (number_of sent.rest) IsLow AreLow _ (number_low sent.rest) (λ examined f.
    record { lock = a; errors = b; warnings = c; affected = d; sent = e; examined = f }))))))

-- lines

abbrev Holds : Option Form → Type 0
Holds o = IfSome o IsLowForm

then_low : {A : Type 0} (f : A → Option Form) (o : Option A) → ((x : A) → Holds (f x)) → Holds (option_and_then f o)
then_low f None h = tt
then_low f (Some x) h = h x

map_low : {A : Type 0} (f : A → Form) (o : Option A) → ((x : A) → IsLowForm (f x)) → Holds (option_map f o)
map_low f None h = tt
map_low f (Some x) h = h x

either : (b : Bool) (x y : Option Form) → Holds x → Holds y → Holds (if b then x else y)
either true x y h g = h
either false x y h g = g

limit_low : (words : List ℕ) → Holds (limit_form words)
unfolding limit_form
limit_low words = then_low _ (option_and_then number_of (rest_of words)) (λ value. either (is_word (word_of words)) _ None tt tt)

class_low : (words : List ℕ) → Holds (class_form words)
unfolding class_form
class_low words = then_low _ (option_and_then switches_of (rest_of words)) (λ switches. map_low _ (class_kind_of (word_of words)) (λ kind. tt))

consumer_low : (words : List ℕ) → Holds (consumer_form words)
unfolding consumer_form
consumer_low words = then_low _ (option_and_then switch_of (rest_of words)) (λ on. either (is_word (word_of words)) _ None tt tt)

instrument_low : (words : List ℕ) → Holds (instrument_form words)
unfolding instrument_form
instrument_low words = then_low _ (option_and_then switches_of (rest_of words)) (λ switches. either (is_word (word_of words)) _ None tt tt)

connect_low : (session : Option ℕ) (names : List ℕ) → Holds (connect_form session names)
unfolding connect_form
connect_low session names = then_low _ (rest_of names) (λ host. either (is_name 32 (word_of names) && is_name 60 host) (Some (form.Connect session (word_of names) host)) None tt tt)

session_low : (words : List ℕ) → Holds (session_form words)
unfolding session_form
session_low words = then_low _ (number_of (word_of words)) (λ session. on session (rest_of words)) where
  on : (session : Option ℕ) (o : Option (List ℕ)) → Holds (session_of o session)
  on session None = tt
  on session (Some names) = connect_low session names

kind_low : (class : List ℕ) (kind : Kind) → Holds (start_of_kind class kind)
kind_low class Mutex = tt
kind_low class Rwlock = tt
kind_low class Cond = tt
kind_low class File = tt
kind_low class Socket = tt
kind_low class KindStatement = tt
kind_low class _ = tt

class_start_low : (class : List ℕ) → Holds (start_class class)
unfolding start_class
class_start_low class = then_low _ (kind_of class) (kind_low class)

transaction_low : (access : List ℕ) → Holds (transaction_form access)
unfolding transaction_form
transaction_low access = either (bytes_eq access (codes "rw")) _ _ tt (either (bytes_eq access (codes "ro")) _ None tt tt)

table_low : (class place : List ℕ) → Holds (table_wait_form class place)
unfolding table_wait_form
table_low class place = then_low _ (table_of place) (λ name. either (is_table_name (schema_of place) && is_table_name name) (Some (form.TableWait class (schema_of place) name)) None tt tt)

kind_with_low : (class more : List ℕ) (kind : Kind) → Holds (start_of_kind_with class more kind)
kind_with_low class more TableIo = table_low class more
kind_with_low class more TableLock = table_low class more
kind_with_low class more KindStatement = tt
kind_with_low class more _ = tt

class_with_low : (class more : List ℕ) → Holds (start_class_with class more)
unfolding start_class_with
class_with_low class more =
    either (bytes_eq class (codes "transaction")) _ _ (transaction_low more)
    (then_low _ (kind_of class) (kind_with_low class more))

start_low : (words : List ℕ) → Holds (start_form words)
unfolding start_form
start_low words = on (word_of words) (rest_of words) where
  on : (class : List ℕ) (o : Option (List ℕ)) → Holds (start_of class o)
  on class None = class_start_low class
  on class (Some more) = class_with_low class more

stage_kind_low : (class : List ℕ) (kind : Kind) → Holds (stage_of class kind)
stage_kind_low class KindStage = tt
stage_kind_low class _ = tt

stage_low : (word : List ℕ) → Holds (stage_form word)
unfolding stage_form
stage_low word = either (bytes_eq word (codes "-")) _ _ tt (then_low _ (kind_of word) (stage_kind_low word))

spend_low : (word : List ℕ) → Holds (spend_form word)
unfolding spend_form
spend_low word = map_low form.Spend (number_of word) (λ time. tt)

end_low : (words : List ℕ) → Holds (end_form words)
unfolding end_form
end_low words = map_holds (numbers_of words) AreLow IsLowForm form.EndStatement (numbers_low words) (λ numbers low. low)

sql_low : (text : List ℕ) → Holds (sql_form text)
unfolding sql_form
sql_low text = either (is_word text) _ None tt tt

repeat_low : (word : List ℕ) → Holds (repeat_form word)
unfolding repeat_form
repeat_low word = map_low form.Repeat (number_of word) (λ times. tt)

bare_low : (word : List ℕ) → Holds (bare_form word)
unfolding bare_form
bare_low word =
    either (bytes_eq word (codes "phase")) _ _ tt
    (either (bytes_eq word (codes "end")) _ _ tt
    (either (bytes_eq word (codes "quit")) _ _ tt
    (either (bytes_eq word (codes "done")) _ None tt tt)))

block_low : (word words : List ℕ) → Holds (block_form word words)
unfolding block_form
block_low word words =
    either (bytes_eq word (codes "stage")) _ _ (stage_low words)
    (either (bytes_eq word (codes "spend")) _ _ (spend_low words)
    (either (bytes_eq word (codes "end")) _ _ (end_low words)
    (either (bytes_eq word (codes "sql")) _ _ (sql_low words)
    (either (bytes_eq word (codes "repeat")) _ None (repeat_low words) tt))))

long_low : (word words : List ℕ) → Holds (long_form word words)
unfolding long_form
long_low word words =
    either (bytes_eq word (codes "limit")) _ _ (limit_low words)
    (either (bytes_eq word (codes "class")) _ _ (class_low words)
    (either (bytes_eq word (codes "consumer")) _ _ (consumer_low words)
    (either (bytes_eq word (codes "instrument")) _ _ (instrument_low words)
    (either (bytes_eq word (codes "session")) _ _ (session_low words)
    (either (bytes_eq word (codes "start")) _ _ (start_low words)
    (block_low word words))))))

words_low : (bytes : List ℕ) → Holds (words_form bytes)
unfolding words_form
words_low bytes = on (word_of bytes) (rest_of bytes) where
  on : (word : List ℕ) (o : Option (List ℕ)) → Holds (form_of word o)
  on word None = bare_low word
  on word (Some words) = long_low word words

abbrev HoldsRead : Result Form Reason → Type 0
HoldsRead (Ok line) = IsLowForm line
HoldsRead (Err reason) = Unit {0}

form_low : (bytes : List ℕ) → HoldsRead (form_read bytes)
unfolding form_read
form_low bytes = on (list_all is_script_byte bytes) (is_silent bytes) (words_form bytes) (words_low bytes) where
  on : (a b : Bool) (o : Option Form) → Holds o
      → HoldsRead (if a then (if b then Ok form.Silent else or_bad_form o) else Err BadByte)
  on true true o h = tt
  on true false None h = tt
  on true false (Some line) h = h
  on false b o h = tt

next_low : (before : List Form) (raw : List ℕ) (line : Form) → next before raw ≡ Ok line
    → IsLowForm line
unfolding next
next_low before raw line e = at (form_read raw) (form_low raw) e where
  by : (one : Form) (fault : Option Reason) → IsLowForm one → unless_fault one fault ≡ Ok line → IsLowForm line
  by one None low e = subst IsLowForm (let same : one ≡ line = cc in same) low
  by one (Some reason) low e = absurd (cc)

  at : (r : Result Form Reason) → HoldsRead r → placed before r ≡ Ok line → IsLowForm line
  at (Ok one) low e = by one (fault_of before one) low e
  at (Err reason) low e = absurd (cc)

-- all lines of a script
abbrev pub AreLowForms : List Form → Type 0
AreLowForms [] = Unit {0}
AreLowForms (line ∷ lines) = IsLowForm line × AreLowForms lines

pub forms_low : (before : List Form) (raws : List (List ℕ)) (lines : List Form)
    → Begins before raws lines → AreLowForms lines
forms_low before [] [] b = tt
forms_low before [] (line ∷ lines) b = absurd b
forms_low before (raw ∷ raws) [] b = absurd b
forms_low before (raw ∷ raws) (line ∷ lines) b =
    (next_low before raw line b.0, forms_low (before ++ line ∷ []) raws lines b.1)
