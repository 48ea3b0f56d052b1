-- Each row that a table shows has a value for each column, of the column's kind.
use Rattle.std.proofs.Common.{IfOk, ◌≡◌, ℕ, suc, ◌+◌, Bool, true, false, not, ◌&&◌, List, [], ◌∷◌, ◌++◌, length, map, Option, Some, None, refl, sym, ap, subst}
use Rattle.std.specs.Prelude.{◌==◌, ◌-◌, ◌%◌, ◌^◌, if◌then◌else◌, nat_le, All, option_and_then, slice_get, codes}
use Rattle.std.specs.Prelude.{Result, Ok, Err}
use Rattle.std.specs.Option.{IfSome, option_map, option_to_list}
use Rattle.std.specs.List.{AllByRecursion, flat_map, list_any, range_with_len}
use Rattle.std.specs.Map.{values_of}
use Rattle.std.specs.Int.{bit_at}
use Rattle.std.proofs.lemmas.Bool.{false≢true, and_parts}
use Rattle.std.proofs.lemmas.List.{map-append}
use Rattle.std.proofs.lemmas.List.Elements.{All-from_recursion, All-same, All-weaker}
use Rattle.pfs_rows.specs.declared.table.Table.{Table}
use Rattle.pfs_rows.specs.declared.table.Table.TheVariants.{SetupActors, SetupObjects, SetupInstruments, SetupConsumers, Threads, Accounts, Users, Hosts, Events, Summary, DigestSummary}
use Rattle.pfs_rows.specs.declared.table.TableKind.{TableKind}
use Rattle.pfs_rows.specs.declared.table.TableKind.TheVariants.{Waits, Stages, Statements, Transactions}
use Rattle.pfs_rows.specs.declared.table.EventTable.{EventTable}
use Rattle.pfs_rows.specs.declared.table.SummaryTable.{SummaryTable}
use Rattle.pfs_rows.specs.declared.table.SummaryTable.TheVariants.{ByThread, ByAccount, ByUser, ByHost, Global}
use Rattle.pfs_rows.specs.declared.table.Reading.{Reading}
use Rattle.pfs_rows.specs.declared.table.Reading.TheVariants as found
use Rattle.pfs_rows.specs.declared.table.Seen.{Seen}
use Rattle.pfs_rows.specs.declared.table.Seen.TheVariants as seens
use Rattle.pfs_rows.specs.Rows.{place_at}
use Rattle.pfs_classes.specs.declared.setting.Setting.{Setting}
use Rattle.pfs_classes.specs.declared.setting.DigestText.{DigestText}
use Rattle.pfs_catalogue.specs.Columns.{Named, text, columns_of, event_columns, event_columns_of, summary_numbers}
use Rattle.pfs_catalogue.specs.declared.columns.ColumnKind.TheVariants as columns
use Rattle.pfs_consumers.specs.declared.Consumer.{Consumer}
use Rattle.pfs_consumers.specs.Tree.{is_on}
use Rattle.pfs_containers.specs.declared.infos.ThreadInfo.{ThreadInfo}
use Rattle.pfs_containers.specs.declared.infos.AccountInfo.{AccountInfo}
use Rattle.pfs_containers.specs.declared.infos.NameInfo.{NameInfo}
use Rattle.pfs_containers.specs.InfoWords as infos
use Rattle.pfs_text.specs.declared.values.RowValue.{RowValue}
use Rattle.pfs_text.specs.declared.values.RowValue.TheVariants.{Null, Text}
use Rattle.pfs_summaries.specs.declared.heads.Head.{Head}
use Rattle.pfs_summaries.specs.declared.numbers.Numbers.TheVariants as numbers
use Rattle.pfs_summaries.specs.declared.tallies.Tally.{Tally}
use Rattle.pfs_summaries.specs.FoundContents.{contents_of, info_at, infos_of}
use Rattle.pfs_summaries.specs.Cells.{tally_of, is_hidden_by}
use Rattle.pfs_summaries.specs.Heads.{head_of, places_of, row_cmp as summary_cmp}
use Rattle.pfs_summaries.specs.RowValues.{values_of as numbers_shown, times_of, sums_of}
use Rattle.pfs_summaries.specs.Summaries.{numbers_of, is_listed, key_at, row_values, class_rows, head_rows, place_rows, ordered_rows, summary_rows_of}
use Rattle.pfs_summaries.specs.DigestRows.{null_heading, digest_heading, counted_row, place_row, digest_row, digests_of}
use Rattle.pfs_summaries.proofs.DigestRows.{counted}
use Rattle.pfs_summaries.proofs.PutOrder.{both, values_puts}
use Rattle.pfs_tables.specs.EventRows.{Fields, where_true, has_ended, nesting_name, event_in, event_head, event_tail, event_values, named_values, class_name, table_values, object_of, digest_values, digest_of, statement_values}
use Rattle.pfs_tables.specs.Fits.{fits, IsRow, IsRowOf}
use Rattle.pfs_tables.specs.TableOrders.{Keyed, row_cmp, number_key, name_key}
use Rattle.pfs_tables.specs.PlaceTables.{flag_value, event_key, event_row, keyed_event, thread_values, thread_row, account_values, account_row, name_values, name_row, words_row, slot_row, may_show, on_place, class_values, class_row, consumer_row, consumer_rows, consumers, flags_at, rows_of, plain_rows_of}
use Rattle.pfs_tables.specs.ListedRows.{listed_rows}

-- ---- values

flag_fits : (b : Bool) → fits (flag_value b) columns.Text ≡ true
flag_fits true = refl
flag_fits false = refl

shown_fits : (b : Bool) (n : ℕ) → fits (where_true b n) columns.Number ≡ true
shown_fits true n = refl
shown_fits false n = refl

nesting_fits : (n : ℕ) → fits (nesting_name n) columns.Text ≡ true
nesting_fits n = at (n == 1) (n == 2) (n == 3) (n == 4)
  where
    at : (a b c d : Bool)
        → fits (if a then Text (codes "TRANSACTION") else if b then Text (codes "STATEMENT") else if c then Text (codes "STAGE") else if d then Text (codes "WAIT") else Null) columns.Text ≡ true
    at true b c d = refl
    at false true c d = refl
    at false false true d = refl
    at false false false true = refl
    at false false false false = refl

-- ---- what may be there

mapped : {A B : Type 0} (P : A → Type 0) (Q : B → Type 0) (f : A → B) (o : Option A) → IfSome o P → ((x : A) → P x → Q (f x)) → IfSome (option_map f o) Q
mapped P Q f None h so = tt
mapped P Q f (Some x) h so = so x h

pub mapped_all : {A B : Type 0} (Q : B → Type 0) (f : A → B) (o : Option A) → ((x : A) → Q (f x)) → IfSome (option_map f o) Q
mapped_all Q f None so = tt
mapped_all Q f (Some x) so = so x

pub chained : {A B : Type 0} (Q : B → Type 0) (f : A → Option B) (o : Option A) → ((x : A) → IfSome (f x) Q) → IfSome (option_and_then f o) Q
chained Q f None so = tt
chained Q f (Some x) so = so x

pub tested : {A : Type 0} (Q : A → Type 0) (b : Bool) (o : Option A) → IfSome o Q → IfSome (if b then o else None) Q
tested Q true o h = h
tested Q false o h = tt

optional : {K : Type 0} (P : List RowValue → Type 0) (o : Option (K × List RowValue)) → IfSome o (λ (row : K × List RowValue). P row.1) → AllByRecursion P (values_of (option_to_list o))
optional P None h = tt
optional P (Some row) h = (h, tt)

-- ---- rows

row_append : (cs bs : List Named) (xs ys : List RowValue) → IsRow cs xs → IsRow bs ys → IsRow (cs ++ bs) (xs ++ ys)
row_append [] bs [] ys h k = k
row_append [] bs (x ∷ xs) ys h k = absurd h
row_append (a ∷ cs) bs [] ys h k = absurd h
row_append (a ∷ cs) bs (x ∷ xs) ys h k = (h.0, row_append cs bs xs ys h.1 k)

row_length : (cs : List Named) (xs : List RowValue) → IsRow cs xs → length xs ≡ length cs
row_length [] [] h = refl
row_length [] (x ∷ xs) h = absurd h
row_length (a ∷ cs) [] h = absurd h
row_length (a ∷ cs) (x ∷ xs) h = ap suc (row_length cs xs h.1)

-- a row whose values are known
abbrev fits_all : List Named → List RowValue → Bool
fits_all [] [] = true
fits_all [] (x ∷ xs) = false
fits_all (c ∷ cs) [] = false
fits_all (c ∷ cs) (x ∷ xs) = fits x c.kind && fits_all cs xs

row_by : (cs : List Named) (xs : List RowValue) → fits_all cs xs ≡ true → IsRow cs xs
row_by [] [] h = tt
row_by [] (x ∷ xs) h = absurd (false≢true h)
row_by (c ∷ cs) [] h = absurd (false≢true h)
row_by (c ∷ cs) (x ∷ xs) h = let b = and_parts (fits x c.kind) (fits_all cs xs) h in (b.0, row_by cs xs b.1)

-- ---- events

head_fits : (event : Fields) (name : List ℕ) → IsRow event_columns (event_head event name)
unfolding event_head
head_fits event name = (
  refl,
  (
    refl,
    (
      shown_fits (has_ended event) event.last,
      (
        refl,
        (
          shown_fits event.timed event.start,
          (
            shown_fits (event.timed && has_ended event) ((event.start + event.duration) % 2 ^ 64),
            (
              shown_fits (event.timed && has_ended event) event.duration,
              (shown_fits (not (event.nesting == 0)) event.parent, (nesting_fits event.nesting, tt)),
            ),
          ),
        ),
      ),
    ),
  ),
)

object_fits : (setting : Setting) (link : ℕ) → IfSome (object_of setting link) (IsRow (event_columns_of Waits))
unfolding object_of
object_fits setting link = at (link == 0)
  where
    at : (b : Bool) → IfSome (if b then Some (Null ∷ Null ∷ []) else option_map table_values (slice_get setting.tables (link - 1))) (IsRow (event_columns_of Waits))
    at true = (refl, (refl, tt))
    at false = mapped_all (IsRow (event_columns_of Waits)) table_values (slice_get setting.tables (link - 1)) (λ table. (refl, (refl, tt)))

abbrev digest_column : List Named
digest_column = text (codes "DIGEST") ∷ []

digest_fits : (setting : Setting) (link : ℕ) → IfSome (digest_of setting link) (IsRow digest_column)
unfolding digest_of
digest_fits setting link = at (link == 0)
  where
    at : (b : Bool) → IfSome (if b then Some (Null ∷ []) else option_map digest_values (slice_get setting.digests (link - 1))) (IsRow digest_column)
    at true = (refl, tt)
    at false = mapped_all (IsRow digest_column) digest_values (slice_get setting.digests (link - 1)) (λ digest. (refl, tt))

tail_fits : (setting : Setting) (kind : TableKind) (event : Fields) → IfSome (event_tail setting kind event) (IsRow (event_columns_of kind))
unfolding event_tail
tail_fits setting Waits event = object_fits setting event.link
tail_fits setting Stages event = tt
tail_fits setting Statements event =
    mapped (IsRow digest_column) (IsRow (event_columns_of Statements)) (λ digest. statement_values event ++ digest) (digest_of setting event.link) (digest_fits setting event.link)
    (λ digest h. (refl, (refl, (refl, (refl, (refl, (refl, h)))))))
tail_fits setting Transactions event = (refl, tt)

event_fits : (setting : Setting) (kind : TableKind) (which : EventTable) (place : ℕ) (words : List ℕ)
    → IfSome (event_row setting kind which place words) (λ (row : Keyed). IsRowOf (Events kind which) row.1)
unfolding event_row
event_fits setting kind which place words =
    let R : List RowValue → Type 0 = IsRowOf (Events kind which) in
    chained (λ (row : Keyed). R row.1) (keyed_event setting kind which place) (event_in words)
    (λ event. mapped R (λ (row : Keyed). R row.1) (λ values. (event_key which event place, values)) (event_values setting kind event)
    (chained R (named_values setting kind event) (class_name setting event.class)
    (λ name. mapped (IsRow (event_columns_of kind)) R (λ tail. event_head event name ++ tail) (event_tail setting kind event) (tail_fits setting kind event)
    (λ tail h. row_append event_columns (event_columns_of kind) (event_head event name) tail (head_fits event name) h)))
    (λ values h. h))

-- ---- threads, accounts, users and hosts

thread_fits : (setting : Setting) (place flags : ℕ) (info : ThreadInfo) → IfSome (thread_row setting place flags info) (λ (row : Keyed). IsRowOf Threads row.1)
unfolding thread_row
thread_fits setting place flags info =
    let make : List ℕ → List ℕ → Keyed = λ user host. (number_key info.session 0 place, thread_values info flags user host) in
    chained (λ (row : Keyed). IsRowOf Threads row.1) (λ user. option_map (make user) (slice_get setting.names info.host_name)) (slice_get setting.names info.user_name)
    (λ user. mapped_all (λ (row : Keyed). IsRowOf Threads row.1) (make user) (slice_get setting.names info.host_name)
    (λ host. (refl, (refl, (refl, (flag_fits (bit_at flags 0 == 1), (flag_fits (bit_at flags 1 == 1), tt)))))))

account_fits : (setting : Setting) (place : ℕ) (info : AccountInfo) → IfSome (account_row setting place info) (λ (row : Keyed). IsRowOf Accounts row.1)
unfolding account_row
account_fits setting place info =
    let make : List ℕ → List ℕ → Keyed = λ user host. (name_key user host place, account_values info user host) in
    chained (λ (row : Keyed). IsRowOf Accounts row.1) (λ user. option_map (make user) (slice_get setting.names info.host_name)) (slice_get setting.names info.user_name)
    (λ user. mapped_all (λ (row : Keyed). IsRowOf Accounts row.1) (make user) (slice_get setting.names info.host_name) (λ host. (refl, (refl, (refl, (refl, tt))))))

user_fits : (setting : Setting) (place : ℕ) (info : NameInfo) → IfSome (name_row setting place info) (λ (row : Keyed). IsRowOf Users row.1)
unfolding name_row
user_fits setting place info =
    mapped_all (λ (row : Keyed). IsRowOf Users row.1) (λ name. (name_key name [] place, name_values info name)) (slice_get setting.names info.name) (λ name. (refl, (refl, (refl, tt))))

host_fits : (setting : Setting) (place : ℕ) (info : NameInfo) → IfSome (name_row setting place info) (λ (row : Keyed). IsRowOf Hosts row.1)
unfolding name_row
host_fits setting place info =
    mapped_all (λ (row : Keyed). IsRowOf Hosts row.1) (λ name. (name_key name [] place, name_values info name)) (slice_get setting.names info.name) (λ name. (refl, (refl, (refl, tt))))

-- ---- the tables whose rows each show one place or one word

words_fit : (setting : Setting) (table : Table) (readings : List Reading) (row : ℕ) (words : List ℕ)
    → IfSome (words_row setting table readings row words) (λ (one : Keyed). IsRowOf table one.1)
unfolding words_row
words_fit setting SetupActors readings row words = tt
words_fit setting SetupObjects readings row words = tt
words_fit setting SetupInstruments readings row words = tt
words_fit setting SetupConsumers readings row words = tt
words_fit setting Threads readings row words = thread_fits setting row (flags_at readings row) (infos.thread_of words)
words_fit setting Accounts readings row words = account_fits setting row (infos.account_of words)
words_fit setting Users readings row words = user_fits setting row (infos.name_of words)
words_fit setting Hosts readings row words = host_fits setting row (infos.name_of words)
words_fit setting (Events kind which) readings row words = event_fits setting kind which row words
words_fit setting (Summary kind which) readings row words = tt
words_fit setting DigestSummary readings row words = tt

slot_fits : (setting : Setting) (table : Table) (readings : List Reading) (row : ℕ) (seen : Seen) → IfSome (slot_row setting table readings row seen) (λ (one : Keyed). IsRowOf table one.1)
unfolding slot_row
slot_fits setting table readings row (seens.Whole version content) =
    tested (λ (one : Keyed). IsRowOf table one.1) (on_place (may_show table) (place_at row)) (words_row setting table readings row content) (words_fit setting table readings row content)
slot_fits setting table readings row (seens.Free word) = tt
slot_fits setting table readings row (seens.Busy first second) = tt

class_fits : (setting : Setting) (word flags : ℕ) → IfSome (class_row setting word flags) (λ (one : Keyed). IsRowOf SetupInstruments one.1)
unfolding class_row
class_fits setting word flags =
    let P : Keyed → Type 0 = λ (one : Keyed). IsRowOf SetupInstruments one.1 in
    let make : List ℕ → Keyed = λ name. (number_key (word - 33) 0 word, class_values flags name) in
    tested P (nat_le 33 word) (option_map make (class_name setting (word - 33)))
    (mapped_all P make (class_name setting (word - 33)) (λ name. (refl, (flag_fits (bit_at flags 0 == 1), (flag_fits (bit_at flags 1 == 1), tt)))))

each_consumer_fits : (flags : ℕ) (cs : List Consumer) → AllByRecursion (IsRowOf SetupConsumers) (values_of (map (consumer_row flags) cs))
each_consumer_fits flags [] = tt
each_consumer_fits flags (c ∷ cs) = ((refl, (flag_fits (is_on flags c), tt)), each_consumer_fits flags cs)

consumers_fit : (word flags : ℕ) → AllByRecursion (IsRowOf SetupConsumers) (values_of (consumer_rows word flags))
unfolding consumer_rows
consumers_fit word flags = at (word == 0)
  where
    at : (b : Bool) → AllByRecursion (IsRowOf SetupConsumers) (values_of (if b then map (consumer_row flags) consumers else []))
    at true = each_consumer_fits flags consumers
    at false = tt

reading_fits : (setting : Setting) (table : Table) (readings : List Reading) (reading : Reading) → AllByRecursion (IsRowOf table) (values_of (rows_of setting table readings reading))
reading_fits setting table readings (found.Slot row seen) = optional (IsRowOf table) (slot_row setting table readings row seen) (slot_fits setting table readings row seen)
reading_fits setting SetupInstruments readings (found.Word word version flags) = optional (IsRowOf SetupInstruments) (class_row setting word flags) (class_fits setting word flags)
reading_fits setting SetupConsumers readings (found.Word word version flags) = consumers_fit word flags
reading_fits setting SetupActors readings (found.Word word version flags) = tt
reading_fits setting SetupObjects readings (found.Word word version flags) = tt
reading_fits setting Threads readings (found.Word word version flags) = tt
reading_fits setting Accounts readings (found.Word word version flags) = tt
reading_fits setting Users readings (found.Word word version flags) = tt
reading_fits setting Hosts readings (found.Word word version flags) = tt
reading_fits setting (Events kind which) readings (found.Word word version flags) = tt
reading_fits setting (Summary kind which) readings (found.Word word version flags) = tt
reading_fits setting DigestSummary readings (found.Word word version flags) = tt

each_fits : {A K : Type 0} (P : List RowValue → Type 0) (f : A → List (K × List RowValue)) → ((a : A) → AllByRecursion P (values_of (f a))) → (xs : List A) → AllByRecursion P (values_of (flat_map f xs))
each_fits P f so [] = tt
each_fits {A} {K} P f so (x ∷ xs) =
    subst (AllByRecursion P) (sym (map-append (λ (e : K × List RowValue). e.1) (f x) (flat_map f xs)))
    (both P (values_of (f x)) (values_of (flat_map f xs)) (so x) (each_fits P f so xs))

plain_fits : (setting : Setting) (table : Table) (readings : List Reading) → AllByRecursion (IsRowOf table) (plain_rows_of setting table readings)
unfolding plain_rows_of
plain_fits setting table readings =
    values_puts row_cmp (IsRowOf table) [] (flat_map (rows_of setting table readings) readings) tt
    (each_fits (IsRowOf table) (rows_of setting table readings) (reading_fits setting table readings) readings)

-- ---- the summaries

numbers_fit : (kind : TableKind) (tally : ℕ → Tally) (id : ℕ) → IsRow (summary_numbers kind) (numbers_shown (numbers_of kind tally id))
unfolding numbers_shown times_of sums_of
numbers_fit Waits tally id = row_by (summary_numbers Waits) (numbers_shown (numbers_of Waits tally id)) refl
numbers_fit Stages tally id = row_by (summary_numbers Stages) (numbers_shown (numbers_of Stages tally id)) refl
numbers_fit Statements tally id = row_by (summary_numbers Statements) (numbers_shown (numbers_of Statements tally id)) refl
numbers_fit Transactions tally id = row_by (summary_numbers Transactions) (numbers_shown (numbers_of Transactions tally id)) refl

values_fit : (setting : Setting) (kind : TableKind) (which : SummaryTable) (head : Head) (tally : ℕ → Tally) (id : ℕ) → IsRowOf (Summary kind which) (row_values setting kind which head tally id)
unfolding row_values
values_fit setting kind ByThread head tally id = (refl, (refl, numbers_fit kind tally id))
values_fit setting kind ByAccount head tally id = (refl, (refl, (refl, numbers_fit kind tally id)))
values_fit setting kind ByUser head tally id = (refl, (refl, numbers_fit kind tally id))
values_fit setting kind ByHost head tally id = (refl, (refl, numbers_fit kind tally id))
values_fit setting kind Global head tally id = (refl, numbers_fit kind tally id)

class_rows_fit : (setting : Setting) (kind : TableKind) (which : SummaryTable) (place : ℕ) (tally : ℕ → Tally) (head : Head) (id : ℕ)
    → AllByRecursion (IsRowOf (Summary kind which)) (values_of (class_rows setting kind which place tally head id))
unfolding class_rows
class_rows_fit setting kind which place tally head id = at (is_listed setting kind head tally id)
  where
    at : (b : Bool) → AllByRecursion (IsRowOf (Summary kind which)) (values_of (if b then (key_at head place id, row_values setting kind which head tally id) ∷ [] else []))
    at true = (values_fit setting kind which head tally id, tt)
    at false = tt

head_rows_fit : (setting : Setting) (kind : TableKind) (which : SummaryTable) (place : ℕ) (tally : ℕ → Tally) (o : Option Head)
    → AllByRecursion (IsRowOf (Summary kind which)) (values_of (head_rows setting kind which place tally o))
head_rows_fit setting kind which place tally None = tt
head_rows_fit setting kind which place tally (Some head) =
    each_fits (IsRowOf (Summary kind which)) (class_rows setting kind which place tally head) (class_rows_fit setting kind which place tally head) (range_with_len 0 63)

ordered_fit : (setting : Setting) (kind : TableKind) (which : SummaryTable) (infos : List (Option (List ℕ))) (tally : ℕ → ℕ → Tally)
    → AllByRecursion (IsRowOf (Summary kind which)) (values_of (ordered_rows setting kind which infos tally))
unfolding ordered_rows
ordered_fit setting kind which infos tally =
    let P : List RowValue → Type 0 = IsRowOf (Summary kind which) in
    values_puts summary_cmp P [] (flat_map (place_rows setting kind which infos tally) (range_with_len 0 (places_of which))) tt
    (each_fits P (place_rows setting kind which infos tally)
    (λ place. head_rows_fit setting kind which place (tally place) (head_of which setting.names infos place)) (range_with_len 0 (places_of which)))

summary_fits : (setting : Setting) (kind : TableKind) (which : SummaryTable) (readings : List Reading) → AllByRecursion (IsRowOf (Summary kind which)) (summary_rows_of setting kind which readings)
unfolding summary_rows_of
summary_fits setting kind which readings = at (list_any (is_hidden_by which) readings)
  where
    at : (b : Bool) → AllByRecursion (IsRowOf (Summary kind which)) (if b then [] else values_of (ordered_rows setting kind which (infos_of readings) (tally_of which (infos_of readings) readings)))
    at true = tt
    at false = ordered_fit setting kind which (infos_of readings) (tally_of which (infos_of readings) readings)

-- ---- digests

abbrev digest_columns : List Named
digest_columns = text (codes "SCHEMA_NAME") ∷ text (codes "DIGEST") ∷ text (codes "DIGEST_TEXT") ∷ []

counted_fits : (heading : List RowValue) → IsRow digest_columns heading → (o : Option (List ℕ)) → AllByRecursion (IsRowOf DigestSummary) (counted_row heading o)
unfolding numbers_shown times_of sums_of
counted_fits heading h o =
    counted (IsRowOf DigestSummary) heading
    (λ stat. row_append digest_columns (summary_numbers Statements) heading (numbers_shown (numbers.Statements stat)) h
    (row_by (summary_numbers Statements) (numbers_shown (numbers.Statements stat)) refl)) o

place_fits : (digest : Option DigestText) (o : Option (List ℕ)) → AllByRecursion (IsRowOf DigestSummary) (place_row digest o)
place_fits None o = tt
place_fits (Some digest) o = counted_fits (digest_heading digest) (refl, (refl, (refl, tt))) o

place_row_fits : (digests : List DigestText) (contents : List (Option (List ℕ))) (place : ℕ) → AllByRecursion (IsRowOf DigestSummary) (digest_row digests contents place)
unfolding digest_row
place_row_fits digests contents place = place_fits (slice_get digests place) (info_at contents (1 + place))

flat_fits : {A B : Type 0} (P : B → Type 0) (f : A → List B) → ((a : A) → AllByRecursion P (f a)) → (xs : List A) → AllByRecursion P (flat_map f xs)
flat_fits P f so [] = tt
flat_fits P f so (x ∷ xs) = both P (f x) (flat_map f xs) (so x) (flat_fits P f so xs)

digests_fit : (setting : Setting) (readings : List Reading) → AllByRecursion (IsRowOf DigestSummary) (digests_of setting readings)
unfolding digests_of
digests_fit setting readings =
    let contents = contents_of 8385 65 readings in
    both (IsRowOf DigestSummary) (counted_row null_heading (info_at contents 0)) (flat_map (digest_row setting.digests contents) (range_with_len 0 64))
    (counted_fits null_heading (refl, (refl, (refl, tt))) (info_at contents 0))
    (flat_fits (IsRowOf DigestSummary) (digest_row setting.digests contents) (place_row_fits setting.digests contents) (range_with_len 0 64))

-- ---- all tables

listed_fits : (setting : Setting) (table : Table) (readings : List Reading) → AllByRecursion (IsRowOf table) (listed_rows setting table readings)
listed_fits setting (Summary kind which) readings = summary_fits setting kind which readings
listed_fits setting DigestSummary readings = digests_fit setting readings
listed_fits setting SetupActors readings = plain_fits setting SetupActors readings
listed_fits setting SetupObjects readings = plain_fits setting SetupObjects readings
listed_fits setting SetupInstruments readings = plain_fits setting SetupInstruments readings
listed_fits setting SetupConsumers readings = plain_fits setting SetupConsumers readings
listed_fits setting Threads readings = plain_fits setting Threads readings
listed_fits setting Accounts readings = plain_fits setting Accounts readings
listed_fits setting Users readings = plain_fits setting Users readings
listed_fits setting Hosts readings = plain_fits setting Hosts readings
listed_fits setting (Events kind which) readings = plain_fits setting (Events kind which) readings

pub kinds : (setting : Setting) (table : Table) (readings : List Reading) → All (IsRowOf table) (listed_rows setting table readings)
kinds setting table readings = All-from_recursion (IsRowOf table) (listed_rows setting table readings) (listed_fits setting table readings)

pub count : (setting : Setting) (table : Table) (readings : List Reading) → All (λ (row : List RowValue). length row ≡ length (columns_of table)) (listed_rows setting table readings)
count setting table readings = All-weaker (IsRowOf table) (λ (row : List RowValue). length row ≡ length (columns_of table)) (row_length (columns_of table)) (listed_rows setting table readings) (kinds setting table readings)

-- the same of a result that has such rows
kinds_after : {E : Type 0} (table other : Table) (right : List (List RowValue)) (r : Result (List (List RowValue)) E) → table ≡ other → AllByRecursion (IsRowOf other) right
    → IfOk r (λ rows. rows ≡ right) → IfOk r (λ rows. All (IsRowOf table) rows)
kinds_after table other right (Ok rows) is fit same =
    All-same (IsRowOf table) rows right same (All-from_recursion (IsRowOf table) right (subst (λ (t : Table). AllByRecursion (IsRowOf t) right) (sym is) fit))
kinds_after table other right (Err fault) is fit same = tt

count_after : {E : Type 0} (table : Table) (r : Result (List (List RowValue)) E) → IfOk r (λ rows. All (IsRowOf table) rows)
    → IfOk r (λ rows. All (λ (row : List RowValue). length row ≡ length (columns_of table)) rows)
count_after table (Ok rows) all = All-weaker (IsRowOf table) (λ (row : List RowValue). length row ≡ length (columns_of table)) (row_length (columns_of table)) rows all
count_after table (Err fault) all = tt

module _ {E : Type 0} (setting : Setting) (table : Table) (readings : List Reading) (r : Result (List (List RowValue)) E) where
  pub plain_kinds : IfOk r (λ rows. rows ≡ plain_rows_of setting table readings) → IfOk r (λ rows. All (IsRowOf table) rows)
  plain_kinds = kinds_after table table (plain_rows_of setting table readings) r refl (plain_fits setting table readings)

  pub plain_count : IfOk r (λ rows. rows ≡ plain_rows_of setting table readings) → IfOk r (λ rows. All (λ (row : List RowValue). length row ≡ length (columns_of table)) rows)
  plain_count same = count_after table r (plain_kinds same)

  pub summary_kinds : (kind : TableKind) (which : SummaryTable) → table ≡ Summary kind which → IfOk r (λ rows. rows ≡ summary_rows_of setting kind which readings)
      → IfOk r (λ rows. All (IsRowOf table) rows)
  summary_kinds kind which is = kinds_after table (Summary kind which) (summary_rows_of setting kind which readings) r is (summary_fits setting kind which readings)

  pub summary_count : (kind : TableKind) (which : SummaryTable) → table ≡ Summary kind which → IfOk r (λ rows. rows ≡ summary_rows_of setting kind which readings)
      → IfOk r (λ rows. All (λ (row : List RowValue). length row ≡ length (columns_of table)) rows)
  summary_count kind which is same = count_after table r (summary_kinds kind which is same)

  pub digest_kinds : table ≡ DigestSummary → IfOk r (λ rows. rows ≡ digests_of setting readings) → IfOk r (λ rows. All (IsRowOf table) rows)
  digest_kinds is = kinds_after table DigestSummary (digests_of setting readings) r is (digests_fit setting readings)

  pub digest_count : table ≡ DigestSummary → IfOk r (λ rows. rows ≡ digests_of setting readings) → IfOk r (λ rows. All (λ (row : List RowValue). length row ≡ length (columns_of table)) rows)
  digest_count is same = count_after table r (digest_kinds is same)
