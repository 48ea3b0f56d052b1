-- The tables at a phase's end show numbers, names of the setting, and words of their own.
use Rattle.std.proofs.Common.{ℕ, zero, suc, ◌≡◌, ◌≢◌, ◌+◌, Bool, true, false, cond, List, [], ◌∷◌, ◌++◌, map, length, Option, Some, None, refl, sym, ap, subst}
use Rattle.std.specs.Prelude.{◌==◌, codes, nat_lt, ◌&&◌, ◌-◌, not, if◌then◌else◌, option_map, option_and_then, slice_get, unwrap_or}
use Rattle.std.specs.List.{All, AllByRecursion, flat_map, list_all, list_any, range_with_len}
use Rattle.std.specs.Option.{IfSome, option_to_list}
use Rattle.std.specs.Int.{bit_at}
use Rattle.std.specs.Map.{values_of}
use Rattle.std.proofs.lemmas.Bool.{and_parts}
use Rattle.std.proofs.lemmas.List.{map-append}
use Rattle.std.proofs.lemmas.List.Elements.{All-cons, All-filter, All-from_recursion, All-head, All-nil, All-tail}
use Rattle.pfs_classes.specs.declared.classes.Class.{Class}
use Rattle.pfs_classes.specs.declared.setting.DigestText.{DigestText}
use Rattle.pfs_classes.specs.declared.setting.Setting.{Setting}
use Rattle.pfs_classes.specs.Registry.{class_at, text_of}
use Rattle.pfs_finals.specs.Finals.{TableRead, events_of, final_order, is_shown, shown_rows, summaries_of, table_if, table_report}
use Rattle.pfs_containers.specs.declared.infos.AccountInfo.{AccountInfo}
use Rattle.pfs_containers.specs.declared.infos.NameInfo.{NameInfo}
use Rattle.pfs_containers.specs.declared.infos.ThreadInfo.{ThreadInfo}
use Rattle.pfs_containers.specs.InfoWords as infos
use Rattle.pfs_journal.specs.Reports.{IsName, IsRow, IsTable, IsText, IsValue, is_name_byte, is_text_byte}
use Rattle.pfs_rows.specs.Rows.{place_at}
use Rattle.pfs_rows.specs.Tables.{table_name}
use Rattle.pfs_rows.specs.declared.table.Reading.{Reading}
use Rattle.pfs_rows.specs.declared.table.Reading.TheVariants as found
use Rattle.pfs_rows.specs.declared.table.Seen.{Seen}
use Rattle.pfs_rows.specs.declared.table.Seen.TheVariants as seens
use Rattle.pfs_rows.specs.declared.table.SummaryTable.{SummaryTable}
use Rattle.pfs_rows.specs.declared.table.SummaryTable.TheVariants.{ByThread, ByAccount, ByUser, ByHost, Global}
use Rattle.pfs_rows.specs.declared.table.Table.{Table}
use Rattle.pfs_rows.specs.declared.table.EventTable.{EventTable}
use Rattle.pfs_rows.specs.declared.table.EventTable.TheVariants.{Current, History, HistoryLong}
use Rattle.pfs_rows.specs.declared.table.Table.TheVariants.{Threads, Accounts, Users, Hosts, Events, Summary, DigestSummary}
use Rattle.pfs_rows.specs.declared.table.TableKind.{TableKind}
use Rattle.pfs_rows.specs.declared.table.TableKind.TheVariants.{Waits, Stages, Statements, Transactions}
use Rattle.pfs_stat.specs.declared.Stat.{Stat}
use Rattle.pfs_stat.specs.Stat.{merge_of, stat_of_words}
use Rattle.pfs_summaries.proofs.PutOrder.{both, values_puts, weaker}
use Rattle.pfs_summaries.specs.Cells.{is_hidden_by, tally_of}
use Rattle.pfs_summaries.specs.FoundContents.{account_at, contents_of, host_at, info_at, infos_of, thread_at, user_at}
use Rattle.pfs_summaries.specs.DigestRows.{counted_row, digest_heading, digest_row, digests_of, null_heading, place_row}
use Rattle.pfs_summaries.specs.Heads.{account_head, head_of, host_head, places_of, row_cmp as summary_cmp, user_head}
use Rattle.pfs_summaries.specs.RowValues.{sums_of, times_of, values_of as numbers_shown}
use Rattle.pfs_summaries.specs.Summaries.{class_rows, class_text, head_rows, is_listed, key_at, numbers_of, ordered_rows, place_rows, row_values, summary_rows_of}
use Rattle.pfs_summaries.specs.declared.heads.Head.{Head}
use Rattle.pfs_summaries.specs.declared.numbers.Numbers.{Numbers}
use Rattle.pfs_summaries.specs.declared.numbers.Numbers.TheVariants as numbers
use Rattle.pfs_summaries.specs.declared.tallies.Tally.{Tally}
use Rattle.pfs_tables.specs.EventRows.{Fields, class_name, digest_of, digest_values, event_head, event_in, event_tail, event_values, has_ended, named_values, nesting_name, object_of, statement_values, table_values, where_true}
use Rattle.pfs_tables.specs.TableOrders.{Keyed, name_key, number_key, row_cmp}
use Rattle.pfs_tables.specs.PlaceTables.{account_row, account_values, event_key, event_row, flag_value, flags_at, keyed_event, may_show, name_row, name_values, on_place, plain_rows_of, rows_of, slot_row, thread_row, thread_values, word_rows, words_row}
use Rattle.pfs_tables.specs.ListedRows.{listed_rows}
use Rattle.pfs_text.specs.declared.values.RowValue.{RowValue}
use Rattle.pfs_text.specs.declared.values.RowValue.TheVariants as values
use Rattle.pfs_law_report.proofs.HashTexts.{hash_text}
use Rattle.pfs_law_report.specs.ReportableRuns.{IsNamedTable, TablesLaw}

-- ---- texts and names

pub passed : (test : ℕ → Bool) (xs : List ℕ) → list_all test xs ≡ true → All (λ b. test b ≡ true) xs
passed test [] e = All-nil (λ b. test b ≡ true)
passed test (x ∷ xs) e = let h = and_parts (test x) (list_all test xs) e in All-cons (λ b. test b ≡ true) x xs h.0 (passed test xs h.1)

no_text : IsText []
no_text = All-nil (λ b. is_text_byte b ≡ true)

filled : (xs : List ℕ) → nat_lt 0 (length xs) ≡ true → xs ≢ []
filled xs e = λ h. let none : nat_lt 0 (length xs) ≡ false = ap (λ z. nat_lt 0 (length z)) h in absurd (cc)

is_name : (name : List ℕ) → nat_lt 0 (length name) ≡ true → list_all is_name_byte name ≡ true → IsName name
is_name name some bytes = record { some = filled name some; bytes = passed is_name_byte name bytes }

found_text : (names : List (List ℕ)) (i : ℕ) → All IsText names → IfSome (slice_get names i) IsText
found_text [] i all = tt
found_text (x ∷ xs) zero all = All-head IsText x xs all
found_text (x ∷ xs) (suc i) all = found_text xs i (All-tail IsText x xs all)

text_at : (names : List (List ℕ)) (i : ℕ) → All IsText names → IsText (text_of names i)
text_at names i all = at (slice_get names i) (found_text names i all)
  where
    at : (o : Option (List ℕ)) → IfSome o IsText → IsText (unwrap_or o [])
    at None h = no_text
    at (Some text) h = h

-- a row whose values are such as a report can have
abbrev pub IsLegible : List RowValue → Type 0
IsLegible row = AllByRecursion IsValue row

pub flag_text : (b : Bool) → IsValue (flag_value b)
flag_text true = passed is_text_byte (codes "YES") refl
flag_text false = passed is_text_byte (codes "NO") refl

-- ---- what may be there

then_if : {A B : Type 0} (P : A → Type 0) (Q : B → Type 0) (f : A → Option B) (o : Option A) → IfSome o P → ((x : A) → P x → IfSome (f x) Q) → IfSome (option_and_then f o) Q
then_if P Q f None h so = tt
then_if P Q f (Some x) h so = so x h

pub mapped_if : {A B : Type 0} (P : A → Type 0) (Q : B → Type 0) (f : A → B) (o : Option A) → IfSome o P → ((x : A) → P x → Q (f x)) → IfSome (option_map f o) Q
mapped_if P Q f None h so = tt
mapped_if P Q f (Some x) h so = so x h

pub tested : {A : Type 0} (Q : A → Type 0) (b : Bool) (o : Option A) → IfSome o Q → IfSome (cond b o None) Q
tested Q true o h = h
tested Q false o h = tt

pub listed : {K : Type 0} (P : List RowValue → Type 0) (o : Option (K × List RowValue)) → IfSome o (λ (row : K × List RowValue). P row.1) → AllByRecursion P (values_of (option_to_list o))
listed P None h = tt
listed P (Some row) h = (h, tt)

each_good : {A K : Type 0} (P : List RowValue → Type 0) (f : A → List (K × List RowValue)) → ((a : A) → AllByRecursion P (values_of (f a))) → (xs : List A) → AllByRecursion P (values_of (flat_map f xs))
each_good P f so [] = tt
each_good {A} {K} P f so (x ∷ xs) =
    subst (AllByRecursion P) (sym (map-append (λ (e : K × List RowValue). e.1) (f x) (flat_map f xs)))
    (both P (values_of (f x)) (values_of (flat_map f xs)) (so x) (each_good P f so xs))

-- ---- threads, accounts, users and hosts

abbrev pub IsLegibleRow : Keyed → Type 0
IsLegibleRow row = IsLegible row.1

module _ (setting : Setting) (all : All IsText setting.names) where
  thread_good : (place flags : ℕ) (info : ThreadInfo) → IfSome (thread_row setting place flags info) IsLegibleRow
  unfolding thread_row
  thread_good place flags info =
      let make : List ℕ → List ℕ → Keyed = λ user host. (number_key info.session 0 place, thread_values info flags user host) in
      then_if IsText IsLegibleRow (λ user. option_map (make user) (slice_get setting.names info.host_name)) (slice_get setting.names info.user_name) (found_text setting.names info.user_name all)
      (λ user u. mapped_if IsText IsLegibleRow (make user) (slice_get setting.names info.host_name) (found_text setting.names info.host_name all)
      (λ host h. (tt, (u, (h, (flag_text (bit_at flags 0 == 1), (flag_text (bit_at flags 1 == 1), tt)))))))

  account_good : (place : ℕ) (info : AccountInfo) → IfSome (account_row setting place info) IsLegibleRow
  unfolding account_row
  account_good place info =
      let make : List ℕ → List ℕ → Keyed = λ user host. (name_key user host place, account_values info user host) in
      then_if IsText IsLegibleRow (λ user. option_map (make user) (slice_get setting.names info.host_name)) (slice_get setting.names info.user_name) (found_text setting.names info.user_name all)
      (λ user u. mapped_if IsText IsLegibleRow (make user) (slice_get setting.names info.host_name) (found_text setting.names info.host_name all) (λ host h. (u, (h, (tt, (tt, tt))))))

  name_good : (place : ℕ) (info : NameInfo) → IfSome (name_row setting place info) IsLegibleRow
  unfolding name_row
  name_good place info =
      mapped_if IsText IsLegibleRow (λ name. (name_key name [] place, name_values info name)) (slice_get setting.names info.name) (found_text setting.names info.name all) (λ name n. (n, (tt, (tt, tt))))

  -- what a table whose rows each show one place asks for
  pub record IsPlainGood (table : Table) : Type 0 where
    pub words : (readings : List Reading) (row : ℕ) (words : List ℕ) → IfSome (words_row setting table readings row words) IsLegibleRow
    pub loads : (word flags : ℕ) → AllByRecursion IsLegible (values_of (word_rows setting table word flags))

  pub threads : IsPlainGood Threads
  unfolding words_row
  threads = record { words = λ readings row words. thread_good row (flags_at readings row) (infos.thread_of words); loads = λ word flags. tt }

  pub accounts : IsPlainGood Accounts
  unfolding words_row
  accounts = record { words = λ readings row words. account_good row (infos.account_of words); loads = λ word flags. tt }

  pub users : IsPlainGood Users
  unfolding words_row
  users = record { words = λ readings row words. name_good row (infos.name_of words); loads = λ word flags. tt }

  pub hosts : IsPlainGood Hosts
  unfolding words_row
  hosts = record { words = λ readings row words. name_good row (infos.name_of words); loads = λ word flags. tt }

  slot_good : (table : Table) → IsPlainGood table → (readings : List Reading) (row : ℕ) (seen : Seen) → IfSome (slot_row setting table readings row seen) IsLegibleRow
  unfolding slot_row
  slot_good table good readings row (seens.Whole version content) =
      tested IsLegibleRow (on_place (may_show table) (place_at row)) (words_row setting table readings row content) (good.words readings row content)
  slot_good table good readings row (seens.Free word) = tt
  slot_good table good readings row (seens.Busy first second) = tt

  reading_good : (table : Table) → IsPlainGood table → (readings : List Reading) (reading : Reading) → AllByRecursion IsLegible (values_of (rows_of setting table readings reading))
  reading_good table good readings (found.Slot row seen) = listed IsLegible (slot_row setting table readings row seen) (slot_good table good readings row seen)
  reading_good table good readings (found.Word word version flags) = good.loads word flags

  pub plain_good : (table : Table) → IsPlainGood table → (readings : List Reading) → AllByRecursion IsLegible (plain_rows_of setting table readings)
  unfolding plain_rows_of
  plain_good table good readings =
      values_puts row_cmp IsLegible [] (flat_map (rows_of setting table readings) readings) tt (each_good IsLegible (rows_of setting table readings) (reading_good table good readings) readings)

-- ---- summaries

times_good : (stat : Stat) → IsLegible (times_of stat)
unfolding times_of
times_good stat = (tt, (tt, (tt, (tt, (tt, tt)))))

sums_good : (stat : Stat) → IsLegible (sums_of stat)
unfolding sums_of
sums_good stat = (tt, (tt, (tt, (tt, (tt, (tt, tt))))))

numbers_good : (shown : Numbers) → IsLegible (numbers_shown shown)
unfolding numbers_shown
numbers_good (numbers.Times stat) = times_good stat
numbers_good (numbers.Statements stat) = both IsValue (times_of stat) (sums_of stat) (times_good stat) (sums_good stat)
numbers_good (numbers.Transactions read_write read_only) =
    both IsValue (times_of (merge_of read_write read_only) ++ times_of read_write) (times_of read_only)
    (both IsValue (times_of (merge_of read_write read_only)) (times_of read_write) (times_good (merge_of read_write read_only)) (times_good read_write)) (times_good read_only)

-- what rows begin with has texts
record IsHead (head : Head) : Type 0 where
  user : IsText head.user
  host : IsText head.host

module _ (setting : Setting) (all : All IsText setting.names) where
  account_head_good : (info : Option AccountInfo) → IfSome (account_head setting.names info) IsHead
  account_head_good None = tt
  account_head_good (Some info) =
      tested IsHead (nat_lt info.user_name (length setting.names) && nat_lt info.host_name (length setting.names)) (Some _) (record { user = text_at setting.names info.user_name all; host = text_at setting.names info.host_name all })

  user_head_good : (info : Option NameInfo) → IfSome (user_head setting.names info) IsHead
  user_head_good None = tt
  user_head_good (Some info) = tested IsHead (nat_lt info.name (length setting.names)) (Some _) (record { user = text_at setting.names info.name all; host = no_text })

  host_head_good : (info : Option NameInfo) → IfSome (host_head setting.names info) IsHead
  host_head_good None = tt
  host_head_good (Some info) = tested IsHead (nat_lt info.name (length setting.names)) (Some _) (record { user = no_text; host = text_at setting.names info.name all })

  thread_head_good : (info : Option ThreadInfo) → IfSome (option_map (λ (info : ThreadInfo). let head : Head = record { thread_id = info.session; user = []; host = []; stands = true } in head) info) IsHead
  thread_head_good None = tt
  thread_head_good (Some info) = record { user = no_text; host = no_text }

  head_good : (which : SummaryTable) (infos : List (Option (List ℕ))) (place : ℕ) → IfSome (head_of which setting.names infos place) IsHead
  head_good ByThread infos place = thread_head_good (thread_at infos place)
  head_good ByAccount infos place = account_head_good (account_at infos place)
  head_good ByUser infos place = user_head_good (user_at infos place)
  head_good ByHost infos place = host_head_good (host_at infos place)
  head_good Global infos place = record { user = no_text; host = no_text }

  class_good : (class : Option Class) → IsText (class_text setting.names class)
  class_good None = no_text
  class_good (Some class) = text_at setting.names class.name all

  values_good : (kind : TableKind) (which : SummaryTable) (head : Head) → IsHead head → (tally : ℕ → Tally) (id : ℕ) → IsLegible (row_values setting kind which head tally id)
  unfolding row_values
  values_good kind ByThread head is tally id = (tt, (class_good (class_at setting.classes id), numbers_good (numbers_of kind tally id)))
  values_good kind ByAccount head is tally id = (is.user, (is.host, (class_good (class_at setting.classes id), numbers_good (numbers_of kind tally id))))
  values_good kind ByUser head is tally id = (is.user, (class_good (class_at setting.classes id), numbers_good (numbers_of kind tally id)))
  values_good kind ByHost head is tally id = (is.host, (class_good (class_at setting.classes id), numbers_good (numbers_of kind tally id)))
  values_good kind Global head is tally id = (class_good (class_at setting.classes id), numbers_good (numbers_of kind tally id))

  class_rows_good : (kind : TableKind) (which : SummaryTable) (place : ℕ) (tally : ℕ → Tally) (head : Head) → IsHead head → (id : ℕ) → AllByRecursion IsLegible (values_of (class_rows setting kind which place tally head id))
  unfolding class_rows
  class_rows_good kind which place tally head is id = at (is_listed setting kind head tally id)
    where
      at : (b : Bool) → AllByRecursion IsLegible (values_of (cond b ((key_at head place id, row_values setting kind which head tally id) ∷ []) []))
      at true = (values_good kind which head is tally id, tt)
      at false = tt

  head_rows_good : (kind : TableKind) (which : SummaryTable) (place : ℕ) (tally : ℕ → Tally) (o : Option Head) → IfSome o IsHead → AllByRecursion IsLegible (values_of (head_rows setting kind which place tally o))
  head_rows_good kind which place tally None is = tt
  head_rows_good kind which place tally (Some head) is = each_good IsLegible (class_rows setting kind which place tally head) (class_rows_good kind which place tally head is) (range_with_len 0 63)

  ordered_good : (kind : TableKind) (which : SummaryTable) (infos : List (Option (List ℕ))) (tally : ℕ → ℕ → Tally) → AllByRecursion IsLegible (values_of (ordered_rows setting kind which infos tally))
  unfolding ordered_rows
  ordered_good kind which infos tally =
      values_puts summary_cmp IsLegible [] (flat_map (place_rows setting kind which infos tally) (range_with_len 0 (places_of which))) tt
      (each_good IsLegible (place_rows setting kind which infos tally) (λ place. head_rows_good kind which place (tally place) (head_of which setting.names infos place) (head_good which infos place)) (range_with_len 0 (places_of which)))

  pub summary_good : (kind : TableKind) (which : SummaryTable) (readings : List Reading) → AllByRecursion IsLegible (summary_rows_of setting kind which readings)
  unfolding summary_rows_of
  summary_good kind which readings = at (list_any (is_hidden_by which) readings)
    where
      at : (b : Bool) → AllByRecursion IsLegible (cond b [] (values_of (ordered_rows setting kind which (infos_of readings) (tally_of which (infos_of readings) readings))))
      at true = tt
      at false = ordered_good kind which (infos_of readings) (tally_of which (infos_of readings) readings)

summary_name : (kind : TableKind) (which : SummaryTable) → IsName (table_name (Summary kind which))
summary_name Waits ByThread = is_name (table_name (Summary Waits ByThread)) refl refl
summary_name Waits ByAccount = is_name (table_name (Summary Waits ByAccount)) refl refl
summary_name Waits ByUser = is_name (table_name (Summary Waits ByUser)) refl refl
summary_name Waits ByHost = is_name (table_name (Summary Waits ByHost)) refl refl
summary_name Waits Global = is_name (table_name (Summary Waits Global)) refl refl
summary_name Stages ByThread = is_name (table_name (Summary Stages ByThread)) refl refl
summary_name Stages ByAccount = is_name (table_name (Summary Stages ByAccount)) refl refl
summary_name Stages ByUser = is_name (table_name (Summary Stages ByUser)) refl refl
summary_name Stages ByHost = is_name (table_name (Summary Stages ByHost)) refl refl
summary_name Stages Global = is_name (table_name (Summary Stages Global)) refl refl
summary_name Statements ByThread = is_name (table_name (Summary Statements ByThread)) refl refl
summary_name Statements ByAccount = is_name (table_name (Summary Statements ByAccount)) refl refl
summary_name Statements ByUser = is_name (table_name (Summary Statements ByUser)) refl refl
summary_name Statements ByHost = is_name (table_name (Summary Statements ByHost)) refl refl
summary_name Statements Global = is_name (table_name (Summary Statements Global)) refl refl
summary_name Transactions ByThread = is_name (table_name (Summary Transactions ByThread)) refl refl
summary_name Transactions ByAccount = is_name (table_name (Summary Transactions ByAccount)) refl refl
summary_name Transactions ByUser = is_name (table_name (Summary Transactions ByUser)) refl refl
summary_name Transactions ByHost = is_name (table_name (Summary Transactions ByHost)) refl refl
summary_name Transactions Global = is_name (table_name (Summary Transactions Global)) refl refl

-- ---- the summary by digest

module _ (setting : Setting) (texts : All (λ (digest : DigestText). IsText digest.text) setting.digests) where
  counted_good : (heading : List RowValue) → IsLegible heading → (content : Option (List ℕ)) → AllByRecursion IsLegible (counted_row heading content)
  counted_good heading good None = tt
  counted_good heading good (Some words) = at ((stat_of_words words).count == 0) where
    at : (b : Bool) → AllByRecursion IsLegible (cond b [] ((heading ++ numbers_shown (numbers.Statements (stat_of_words words))) ∷ []))
    at true = tt
    at false = (both IsValue heading (numbers_shown (numbers.Statements (stat_of_words words))) good (numbers_good (numbers.Statements (stat_of_words words))), tt)

  found_digest : (digests : List DigestText) (i : ℕ) → All (λ (digest : DigestText). IsText digest.text) digests → IfSome (slice_get digests i) (λ (digest : DigestText). IsText digest.text)
  found_digest [] i all = tt
  found_digest (x ∷ xs) zero all = All-head (λ (digest : DigestText). IsText digest.text) x xs all
  found_digest (x ∷ xs) (suc i) all = found_digest xs i (All-tail (λ (digest : DigestText). IsText digest.text) x xs all)

  place_good : (digest : Option DigestText) → IfSome digest (λ (digest : DigestText). IsText digest.text) → (content : Option (List ℕ)) → AllByRecursion IsLegible (place_row digest content)
  place_good None h content = tt
  place_good (Some digest) h content = counted_good (digest_heading digest) (tt, (hash_text digest.text, (h, tt))) content

  digest_good : (contents : List (Option (List ℕ))) (place : ℕ) → AllByRecursion IsLegible (digest_row setting.digests contents place)
  unfolding digest_row
  digest_good contents place = place_good (slice_get setting.digests place) (found_digest setting.digests place texts) (info_at contents (1 + place))

  each_digest_good : (contents : List (Option (List ℕ))) (places : List ℕ) → AllByRecursion IsLegible (flat_map (digest_row setting.digests contents) places)
  each_digest_good contents [] = tt
  each_digest_good contents (place ∷ places) =
      both IsLegible (digest_row setting.digests contents place) (flat_map (digest_row setting.digests contents) places) (digest_good contents place) (each_digest_good contents places)

  pub digests_good : (readings : List Reading) → AllByRecursion IsLegible (digests_of setting readings)
  unfolding digests_of
  digests_good readings =
      both IsLegible (counted_row null_heading (info_at (contents_of 8385 65 readings) 0)) (flat_map (digest_row setting.digests (contents_of 8385 65 readings)) (range_with_len 0 64))
      (counted_good null_heading (tt, (tt, (tt, tt))) (info_at (contents_of 8385 65 readings) 0))
      (each_digest_good (contents_of 8385 65 readings) (range_with_len 0 64))

-- ---- event tables

number_good : (test : Bool) (number : ℕ) → IsValue (where_true test number)
number_good true number = tt
number_good false number = tt

nesting_good : (nesting : ℕ) → IsValue (nesting_name nesting)
nesting_good nesting = at (nesting == 1) (nesting == 2) (nesting == 3) (nesting == 4) where
  at : (a b c d : Bool)
      → IsValue (if a then values.Text (codes "TRANSACTION") else if b then values.Text (codes "STATEMENT") else if c then values.Text (codes "STAGE") else if d then values.Text (codes "WAIT") else values.Null)
  at true b c d = passed is_text_byte (codes "TRANSACTION") refl
  at false true c d = passed is_text_byte (codes "STATEMENT") refl
  at false false true d = passed is_text_byte (codes "STAGE") refl
  at false false false true = passed is_text_byte (codes "WAIT") refl
  at false false false false = tt

event_head_good : (event : Fields) (name : List ℕ) → IsText name → IsLegible (event_head event name)
unfolding event_head
event_head_good event name text = (
  tt,
  (
    tt,
    (
      number_good (has_ended event) event.last,
      (
        text,
        (
          number_good event.timed event.start,
          (
            number_good (event.timed && has_ended event) _,
            (number_good (event.timed && has_ended event) event.duration, (number_good (not (event.nesting == 0)) event.parent, (nesting_good event.nesting, tt))),
          ),
        ),
      ),
    ),
  ),
)

access_good : (read_only : Bool) → IsText (if read_only then codes "READ ONLY" else codes "READ WRITE")
access_good true = passed is_text_byte (codes "READ ONLY") refl
access_good false = passed is_text_byte (codes "READ WRITE") refl

found_in : {A : Type 0} (P : A → Type 0) (xs : List A) (i : ℕ) → All P xs → IfSome (slice_get xs i) P
found_in P [] i all = tt
found_in P (x ∷ xs) zero all = All-head P x xs all
found_in P (x ∷ xs) (suc i) all = found_in P xs i (All-tail P x xs all)

any_if : {A : Type 0} (o : Option A) → IfSome o (λ x. Unit {0})
any_if None = tt
any_if (Some x) = tt

module _ (setting : Setting) (all : All IsText setting.names) (texts : All (λ (digest : DigestText). IsText digest.text) setting.digests) (named : All IsNamedTable setting.tables) where
  object_good : (link : ℕ) → IfSome (object_of setting link) IsLegible
  unfolding object_of
  object_good link = at (link == 0) where
    at : (none : Bool) → IfSome (if none then Some (values.Null ∷ values.Null ∷ []) else option_map table_values (slice_get setting.tables (link - 1))) IsLegible
    at true = (tt, (tt, tt))
    at false = mapped_if IsNamedTable IsLegible table_values (slice_get setting.tables (link - 1)) (found_in IsNamedTable setting.tables (link - 1) named) (λ table t. (t.0, (t.1, tt)))

  link_good : (link : ℕ) → IfSome (digest_of setting link) IsLegible
  unfolding digest_of
  link_good link = at (link == 0) where
    at : (none : Bool) → IfSome (if none then Some (values.Null ∷ []) else option_map digest_values (slice_get setting.digests (link - 1))) IsLegible
    at true = (tt, tt)
    at false = mapped_if (λ (digest : DigestText). IsText digest.text) IsLegible digest_values (slice_get setting.digests (link - 1))
        (found_in (λ (digest : DigestText). IsText digest.text) setting.digests (link - 1) texts) (λ digest t. (hash_text digest.text, tt))

  tail_good : (kind : TableKind) (event : Fields) → IfSome (event_tail setting kind event) IsLegible
  unfolding event_tail
  tail_good Waits event = object_good event.link
  tail_good Stages event = tt
  tail_good Statements event =
      mapped_if IsLegible IsLegible (λ digest. statement_values event ++ digest) (digest_of setting event.link) (link_good event.link) (λ digest g. (tt, (tt, (tt, (tt, (tt, (tt, g)))))))
  tail_good Transactions event = (access_good event.read_only, tt)

  pub class_named : (class : Option Class) → IfSome (option_and_then (λ (class : Class). slice_get setting.names class.name) class) IsText
  class_named None = tt
  class_named (Some class) = found_text setting.names class.name all

  event_values_good : (kind : TableKind) (event : Fields) → IfSome (event_values setting kind event) IsLegible
  event_values_good kind event =
      then_if IsText IsLegible (named_values setting kind event) (class_name setting event.class) (class_named (class_at setting.classes event.class))
      (λ name n. mapped_if IsLegible IsLegible (λ tail. event_head event name ++ tail) (event_tail setting kind event) (tail_good kind event)
      (λ tail g. both IsValue (event_head event name) tail (event_head_good event name n) g))

  event_good : (kind : TableKind) (which : EventTable) (place : ℕ) (words : List ℕ) → IfSome (event_row setting kind which place words) IsLegibleRow
  unfolding event_row
  event_good kind which place words =
      then_if (λ (event : Fields). Unit {0}) IsLegibleRow (keyed_event setting kind which place) (event_in words) (any_if (event_in words))
      (λ event u. mapped_if IsLegible IsLegibleRow (λ values. (event_key which event place, values)) (event_values setting kind event) (event_values_good kind event) (λ values g. g))

  pub events : (kind : TableKind) (which : EventTable) → IsPlainGood setting all (Events kind which)
  unfolding words_row
  events kind which = record { words = λ readings row words. event_good kind which row words; loads = λ word flags. tt }

event_name : (kind : TableKind) (which : EventTable) → IsName (table_name (Events kind which))
event_name Waits Current = is_name (table_name (Events Waits Current)) refl refl
event_name Waits History = is_name (table_name (Events Waits History)) refl refl
event_name Waits HistoryLong = is_name (table_name (Events Waits HistoryLong)) refl refl
event_name Stages Current = is_name (table_name (Events Stages Current)) refl refl
event_name Stages History = is_name (table_name (Events Stages History)) refl refl
event_name Stages HistoryLong = is_name (table_name (Events Stages HistoryLong)) refl refl
event_name Statements Current = is_name (table_name (Events Statements Current)) refl refl
event_name Statements History = is_name (table_name (Events Statements History)) refl refl
event_name Statements HistoryLong = is_name (table_name (Events Statements HistoryLong)) refl refl
event_name Transactions Current = is_name (table_name (Events Transactions Current)) refl refl
event_name Transactions History = is_name (table_name (Events Transactions History)) refl refl
event_name Transactions HistoryLong = is_name (table_name (Events Transactions HistoryLong)) refl refl

-- ---- the tables at a phase's end

-- a table with such a name shows such rows, whatever is read of it
record IsGood (setting : Setting) (table : Table) : Type 0 where
  name : IsName (table_name table)
  rows : (readings : List Reading) → AllByRecursion IsLegible (listed_rows setting table readings)

module _ (setting : Setting) (all : All IsText setting.names) (texts : All (λ (digest : DigestText). IsText digest.text) setting.digests) (named : All IsNamedTable setting.tables) where
  one_good : (kind : TableKind) (which : SummaryTable) → IsGood setting (Summary kind which)
  one_good kind which = record { name = summary_name kind which; rows = summary_good setting all kind which }

  kind_good : (kind : TableKind) → AllByRecursion (IsGood setting) (summaries_of kind)
  kind_good kind = (one_good kind ByThread, (one_good kind ByAccount, (one_good kind ByUser, (one_good kind ByHost, (one_good kind Global, tt)))))

  threads_good : IsGood setting Threads
  threads_good = record { name = is_name (table_name Threads) refl refl; rows = plain_good setting all Threads (threads setting all) }

  accounts_good : IsGood setting Accounts
  accounts_good = record { name = is_name (table_name Accounts) refl refl; rows = plain_good setting all Accounts (accounts setting all) }

  users_good : IsGood setting Users
  users_good = record { name = is_name (table_name Users) refl refl; rows = plain_good setting all Users (users setting all) }

  hosts_good : IsGood setting Hosts
  hosts_good = record { name = is_name (table_name Hosts) refl refl; rows = plain_good setting all Hosts (hosts setting all) }

  event_table_good : (kind : TableKind) (which : EventTable) → IsGood setting (Events kind which)
  event_table_good kind which = record { name = event_name kind which; rows = plain_good setting all (Events kind which) (events setting all texts named kind which) }

  events_good : (kind : TableKind) → AllByRecursion (IsGood setting) (events_of kind)
  events_good kind = (event_table_good kind Current, (event_table_good kind History, (event_table_good kind HistoryLong, tt)))

  digest_summary_good : IsGood setting DigestSummary
  digest_summary_good = record { name = is_name (table_name DigestSummary) refl refl; rows = digests_good setting texts }

  -- behind the event tables stand the summaries
  abbrev behind_events : List Table
  behind_events = summaries_of Waits ++ (summaries_of Stages ++ (summaries_of Statements ++ (summaries_of Transactions ++ DigestSummary ∷ [])))

  summaries_good : AllByRecursion (IsGood setting) behind_events
  summaries_good =
      both (IsGood setting) (summaries_of Waits) (summaries_of Stages ++ (summaries_of Statements ++ (summaries_of Transactions ++ DigestSummary ∷ []))) (kind_good Waits)
      (both (IsGood setting) (summaries_of Stages) (summaries_of Statements ++ (summaries_of Transactions ++ DigestSummary ∷ [])) (kind_good Stages)
      (both (IsGood setting) (summaries_of Statements) (summaries_of Transactions ++ DigestSummary ∷ []) (kind_good Statements)
      (both (IsGood setting) (summaries_of Transactions) (DigestSummary ∷ []) (kind_good Transactions) (digest_summary_good, tt))))

  order_good : AllByRecursion (IsGood setting) final_order
  order_good = (
    threads_good,
    (
      accounts_good,
      (
        users_good,
        (
          hosts_good,
          both (IsGood setting) (events_of Waits) (events_of Stages ++ (events_of Statements ++ (events_of Transactions ++ behind_events))) (events_good Waits)
              (both (IsGood setting) (events_of Stages) (events_of Statements ++ (events_of Transactions ++ behind_events)) (events_good Stages)
              (both (IsGood setting) (events_of Statements) (events_of Transactions ++ behind_events) (events_good Statements)
              (both (IsGood setting) (events_of Transactions) behind_events (events_good Transactions) summaries_good))),
        ),
      ),
    ),
  )

  if_good : (table : Table) (rows : List (List RowValue)) → IsName (table_name table) → All IsRow rows → AllByRecursion IsTable (table_if table rows)
  if_good table rows name good = at (length rows == 0) refl
    where
      some : (length rows == 0) ≡ false → rows ≢ []
      some e = λ h. let none : (length rows == 0) ≡ true = ap (λ (z : List (List RowValue)). length z == 0) h in absurd (cc)

      at : (none : Bool) → (length rows == 0) ≡ none → AllByRecursion IsTable (cond none [] (record { name = table_name table; rows = rows } ∷ []))
      at true e = tt
      at false e = (record { name = name; some = some e; rows = good }, tt)

  report_good : (read : TableRead) → IsGood setting read.table → AllByRecursion IsTable (table_report setting read)
  report_good read good =
      if_good read.table (shown_rows setting read.table read.readings) good.name
      (All-filter (is_shown read.table) IsRow (listed_rows setting read.table read.readings)
      (All-from_recursion IsRow (listed_rows setting read.table read.readings) (weaker IsLegible IsRow (All-from_recursion IsValue) (listed_rows setting read.table read.readings) (good.rows read.readings))))

  reads_good : (reads : List TableRead) → AllByRecursion (IsGood setting) (map (λ (read : TableRead). read.table) reads) → AllByRecursion IsTable (flat_map (table_report setting) reads)
  reads_good [] good = tt
  reads_good (read ∷ reads) good = both IsTable (table_report setting read) (flat_map (table_report setting) reads) (report_good read good.0) (reads_good reads good.1)

pub all_tables : TablesLaw
all_tables = λ setting reads all texts named order.
    All-from_recursion IsTable (flat_map (table_report setting) reads) (reads_good setting all texts named reads (subst (AllByRecursion (IsGood setting)) (sym order) (order_good setting all texts named)))
