-- The rows of the tables that each show one place or one word stand in order, and none takes another's place.
use Rattle.std.proofs.Common.{◌≡◌, ◌≢◌, ℕ, suc, ◌-◌, Bool, true, false, ◌&&◌, List, [], ◌∷◌, map, Option, Some, None, refl, sym, ◌∙◌, ap, subst, arith}
use Rattle.std.specs.Prelude.{◌==◌, if◌then◌else◌, nat_le, AllPairs, IsPermutation, slice_get}
use Rattle.std.specs.Option.{IfSome, option_map, option_to_list}
use Rattle.std.specs.List.{AllByRecursion, IsDistinct, flat_map}
use Rattle.std.specs.List.Sorted.{IsStrictlySortedBy}
use Rattle.std.specs.declared.cmp.Ordering.{Ordering}
use Rattle.std.specs.declared.cmp.Ordering.TheVariants.{Less, Equal, Greater}
use Rattle.std.specs.Ordering.{eq_by_cmp, is_lt, nat_cmp, ordering_then}
use Rattle.std.specs.Cmp.{IsTotalOrder, nat_cmp_total, on_total, then_total}
use Rattle.std.specs.Cmp.Lexicographic.{slice_cmp}
use Rattle.std.specs.Map.{keys_of}
use Rattle.std.proofs.lemmas.Bool.{false≢true}
use Rattle.std.proofs.lemmas.Bool.Decides.{nat_tests}
use Rattle.std.proofs.lemmas.Cmp.{nat_list_cmp_total}
use Rattle.std.proofs.lemmas.List.{map-append}
use Rattle.std.proofs.lemmas.List.Elements.{recursion_from_All}
use Rattle.std.proofs.lemmas.Map.Keys.{IsDistinct-from_sorted}
use Rattle.pfs_lemmas.proofs.Bools.{and_first, and_second}
use Rattle.pfs_rows.specs.declared.table.Table.{Table}
use Rattle.pfs_rows.specs.declared.table.Table.TheVariants.{SetupActors, SetupObjects, SetupInstruments, SetupConsumers, Threads, Accounts, Users, Hosts, Events, Summary, DigestSummary}
use Rattle.pfs_rows.specs.declared.table.TableKind.{TableKind}
use Rattle.pfs_rows.specs.declared.table.EventTable.{EventTable}
use Rattle.pfs_rows.specs.declared.table.EventTable.TheVariants.{Current, History, HistoryLong}
use Rattle.pfs_rows.specs.declared.table.Reading.{Reading}
use Rattle.pfs_rows.specs.declared.table.Reading.TheVariants as found
use Rattle.pfs_rows.specs.declared.table.Seen.{Seen}
use Rattle.pfs_rows.specs.declared.table.Seen.TheVariants as seens
use Rattle.pfs_rows.specs.Rows.{place_at}
use Rattle.pfs_classes.specs.declared.setting.Setting.{Setting}
use Rattle.pfs_consumers.specs.declared.Consumer.{Consumer}
use Rattle.pfs_containers.specs.declared.infos.ThreadInfo.{ThreadInfo}
use Rattle.pfs_containers.specs.declared.infos.AccountInfo.{AccountInfo}
use Rattle.pfs_containers.specs.declared.infos.NameInfo.{NameInfo}
use Rattle.pfs_containers.specs.InfoWords as infos
use Rattle.pfs_readsets.specs.declared.target.Target.{Target}
use Rattle.pfs_readsets.specs.declared.target.Target.TheVariants as targets
use Rattle.pfs_readsets.specs.TablePlaces.{scope_of}
use Rattle.pfs_readsets.specs.ReadSets.{IsReadSet, target_of}
use Rattle.pfs_readsets.proofs.Members.{once}
use Rattle.pfs_summaries.proofs.RowKeys.{then_second, same_number}
use Rattle.pfs_summaries.proofs.PutOrder.{weaker, both, sorted_puts, each_put, apart_both}
use Rattle.pfs_tables.specs.declared.orders.RowKey.{RowKey}
use Rattle.pfs_tables.specs.EventRows.{Fields, event_in, event_values, class_name}
use Rattle.pfs_tables.specs.TableOrders.{Keyed, row_cmp, number_key, name_key}
use Rattle.pfs_tables.specs.PlaceTables.{event_key, event_row, keyed_event, thread_values, thread_row, account_values, account_row, name_values, name_row, words_row, slot_row, may_show, on_place, class_values, class_row, consumer_row, consumer_rows, consumers, flags_at, rows_of, given_rows, sorted_rows}
use Rattle.pfs_tables.proofs.Fits.{mapped_all, chained, tested}

-- ---- the order of keys

row_cmp_total : IsTotalOrder row_cmp
row_cmp_total =
    then_total (on_total (λ (k : RowKey). k.first) nat_cmp_total)
    (then_total (on_total (λ (k : RowKey). k.second) nat_cmp_total)
    (then_total (on_total (λ (k : RowKey). k.user) nat_list_cmp_total)
    (then_total (on_total (λ (k : RowKey). k.host) nat_list_cmp_total) (on_total (λ (k : RowKey). k.place) nat_cmp_total))))

abbrev same : RowKey → RowKey → Bool
same = eq_by_cmp row_cmp

place_alike : (x y : RowKey) → same x y ≡ true → x.place ≡ y.place
place_alike x y h =
    let place = nat_cmp x.place y.place in
    let host = ordering_then (slice_cmp nat_cmp x.host y.host) place in
    let user = ordering_then (slice_cmp nat_cmp x.user y.user) host in
    let second = ordering_then (nat_cmp x.second y.second) user in
    same_number x.place y.place
    (then_second (slice_cmp nat_cmp x.host y.host) place
    (then_second (slice_cmp nat_cmp x.user y.user) host (then_second (nat_cmp x.second y.second) user (then_second (nat_cmp x.first y.first) second h))))

pub ascending : (setting : Setting) (table : Table) (readings : List Reading) → IsStrictlySortedBy row_cmp (keys_of (sorted_rows setting table readings))
unfolding IsStrictlySortedBy
ascending setting table readings = sorted_puts row_cmp_total [] (given_rows setting table readings) tt

-- ---- the keys of the rows of one reading: each has the number of its row or word, and a table's rows come from rows
-- of the board or from words alone

abbrev has_words : Table → Bool
has_words SetupInstruments = true
has_words SetupConsumers = true
has_words _ = false

abbrev IsKeyOf : Table → Target → RowKey → Type 0
IsKeyOf table (targets.Row row) key = (has_words table ≡ false) × (key.place ≡ row)
IsKeyOf table (targets.Word word) key = (has_words table ≡ true) × (key.place ≡ word)

apart : (table : Table) (a b : Target) (x y : RowKey) → IsKeyOf table a x → IsKeyOf table b y → a ≢ b → same x y ≡ false
apart table a b x y of_a of_b differ = at a b of_a of_b differ (same x y) refl
  where
    at : (a b : Target) → IsKeyOf table a x → IsKeyOf table b y → a ≢ b → (t : Bool) → same x y ≡ t → same x y ≡ false
    at a b of_a of_b differ false e = e
    at (targets.Row r) (targets.Row s) of_a of_b differ true e = absurd (differ (ap targets.Row (sym of_a.1 ∙ (place_alike x y e ∙ of_b.1))))
    at (targets.Row r) (targets.Word w) of_a of_b differ true e = absurd (false≢true (sym of_a.0 ∙ of_b.0))
    at (targets.Word v) (targets.Row s) of_a of_b differ true e = absurd (false≢true (sym of_b.0 ∙ of_a.0))
    at (targets.Word v) (targets.Word w) of_a of_b differ true e = absurd (differ (ap targets.Word (sym of_a.1 ∙ (place_alike x y e ∙ of_b.1))))

abbrev HasPlace : ℕ → Keyed → Type 0
HasPlace place row = row.0.place ≡ place

event_place : (setting : Setting) (kind : TableKind) (which : EventTable) (place : ℕ) (words : List ℕ) → IfSome (event_row setting kind which place words) (HasPlace place)
unfolding event_row
event_place setting kind which place words =
    chained (HasPlace place) (keyed_event setting kind which place) (event_in words)
    (λ event. mapped_all (HasPlace place) (λ values. (event_key which event place, values)) (event_values setting kind event) (λ values. key_place which event))
  where
    key_place : (which : EventTable) (event : Fields) → (event_key which event place).place ≡ place
    key_place Current event = refl
    key_place History event = refl
    key_place HistoryLong event = refl

thread_place : (setting : Setting) (place flags : ℕ) (info : ThreadInfo) → IfSome (thread_row setting place flags info) (HasPlace place)
unfolding thread_row
thread_place setting place flags info =
    let make : List ℕ → List ℕ → Keyed = λ user host. (number_key info.session 0 place, thread_values info flags user host) in
    chained (HasPlace place) (λ user. option_map (make user) (slice_get setting.names info.host_name)) (slice_get setting.names info.user_name)
    (λ user. mapped_all (HasPlace place) (make user) (slice_get setting.names info.host_name) (λ host. refl))

account_place : (setting : Setting) (place : ℕ) (info : AccountInfo) → IfSome (account_row setting place info) (HasPlace place)
unfolding account_row
account_place setting place info =
    let make : List ℕ → List ℕ → Keyed = λ user host. (name_key user host place, account_values info user host) in
    chained (HasPlace place) (λ user. option_map (make user) (slice_get setting.names info.host_name)) (slice_get setting.names info.user_name)
    (λ user. mapped_all (HasPlace place) (make user) (slice_get setting.names info.host_name) (λ host. refl))

name_place : (setting : Setting) (place : ℕ) (info : NameInfo) → IfSome (name_row setting place info) (HasPlace place)
unfolding name_row
name_place setting place info = mapped_all (HasPlace place) (λ name. (name_key name [] place, name_values info name)) (slice_get setting.names info.name) (λ name. refl)

with_test : (b : Bool) (place : ℕ) (o : Option Keyed) → b ≡ false → IfSome o (HasPlace place) → IfSome o (λ (row : Keyed). (b ≡ false) × (row.0.place ≡ place))
with_test b place None off h = tt
with_test b place (Some row) off h = (off, h)

words_place : (setting : Setting) (table : Table) (readings : List Reading) (row : ℕ) (words : List ℕ)
    → IfSome (words_row setting table readings row words) (λ (one : Keyed). (has_words table ≡ false) × (one.0.place ≡ row))
unfolding words_row
words_place setting SetupActors readings row words = tt
words_place setting SetupObjects readings row words = tt
words_place setting SetupInstruments readings row words = tt
words_place setting SetupConsumers readings row words = tt
words_place setting Threads readings row words =
    with_test false row (thread_row setting row (flags_at readings row) (infos.thread_of words)) refl (thread_place setting row (flags_at readings row) (infos.thread_of words))
words_place setting Accounts readings row words = with_test false row (account_row setting row (infos.account_of words)) refl (account_place setting row (infos.account_of words))
words_place setting Users readings row words = with_test false row (name_row setting row (infos.name_of words)) refl (name_place setting row (infos.name_of words))
words_place setting Hosts readings row words = with_test false row (name_row setting row (infos.name_of words)) refl (name_place setting row (infos.name_of words))
words_place setting (Events kind which) readings row words = with_test false row (event_row setting kind which row words) refl (event_place setting kind which row words)
words_place setting (Summary kind which) readings row words = tt
words_place setting DigestSummary readings row words = tt

slot_place : (setting : Setting) (table : Table) (readings : List Reading) (row : ℕ) (seen : Seen)
    → IfSome (slot_row setting table readings row seen) (λ (one : Keyed). (has_words table ≡ false) × (one.0.place ≡ row))
unfolding slot_row
slot_place setting table readings row (seens.Whole version content) =
    tested (λ (one : Keyed). (has_words table ≡ false) × (one.0.place ≡ row)) (on_place (may_show table) (place_at row)) (words_row setting table readings row content)
    (words_place setting table readings row content)
slot_place setting table readings row (seens.Free word) = tt
slot_place setting table readings row (seens.Busy first second) = tt

class_place : (setting : Setting) (word flags : ℕ) → IfSome (class_row setting word flags) (λ (one : Keyed). (has_words SetupInstruments ≡ true) × (one.0.place ≡ word))
unfolding class_row
class_place setting word flags =
    let P : Keyed → Type 0 = λ (one : Keyed). (has_words SetupInstruments ≡ true) × (one.0.place ≡ word) in
    let make : List ℕ → Keyed = λ name. (number_key (word - 33) 0 word, class_values flags name) in
    tested P (nat_le 33 word) (option_map make (class_name setting (word - 33))) (mapped_all P make (class_name setting (word - 33)) (λ name. (refl, refl)))

consumers_place : (word flags : ℕ) → word ≡ 0 → (cs : List Consumer) → AllByRecursion (IsKeyOf SetupConsumers (targets.Word word)) (keys_of (map (consumer_row flags) cs))
consumers_place word flags e [] = tt
consumers_place word flags e (c ∷ cs) = ((refl, sym e), consumers_place word flags e cs)

consumer_places : (word flags : ℕ) → AllByRecursion (IsKeyOf SetupConsumers (targets.Word word)) (keys_of (consumer_rows word flags))
unfolding consumer_rows
consumer_places word flags = at (word == 0) refl
  where
    at : (b : Bool) → (word == 0) ≡ b → AllByRecursion (IsKeyOf SetupConsumers (targets.Word word)) (keys_of (if b then map (consumer_row flags) consumers else []))
    at true e = consumers_place word flags (grind (arith, nat_tests)) consumers
    at false e = tt

optional_key : (P : RowKey → Type 0) (o : Option Keyed) → IfSome o (λ (row : Keyed). P row.0) → AllByRecursion P (keys_of (option_to_list o))
optional_key P None h = tt
optional_key P (Some row) h = (h, tt)

reading_keys : (setting : Setting) (table : Table) (readings : List Reading) (reading : Reading)
    → AllByRecursion (IsKeyOf table (target_of reading)) (keys_of (rows_of setting table readings reading))
reading_keys setting table readings (found.Slot row seen) =
    optional_key (IsKeyOf table (targets.Row row)) (slot_row setting table readings row seen) (slot_place setting table readings row seen)
reading_keys setting SetupInstruments readings (found.Word word version flags) =
    optional_key (IsKeyOf SetupInstruments (targets.Word word)) (class_row setting word flags) (class_place setting word flags)
reading_keys setting SetupConsumers readings (found.Word word version flags) = consumer_places word flags
reading_keys setting SetupActors readings (found.Word word version flags) = tt
reading_keys setting SetupObjects readings (found.Word word version flags) = tt
reading_keys setting Threads readings (found.Word word version flags) = tt
reading_keys setting Accounts readings (found.Word word version flags) = tt
reading_keys setting Users readings (found.Word word version flags) = tt
reading_keys setting Hosts readings (found.Word word version flags) = tt
reading_keys setting (Events kind which) readings (found.Word word version flags) = tt
reading_keys setting (Summary kind which) readings (found.Word word version flags) = tt
reading_keys setting DigestSummary readings (found.Word word version flags) = tt

-- ---- within one reading no two keys are alike

-- each key is below the next
abbrev ascends : List RowKey → Bool
ascends [] = true
ascends (k ∷ []) = true
ascends (k ∷ l ∷ ks) = is_lt (row_cmp k l) && ascends (l ∷ ks)

lower : (r : Ordering) → is_lt r ≡ true → r ≡ Less
lower Less h = refl
lower Equal h = absurd (false≢true h)
lower Greater h = absurd (false≢true h)

sorted_by : (ks : List RowKey) → ascends ks ≡ true → IsStrictlySortedBy row_cmp ks
unfolding IsStrictlySortedBy
sorted_by [] h = tt
sorted_by (k ∷ []) h = (tt, tt)
sorted_by (k ∷ l ∷ ks) h =
    let below = lower (row_cmp k l) (and_first (is_lt (row_cmp k l)) (ascends (l ∷ ks)) h) in
    let rest = sorted_by (l ∷ ks) (and_second (is_lt (row_cmp k l)) (ascends (l ∷ ks)) h) in
    ((below, weaker (λ m. row_cmp l m ≡ Less) (λ m. row_cmp k m ≡ Less) (λ m past. row_cmp_total.trans k l m below past) ks rest.0), rest)

consumers_apart : (word flags : ℕ) → IsDistinct same (keys_of (consumer_rows word flags))
unfolding consumer_rows IsDistinct
consumers_apart word flags = at (word == 0)
  where
    at : (b : Bool) → IsDistinct same (keys_of (if b then map (consumer_row flags) consumers else []))
    at true = IsDistinct-from_sorted row_cmp (keys_of (map (consumer_row flags) consumers)) (sorted_by (keys_of (map (consumer_row flags) consumers)) refl)
    at false = tt

optional_apart : (o : Option Keyed) → IsDistinct same (keys_of (option_to_list o))
unfolding IsDistinct
optional_apart None = tt
optional_apart (Some row) = (tt, tt)

reading_apart : (setting : Setting) (table : Table) (readings : List Reading) (reading : Reading) → IsDistinct same (keys_of (rows_of setting table readings reading))
unfolding IsDistinct
reading_apart setting table readings (found.Slot row seen) = optional_apart (slot_row setting table readings row seen)
reading_apart setting SetupInstruments readings (found.Word word version flags) = optional_apart (class_row setting word flags)
reading_apart setting SetupConsumers readings (found.Word word version flags) = consumers_apart word flags
reading_apart setting SetupActors readings (found.Word word version flags) = tt
reading_apart setting SetupObjects readings (found.Word word version flags) = tt
reading_apart setting Threads readings (found.Word word version flags) = tt
reading_apart setting Accounts readings (found.Word word version flags) = tt
reading_apart setting Users readings (found.Word word version flags) = tt
reading_apart setting Hosts readings (found.Word word version flags) = tt
reading_apart setting (Events kind which) readings (found.Word word version flags) = tt
reading_apart setting (Summary kind which) readings (found.Word word version flags) = tt
reading_apart setting DigestSummary readings (found.Word word version flags) = tt

-- ---- all readings

abbrev Differ : List Target → Type 0
Differ targets = AllPairs (λ (a b : Target). a ≢ b) targets

module _ (setting : Setting) (table : Table) (readings : List Reading) where
  -- the keys of the later readings' rows are apart from those of another target
  others : (a : Target) (x : RowKey) → IsKeyOf table a x → (xs : List Reading) → AllByRecursion (λ b. a ≢ b) (map target_of xs)
      → AllByRecursion (λ y. same x y ≡ false) (keys_of (flat_map (rows_of setting table readings) xs))
  others a x is [] differ = tt
  others a x is (reading ∷ xs) differ =
      let here = rows_of setting table readings reading in
      let rest = flat_map (rows_of setting table readings) xs in
      subst (AllByRecursion (λ y. same x y ≡ false)) (sym (map-append (λ (e : Keyed). e.0) here rest))
      (both (λ y. same x y ≡ false) (keys_of here) (keys_of rest)
      (weaker (IsKeyOf table (target_of reading)) (λ y. same x y ≡ false) (λ y of_b. apart table a (target_of reading) x y is of_b differ.0) (keys_of here) (reading_keys setting table readings reading))
      (others a x is xs differ.1))

  later : (t : Target) (ts : List Target) → Differ (t ∷ ts) → AllByRecursion (λ b. t ≢ b) ts
  later t ts differ = recursion_from_All (λ b. t ≢ b) ts (λ k d low. differ 0 (suc k) d (omega arith) (omega arith))

  fewer : (t : Target) (ts : List Target) → Differ (t ∷ ts) → Differ ts
  fewer t ts differ = λ i j d low high. differ (suc i) (suc j) d (omega arith) (omega arith)

  keys_apart : (xs : List Reading) → Differ (map target_of xs) → IsDistinct same (keys_of (flat_map (rows_of setting table readings) xs))
  unfolding IsDistinct
  keys_apart [] differ = tt
  keys_apart (reading ∷ xs) differ =
      let here = rows_of setting table readings reading in
      let rest = flat_map (rows_of setting table readings) xs in
      let a = target_of reading in
      subst (IsDistinct same) (sym (map-append (λ (e : Keyed). e.0) here rest))
      (apart_both same (keys_of here) (keys_of rest) (reading_apart setting table readings reading) (keys_apart xs (fewer a (map target_of xs) differ))
      (weaker (IsKeyOf table a) (λ x. AllByRecursion (λ y. same x y ≡ false) (keys_of rest)) (λ x is. others a x is xs (later a (map target_of xs) differ)) (keys_of here) (reading_keys setting table readings reading)))

pub kept : (setting : Setting) (table : Table) (readings : List Reading) → Differ (map target_of readings) → IsPermutation (given_rows setting table readings) (sorted_rows setting table readings)
kept setting table readings differ = each_put row_cmp_total (given_rows setting table readings) (keys_apart setting table readings readings differ)

pub of_read_set : (setting : Setting) (table : Table) (readings : List Reading) → IsReadSet (scope_of setting) table readings
    → IsPermutation (given_rows setting table readings) (sorted_rows setting table readings)
of_read_set setting table readings is = kept setting table readings (subst Differ (sym is) (once (scope_of setting) table readings))
