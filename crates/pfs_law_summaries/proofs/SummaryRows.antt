-- The rows of a summary are those of the keys and classes by which something was counted.
use Rattle.std.proofs.Common.{◌≡◌, ℕ, ◌<◌, nat_lt, ◌==◌, ◌&&◌, Bool, true, false, cond, List, [], ◌∷◌, ◌++◌, map, filter, Option, Some, None, refl, sym, ap, subst, ◌∙◌, arith}
use Rattle.std.specs.Prelude.{◌≢◌, ◌↔◌, ◌||◌, not, if◌then◌else◌, length, All, Contains, unwrap_or}
use Rattle.std.specs.List.{AllByRecursion, AllPairs}
use Rattle.std.specs.List.Sorted.{IsStrictlySortedBy}
use Rattle.std.specs.Map.{keys_of}
use Rattle.std.specs.Cmp.Lexicographic.{slice_cmp}
use Rattle.std.specs.Option.{option_map}
use Rattle.std.specs.Ordering.{nat_cmp, ordering_reverse, ordering_then}
use Rattle.std.specs.declared.cmp.Ordering.{Ordering}
use Rattle.std.specs.declared.cmp.Ordering.TheVariants.{Less, Equal, Greater}
use Rattle.std.proofs.lemmas.List.Elements.{All-nil, All-cons, All-map, All-contains}
use Rattle.std.proofs.lemmas.List.Kept.{AllPairs-cons}
use Rattle.pfs_classes.specs.Registry.{class_at, text_of}
use Rattle.pfs_classes.specs.declared.setting.Setting.{Setting}
use Rattle.pfs_conservation.specs.KindSummaries.{Key, KeyThread, KeyAccount, KeyUser, KeyHost, KeyAll}
use Rattle.pfs_containers.specs.Connections.{State}
use Rattle.pfs_containers.specs.declared.infos.AccountInfo.{AccountInfo}
use Rattle.pfs_containers.specs.declared.infos.NameInfo.{NameInfo}
use Rattle.pfs_containers.specs.declared.infos.ThreadInfo.{ThreadInfo}
use Rattle.pfs_finals.specs.Finals.{count_place, is_zero_at, is_shown}
use Rattle.pfs_readsets.specs.TablePlaces.{is_class_of}
use Rattle.pfs_rows.specs.declared.table.SummaryTable.{SummaryTable}
use Rattle.pfs_rows.specs.declared.table.SummaryTable.TheVariants.{ByThread, ByAccount, ByUser, ByHost, Global}
use Rattle.pfs_rows.specs.declared.table.Table.TheVariants.{Summary}
use Rattle.pfs_rows.specs.declared.table.TableKind.{TableKind}
use Rattle.pfs_stat.specs.declared.Stat.{Stat}
use Rattle.pfs_summaries.proofs.RowKeys.{row_cmp_total}
use Rattle.pfs_summaries.specs.FoundContents.{thread_at, account_at, user_at, host_at}
use Rattle.pfs_summaries.specs.Heads.{account_head, user_head, host_head, head_of, places_of, heading_of, row_cmp}
use Rattle.pfs_summaries.specs.RowValues.{times_of, sums_of, values_of, count_of}
use Rattle.pfs_summaries.specs.Summaries.{class_text, numbers_of, is_skipped, is_listed, key_at as row_key, row_values, ordered_rows, IsGiven}
use Rattle.pfs_summaries.specs.declared.heads.Head.{Head}
use Rattle.pfs_summaries.specs.declared.heads.RowKey.{RowKey}
use Rattle.pfs_summaries.specs.declared.numbers.Numbers.{Numbers}
use Rattle.pfs_summaries.specs.declared.numbers.Numbers.TheVariants.{Times, Statements, Transactions}
use Rattle.pfs_summaries.specs.declared.tallies.Tally.{Tally}
use Rattle.pfs_text.specs.declared.values.RowValue.{RowValue}
use Rattle.pfs_text.specs.declared.values.RowValue.TheVariants.{Number, Text}
use Rattle.pfs_law_summaries.specs.SummaryKeys.{is_key_of, heading_of_key}
use Rattle.pfs_law_summaries.specs.SummaryRows.{class_numbers, summary_row, HasRow, AreSummed, StandsBefore, ordered, order_of}
use Rattle.pfs_law_summaries.proofs.MergedRows.{key_at, table_of}
use Rattle.pfs_law_summaries.proofs.ListMembers.{first, later, contains_map, map_contains, contains_filter, filter_contains, each_contained, filter_mapped, map_agrees, map_map}

abbrev Keyed : Type 0
Keyed = RowKey × List RowValue

-- ---- a row shows how much it has counted

pub count_first : (numbers : Numbers) → (rest : List RowValue) × (values_of numbers ≡ Number (count_of numbers) ∷ rest)
unfolding values_of times_of sums_of
count_first (Times stat) = (_, refl)
count_first (Statements stat) = (_, refl)
count_first (Transactions read_write read_only) = (_, refl)

zero_shown : (which : SummaryTable) (head : Head) (name : List ℕ) (numbers : Numbers) → is_zero_at (heading_of which head ++ Text name ∷ [] ++ values_of numbers) (count_place which) ≡ (count_of numbers == 0)
zero_shown which head name numbers = at (count_first numbers) where
  at : (rest : List RowValue) × (values_of numbers ≡ Number (count_of numbers) ∷ rest) → is_zero_at (heading_of which head ++ Text name ∷ [] ++ values_of numbers) (count_place which) ≡ (count_of numbers == 0)
  at f = ap (λ (l : List RowValue). is_zero_at (heading_of which head ++ Text name ∷ [] ++ l) (count_place which)) f.1 ∙ by which where
    by : (which : SummaryTable) → is_zero_at (heading_of which head ++ Text name ∷ [] ++ Number (count_of numbers) ∷ f.0) (count_place which) ≡ (count_of numbers == 0)
    by ByThread = refl
    by ByAccount = refl
    by ByUser = refl
    by ByHost = refl
    by Global = refl

values_are : (setting : Setting) (kind : TableKind) (which : SummaryTable) (head : Head) (tally : ℕ → Tally) (id : ℕ)
    → row_values setting kind which head tally id ≡ heading_of which head ++ Text (class_text setting.names (class_at setting.classes id)) ∷ [] ++ values_of (numbers_of kind tally id)
unfolding row_values
values_are setting kind which head tally id = refl

-- ---- in order, each once

never_less : (a : RowKey) → row_cmp a a ≡ Less → ⊥
never_less a h = let e : row_cmp a a ≡ ordering_reverse (row_cmp a a) = row_cmp_total.antisymm a a in absurd (let w : Less ≡ Greater = sym h ∙ (e ∙ ap ordering_reverse h) in cc)

sorted_filter : (p : Keyed → Bool) (rows : List Keyed) → IsStrictlySortedBy row_cmp (keys_of rows) → IsStrictlySortedBy row_cmp (keys_of (filter p rows))
unfolding IsStrictlySortedBy
sorted_filter p [] h = tt
sorted_filter p (row ∷ rows) h = at (p row) refl (sorted_filter p rows h.1) where
  less : (rows : List Keyed) → AllByRecursion (λ y. row_cmp row.0 y ≡ Less) (keys_of rows) → AllByRecursion (λ y. row_cmp row.0 y ≡ Less) (keys_of (filter p rows))
  less [] g = tt
  less (other ∷ rows) g = on (p other) refl (less rows g.1) where
    on : (b : Bool) → p other ≡ b → AllByRecursion (λ y. row_cmp row.0 y ≡ Less) (keys_of (filter p rows)) → AllByRecursion (λ y. row_cmp row.0 y ≡ Less) (keys_of (filter p (other ∷ rows)))
    on true e r = subst (λ l. AllByRecursion (λ y. row_cmp row.0 y ≡ Less) (keys_of l)) (sym (ap (λ b. cond b (other ∷ filter p rows) (filter p rows)) e)) (g.0, r)
    on false e r = subst (λ l. AllByRecursion (λ y. row_cmp row.0 y ≡ Less) (keys_of l)) (sym (ap (λ b. cond b (other ∷ filter p rows) (filter p rows)) e)) r

  at : (b : Bool) → p row ≡ b → IsStrictlySortedBy row_cmp (keys_of (filter p rows)) → IsStrictlySortedBy row_cmp (keys_of (filter p (row ∷ rows)))
  at true e r = subst (λ l. IsStrictlySortedBy row_cmp (keys_of l)) (sym (ap (λ b. cond b (row ∷ filter p rows) (filter p rows)) e)) (less rows h.0, r)
  at false e r = subst (λ l. IsStrictlySortedBy row_cmp (keys_of l)) (sym (ap (λ b. cond b (row ∷ filter p rows) (filter p rows)) e)) r

-- elements that differ by their keys
keys_each : (P : RowKey → Type 0) (rows : List Keyed) → AllByRecursion P (keys_of rows) → All (λ (r : Keyed). P r.0) rows
keys_each P [] h = All-nil (λ (r : Keyed). P r.0)
keys_each P (row ∷ rows) h = All-cons (λ (r : Keyed). P r.0) row rows h.0 (keys_each P rows h.1)

-- pairs of what the rows are mapped to
pairs_mapped : {Y : Type 0} (R : Y → Y → Type 0) (f : Keyed → Y) (rows : List Keyed) → IsStrictlySortedBy row_cmp (keys_of rows) → ((a b : Keyed) → Contains rows a → Contains rows b → row_cmp a.0 b.0 ≡ Less → R (f a) (f b)) → AllPairs R (map f rows)
unfolding IsStrictlySortedBy
pairs_mapped {Y} R f [] h each = λ i j d l m. absurd (omega (arith, l, m))
pairs_mapped {Y} R f (row ∷ rows) h each =
    AllPairs-cons R (f row) (map f rows)
    (All-map (λ (y : Y). R (f row) y) f rows (each_contained (λ (r : Keyed). R (f row) (f r)) rows (λ r c. each row r (first row rows) (later row rows r c) (All-contains (λ (r : Keyed). row_cmp row.0 r.0 ≡ Less) rows r (keys_each (λ y. row_cmp row.0 y ≡ Less) rows h.0) c))))
    (pairs_mapped R f rows h.1 (λ a b c d e. each a b (later row rows a c) (later row rows b d) e))

-- ---- where a row stands, by its key

ordered_same : (a b : ℕ) (c d e f : List ℕ) (id : ℕ) → a ≡ b → c ≡ d → e ≡ f → ordered a c e id ≡ ordered b d f id
ordered_same a b c d e f id p q r = ap (λ n. ordered n c e id) p ∙ (ap (λ (l : List ℕ). ordered b l e id) q ∙ ap (λ (l : List ℕ). ordered b d l id) r)

number_is : (a b : ℕ) (xs ys : List RowValue) → Number a ∷ xs ≡ Number b ∷ ys → a ≡ b
number_is a b xs ys e = cc

text_is : (a b : List ℕ) (xs ys : List RowValue) → Text a ∷ xs ≡ Text b ∷ ys → (a ≡ b) × (xs ≡ ys)
text_is a b xs ys e = (cc, cc)

-- what a head has besides what its rows begin with
IsHeaded : SummaryTable → Head → Type 0
IsHeaded ByThread head = (head.user ≡ []) × (head.host ≡ [])
IsHeaded ByAccount head = head.thread_id ≡ 0
IsHeaded ByUser head = (head.thread_id ≡ 0) × (head.host ≡ [])
IsHeaded ByHost head = (head.thread_id ≡ 0) × (head.user ≡ [])
IsHeaded Global head = (head.thread_id ≡ 0) × (head.user ≡ []) × (head.host ≡ [])

headed : (which : SummaryTable) (names : List (List ℕ)) (infos : List (Option (List ℕ))) (place : ℕ) (head : Head) → head_of which names infos place ≡ Some head → IsHeaded which head
unfolding IsHeaded
headed ByThread names infos place head e = at (thread_at infos place) e where
  at : (o : Option ThreadInfo) → option_map (λ (info : ThreadInfo). record { thread_id = info.session; user = []; host = []; stands = true }) o ≡ Some head → (head.user ≡ []) × (head.host ≡ [])
  at None e = absurd (cc)
  at (Some info) e = let s : record { thread_id = info.session; user = []; host = []; stands = true } ≡ head = cc in subst (λ (h : Head). (h.user ≡ []) × (h.host ≡ [])) s (refl, refl)
headed ByAccount names infos place head e = at (account_at infos place) e where
  at : (o : Option AccountInfo) → account_head names o ≡ Some head → head.thread_id ≡ 0
  at None e = absurd (cc)
  at (Some info) e = on (nat_lt info.user_name (length names) && nat_lt info.host_name (length names)) e where
    on : (b : Bool) → (if b then Some (record { thread_id = 0; user = text_of names info.user_name; host = text_of names info.host_name; stands = not (info.current == 0) }) else None) ≡ Some head → head.thread_id ≡ 0
    on true e = let s : record { thread_id = 0; user = text_of names info.user_name; host = text_of names info.host_name; stands = not (info.current == 0) } ≡ head = cc in subst (λ (h : Head). h.thread_id ≡ 0) s refl
    on false e = absurd (cc)
headed ByUser names infos place head e = at (user_at infos place) e where
  at : (o : Option NameInfo) → user_head names o ≡ Some head → (head.thread_id ≡ 0) × (head.host ≡ [])
  at None e = absurd (cc)
  at (Some info) e = on (nat_lt info.name (length names)) e where
    on : (b : Bool) → (if b then Some (record { thread_id = 0; user = text_of names info.name; host = []; stands = not (info.current == 0) }) else None) ≡ Some head → (head.thread_id ≡ 0) × (head.host ≡ [])
    on true e = let s : record { thread_id = 0; user = text_of names info.name; host = []; stands = not (info.current == 0) } ≡ head = cc in subst (λ (h : Head). (h.thread_id ≡ 0) × (h.host ≡ [])) s (refl, refl)
    on false e = absurd (cc)
headed ByHost names infos place head e = at (host_at infos place) e where
  at : (o : Option NameInfo) → host_head names o ≡ Some head → (head.thread_id ≡ 0) × (head.user ≡ [])
  at None e = absurd (cc)
  at (Some info) e = on (nat_lt info.name (length names)) e where
    on : (b : Bool) → (if b then Some (record { thread_id = 0; user = []; host = text_of names info.name; stands = not (info.current == 0) }) else None) ≡ Some head → (head.thread_id ≡ 0) × (head.user ≡ [])
    on true e = let s : record { thread_id = 0; user = []; host = text_of names info.name; stands = not (info.current == 0) } ≡ head = cc in subst (λ (h : Head). (h.thread_id ≡ 0) × (h.user ≡ [])) s (refl, refl)
    on false e = absurd (cc)
headed Global names infos place head e =
    let s : record { thread_id = 0; user = []; host = []; stands = true } ≡ head = cc in subst (λ (h : Head). (h.thread_id ≡ 0) × (h.user ≡ []) × (h.host ≡ [])) s (refl, refl, refl)

head_order : (which : SummaryTable) (names : List (List ℕ)) (head : Head) (key : Key) (id : ℕ) → is_key_of which key ≡ true → IsHeaded which head → heading_of which head ≡ heading_of_key names key
    → ordered head.thread_id head.user head.host id ≡ order_of names key id
unfolding IsHeaded
head_order ByThread names head (KeyThread session slot) id k i h = ordered_same head.thread_id session head.user [] head.host [] id (number_is head.thread_id session [] [] h) i.0 i.1
head_order ByAccount names head (KeyAccount user host) id k i h =
    ordered_same head.thread_id 0 head.user (text_of names user) head.host (text_of names host) id i (text_is head.user (text_of names user) (Text head.host ∷ []) (Text (text_of names host) ∷ []) h).0
    (text_is head.host (text_of names host) [] [] (text_is head.user (text_of names user) (Text head.host ∷ []) (Text (text_of names host) ∷ []) h).1).0
head_order ByUser names head (KeyUser user) id k i h = ordered_same head.thread_id 0 head.user (text_of names user) head.host [] id i.0 (text_is head.user (text_of names user) [] [] h).0 i.1
head_order ByHost names head (KeyHost host) id k i h = ordered_same head.thread_id 0 head.user [] head.host (text_of names host) id i.0 i.1 (text_is head.host (text_of names host) [] [] h).0
head_order Global names head KeyAll id k i h = ordered_same head.thread_id 0 head.user [] head.host [] id i.0 i.1 i.2
head_order which names head key id k i h = absurd (cc)

-- whatever their places
not_after : (a b c d p : Ordering) → ordering_then a (ordering_then b (ordering_then c (ordering_then d p))) ≡ Less → ordering_then a (ordering_then b (ordering_then c (ordering_then d Equal))) ≢ Greater
not_after Greater b c d p e g = absurd (cc)
not_after Less b c d p e g = absurd (cc)
not_after Equal Greater c d p e g = absurd (cc)
not_after Equal Less c d p e g = absurd (cc)
not_after Equal Equal Greater d p e g = absurd (cc)
not_after Equal Equal Less d p e g = absurd (cc)
not_after Equal Equal Equal Greater p e g = absurd (cc)
not_after Equal Equal Equal Less p e g = absurd (cc)
not_after Equal Equal Equal Equal p e g = absurd (cc)

-- ---- which rows stand

module _ (setting : Setting) (kind : TableKind) (which : SummaryTable) (IsKey : Key → Type 0) (counts : Key → ℕ → Stat) (s : State) (infos : List (Option (List ℕ))) (tally : ℕ → ℕ → Tally) where
  -- what is known of the places: what their rows begin with, what their cells counted, and whose they are
  pub record ArePlaced : Type 0 where
    pub head : (place : ℕ) → place < places_of which → (key : Key) → key_at which s place ≡ Some key
        → (head : Head) × (head_of which setting.names infos place ≡ Some head) × (heading_of which head ≡ heading_of_key setting.names key)
    pub none : (place : ℕ) → place < places_of which → key_at which s place ≡ None → head_of which setting.names infos place ≡ None
    pub numbers : (place : ℕ) → place < places_of which → (key : Key) → key_at which s place ≡ Some key → (id : ℕ) → is_class_of kind (class_at setting.classes id) ≡ true
        → numbers_of kind (tally place) id ≡ class_numbers kind (counts key) id
    pub idle : (place : ℕ) → place < places_of which → (id : ℕ) → is_skipped kind (tally place) id ≡ false
    pub stands : (key : Key) (id : ℕ) → HasRow setting kind which IsKey counts (key, id) → (place : ℕ) × (place < places_of which) × (key_at which s place ≡ Some key)
    pub apart : (p q : ℕ) (key : Key) → p < places_of which → q < places_of which → key_at which s p ≡ Some key → key_at which s q ≡ Some key → p ≡ q
    pub keys : (place : ℕ) (key : Key) → key_at which s place ≡ Some key → IsKey key
    pub few : (id : ℕ) → is_class_of kind (class_at setting.classes id) ≡ true → id < 63

  module _ (placed : ArePlaced) (given : (row : Keyed) → Contains (ordered_rows setting kind which infos tally) row ↔ IsGiven setting kind which infos tally row) (sorted : IsStrictlySortedBy row_cmp (keys_of (ordered_rows setting kind which infos tally))) where
    abbrev all : List Keyed
    all = ordered_rows setting kind which infos tally

    -- a row's key and class, by its place in the order
    abbrev key_of : Keyed → Key × ℕ
    key_of row = (unwrap_or (key_at which s row.0.place) KeyAll, row.0.class)

    abbrev shows : Keyed → Bool
    shows row = is_shown (Summary kind which) row.1

    -- what is known of a row that the readings give
    record IsOf (row : Keyed) : Type 0 where
      key : Key
      placed_at : key_at which s row.0.place ≡ Some key
      in_places : row.0.place < places_of which
      class : is_class_of kind (class_at setting.classes row.0.class) ≡ true
      is : row.1 ≡ summary_row setting kind counts (key, row.0.class)
      order : ordered row.0.thread_id row.0.user row.0.host row.0.class ≡ order_of setting.names key row.0.class
      shown : shows row ≡ not (count_of (class_numbers kind (counts key) row.0.class) == 0)

    and_first : (a b : Bool) → (a && b) ≡ true → a ≡ true
    and_first true b h = refl
    and_first false b h = h

    of_given : (row : Keyed) → IsGiven setting kind which infos tally row → IsOf row
    of_given row g = at (key_at which s g.place) refl where
      place_is : row.0.place ≡ g.place
      place_is = ap (λ (r : Keyed). r.0.place) g.is

      class_is : row.0.class ≡ g.id
      class_is = ap (λ (r : Keyed). r.0.class) g.is

      of_kind : is_class_of kind (class_at setting.classes g.id) ≡ true
      of_kind = and_first (is_class_of kind (class_at setting.classes g.id)) _ (and_first (is_class_of kind (class_at setting.classes g.id) && not (is_skipped kind (tally g.place) g.id)) _ g.listed)

      at : (o : Option Key) → key_at which s g.place ≡ o → IsOf row
      at None q = absurd (let w : ◌≡◌ {A = Option Head} None (Some g.head) = sym (placed.none g.place g.in_places q) ∙ g.opened in cc)
      at (Some key) q = by (placed.head g.place g.in_places key q) where
        same : numbers_of kind (tally g.place) g.id ≡ class_numbers kind (counts key) g.id
        same = placed.numbers g.place g.in_places key q g.id of_kind

        by : (head : Head) × (head_of which setting.names infos g.place ≡ Some head) × (heading_of which head ≡ heading_of_key setting.names key) → IsOf row
        by h = record {
          key = key;
          placed_at = ap (key_at which s) place_is ∙ q;
          in_places = subst (λ p. p < places_of which) (sym place_is) g.in_places;
          class = ap (λ id. is_class_of kind (class_at setting.classes id)) class_is ∙ of_kind;
          is = row_is ∙ ap (λ id. summary_row setting kind counts (key, id)) (sym class_is);
          order = ap (λ (k : RowKey). ordered k.thread_id k.user k.host k.class) (ap (λ (r : Keyed). r.0) g.is)
              ∙ (head_order which setting.names g.head key g.id (table_of s which g.place key q) (headed which setting.names infos g.place g.head g.opened) heading ∙ ap (order_of setting.names key) (sym class_is));
          shown = ap (is_shown (Summary kind which)) long ∙ (ap not (zero_shown which g.head (class_text setting.names (class_at setting.classes g.id)) (numbers_of kind (tally g.place) g.id))
              ∙ (ap (λ (n : Numbers). not (count_of n == 0)) same ∙ ap (λ id. not (count_of (class_numbers kind (counts key) id) == 0)) (sym class_is)));
        } where
          some_head : (a b : Head) → ◌≡◌ {A = Option Head} (Some a) (Some b) → a ≡ b
          some_head a b h = cc

          heading : heading_of which g.head ≡ heading_of_key setting.names key
          heading = ap (heading_of which) (some_head g.head h.0 (sym g.opened ∙ h.1)) ∙ h.2

          long : row.1 ≡ heading_of which g.head ++ Text (class_text setting.names (class_at setting.classes g.id)) ∷ [] ++ values_of (numbers_of kind (tally g.place) g.id)
          long = ap (λ (r : Keyed). r.1) g.is ∙ values_are setting kind which g.head (tally g.place) g.id

          row_is : row.1 ≡ summary_row setting kind counts (key, g.id)
          row_is =
              long
              ∙ (ap (λ (l : List RowValue). l ++ Text (class_text setting.names (class_at setting.classes g.id)) ∷ [] ++ values_of (numbers_of kind (tally g.place) g.id)) heading
              ∙ ap (λ (n : Numbers). heading_of_key setting.names key ++ Text (class_text setting.names (class_at setting.classes g.id)) ∷ [] ++ values_of n) same)

    of_row : (row : Keyed) → Contains all row → IsOf row
    of_row row c = of_given row ((given row).0 c)

    key_is : (row : Keyed) → (o : IsOf row) → key_of row ≡ (o.key, row.0.class)
    key_is row o = ap (λ (k : Option Key). (unwrap_or k KeyAll, row.0.class)) o.placed_at

    not_true : (b : Bool) → not b ≡ true → b ≡ false
    not_true false h = refl
    not_true true h = absurd (cc)

    abbrev shown_keys : List (Key × ℕ)
    shown_keys = map key_of (filter shows all)

    rows_same : filter (is_shown (Summary kind which)) (map (λ (r : Keyed). r.1) all) ≡ map (summary_row setting kind counts) shown_keys
    rows_same =
        filter_mapped (is_shown (Summary kind which)) (λ (r : Keyed). r.1) all
        ∙ (map_agrees (λ (r : Keyed). r.1) (λ (r : Keyed). summary_row setting kind counts (key_of r)) (filter shows all)
        (each_contained (λ (r : Keyed). r.1 ≡ summary_row setting kind counts (key_of r)) (filter shows all) (λ r c. one r (filter_contains shows all r c).0))
        ∙ sym (map_map key_of (summary_row setting kind counts) (filter shows all))) where
          one : (r : Keyed) → Contains all r → r.1 ≡ summary_row setting kind counts (key_of r)
          one r c = (of_row r c).is ∙ ap (summary_row setting kind counts) (sym (key_is r (of_row r c)))

    has_row : (row : Key × ℕ) → Contains shown_keys row → HasRow setting kind which IsKey counts row
    has_row row c = at (map_contains key_of (filter shows all) row c) where
      at : (r : Keyed) × Contains (filter shows all) r × (key_of r ≡ row) → HasRow setting kind which IsKey counts row
      at m = by (filter_contains shows all m.0 m.1) where
        by : Contains all m.0 × (shows m.0 ≡ true) → HasRow setting kind which IsKey counts row
        by f = on (of_row m.0 f.0) where
          on : IsOf m.0 → HasRow setting kind which IsKey counts row
          on o =
              subst (HasRow setting kind which IsKey counts) (sym (key_is m.0 o) ∙ m.2) (record {
                of_table = table_of s which m.0.0.place o.key o.placed_at;
                key = placed.keys m.0.0.place o.key o.placed_at;
                class = o.class;
                some = not_true (count_of (class_numbers kind (counts o.key) m.0.0.class) == 0) (sym o.shown ∙ f.1);
              })

    some_key : (a b : Key) → ◌≡◌ {A = Option Key} (Some a) (Some b) → a ≡ b
    some_key a b h = cc

    stands_there : (row : Key × ℕ) → HasRow setting kind which IsKey counts row → Contains shown_keys row
    stands_there row h = at (placed.stands row.0 row.1 h) where
      at : (place : ℕ) × (place < places_of which) × (key_at which s place ≡ Some row.0) → Contains shown_keys row
      at p = by (placed.head p.0 p.1 row.0 p.2) where
        by : (head : Head) × (head_of which setting.names infos p.0 ≡ Some head) × (heading_of which head ≡ heading_of_key setting.names row.0) → Contains shown_keys row
        by hd = subst (Contains shown_keys) key_same (contains_map key_of (filter shows all) r (contains_filter shows all r ((given r).1 g) shown)) where
          r : Keyed
          r = (row_key hd.0 p.0 row.1, row_values setting kind which hd.0 (tally p.0) row.1)

          listed : is_listed setting kind hd.0 (tally p.0) row.1 ≡ true
          listed =
              three (is_class_of kind (class_at setting.classes row.1)) (is_skipped kind (tally p.0) row.1) hd.0.stands (count_of (numbers_of kind (tally p.0) row.1) == 0) h.class (placed.idle p.0 p.1 row.1)
              (ap (λ (n : Numbers). count_of n == 0) (placed.numbers p.0 p.1 row.0 p.2 row.1 h.class) ∙ h.some) where
                three : (a b c d : Bool) → a ≡ true → b ≡ false → d ≡ false → (a && not b && (c || not d)) ≡ true
                three true false true false p q r = refl
                three true false false false p q r = refl
                three false b c d p q r = absurd (cc)
                three a true c d p q r = absurd (cc)
                three a b c true p q r = absurd (cc)

          g : IsGiven setting kind which infos tally r
          g = record {
            place = p.0;
            id = row.1;
            head = hd.0;
            in_places = p.1;
            in_classes = placed.few row.1 h.class;
            opened = hd.1;
            listed = listed;
            is = refl;
          }

          o : IsOf r
          o = of_given r g

          same : o.key ≡ row.0
          same = some_key o.key row.0 (sym o.placed_at ∙ p.2)

          shown : shows r ≡ true
          shown = o.shown ∙ (ap (λ k. not (count_of (class_numbers kind (counts k) row.1) == 0)) same ∙ ap not h.some)

          key_same : key_of r ≡ row
          key_same = key_is r o ∙ ap (λ k. (k, row.1)) same

    one_place : (a b : Keyed) → Contains all a → Contains all b → key_of a ≡ key_of b → a.0 ≡ b.0
    one_place a b c d e = on ((given a).0 c) ((given b).0 d) where
      on : IsGiven setting kind which infos tally a → IsGiven setting kind which infos tally b → a.0 ≡ b.0
      on g h = by (of_given a g) (of_given b h) where
        by : IsOf a → IsOf b → a.0 ≡ b.0
        by o w = ap (λ (r : Keyed). r.0) g.is ∙ (whole ∙ sym (ap (λ (r : Keyed). r.0) h.is)) where
          pair : ◌≡◌ {A = Key × ℕ} (o.key, a.0.class) (w.key, b.0.class)
          pair = sym (key_is a o) ∙ (e ∙ key_is b w)

          places : a.0.place ≡ b.0.place
          places = placed.apart a.0.place b.0.place w.key o.in_places w.in_places (o.placed_at ∙ ap (λ (p : Key × ℕ). Some p.0) pair) w.placed_at

          whole : row_key g.head g.place g.id ≡ row_key h.head h.place h.id
          whole =
              ap (λ (x : Head × ℕ × ℕ). row_key x.0 x.1 x.2) (pairs g.head h.head g.place h.place g.id h.id heads place_same id_same)
            where
              place_same : g.place ≡ h.place
              place_same = sym (ap (λ (r : Keyed). r.0.place) g.is) ∙ (places ∙ ap (λ (r : Keyed). r.0.place) h.is)

              id_same : g.id ≡ h.id
              id_same = sym (ap (λ (r : Keyed). r.0.class) g.is) ∙ (ap (λ (p : Key × ℕ). p.1) pair ∙ ap (λ (r : Keyed). r.0.class) h.is)

              some_head : (a b : Head) → ◌≡◌ {A = Option Head} (Some a) (Some b) → a ≡ b
              some_head a b h = cc

              heads : g.head ≡ h.head
              heads = some_head g.head h.head (sym g.opened ∙ (ap (head_of which setting.names infos) place_same ∙ h.opened))

              pairs : (a b : Head) (c d e f : ℕ) → a ≡ b → c ≡ d → e ≡ f → ◌≡◌ {A = Head × ℕ × ℕ} (a, c, e) (b, d, f)
              pairs a b c d e f p q r = cc

    stands_before : (a b : Keyed) → Contains all a → Contains all b → row_cmp a.0 b.0 ≡ Less → StandsBefore setting.names (key_of a) (key_of b)
    stands_before a b c d e =
        subst (λ (k : RowKey). row_cmp k (order_of setting.names (key_of b).0 (key_of b).1) ≢ Greater) (sym (order_is a c))
        (subst (λ (k : RowKey). row_cmp (ordered a.0.thread_id a.0.user a.0.host a.0.class) k ≢ Greater) (sym (order_is b d))
        (not_after (nat_cmp a.0.thread_id b.0.thread_id) (slice_cmp nat_cmp a.0.user b.0.user) (slice_cmp nat_cmp a.0.host b.0.host) (nat_cmp a.0.class b.0.class) (nat_cmp a.0.place b.0.place) e)) where
          order_is : (row : Keyed) → Contains all row → order_of setting.names (key_of row).0 (key_of row).1 ≡ ordered row.0.thread_id row.0.user row.0.host row.0.class
          order_is row c = ap (λ (p : Key × ℕ). order_of setting.names p.0 p.1) (key_is row (of_row row c)) ∙ sym (of_row row c).order

    -- a row for each key and class by which something was counted
    pub summed : AreSummed setting kind which IsKey counts (filter (is_shown (Summary kind which)) (map (λ (r : Keyed). r.1) all))
    summed = record {
      keys = shown_keys;
      rows_are = rows_same;
      just = λ row. (has_row row, stands_there row);
      once = pairs_mapped (λ (a b : Key × ℕ). a ≢ b) key_of (filter shows all) (sorted_filter shows all sorted)
          (λ a b c d e same. never_less b.0 (subst (λ k. row_cmp k b.0 ≡ Less) (one_place a b (filter_contains shows all a c).0 (filter_contains shows all b d).0 same) e));
      ascending = pairs_mapped (StandsBefore setting.names) key_of (filter shows all) (sorted_filter shows all sorted) (λ a b c d e. stands_before a b (filter_contains shows all a c).0 (filter_contains shows all b d).0 e);
    }
