-- The rows of a global summary stand by classes, so two with the same counts are the same list.
use Rattle.std.proofs.Common.{ℕ, zero, suc, ◌≡◌, ◌+◌, ◌<◌, ◌≤◌, ◌==◌, ◌⊎◌, inl, inr, true, List, [], ◌∷◌, ◌++◌, length, map, Option, Some, None, refl, ap, sym, ◌∙◌, subst, arith}
use Rattle.std.specs.Prelude.{◌≢◌, Contains, slice_get}
use Rattle.std.specs.List.{AllPairs, flat_map, range_with_len, slice_index_or}
use Rattle.std.specs.Ordering.{nat_cmp, ordering_then}
use Rattle.std.specs.declared.cmp.Ordering.{Ordering}
use Rattle.std.specs.declared.cmp.Ordering.TheVariants.{Less, Equal, Greater}
use Rattle.std.proofs.lemmas.Cmp.{ranked}
use Rattle.pfs_classes.specs.declared.setting.DigestText.{DigestText}
use Rattle.pfs_classes.specs.Registry.{class_at}
use Rattle.pfs_classes.specs.declared.setting.Setting.{Setting}
use Rattle.pfs_conservation.specs.KindSummaries.{Key, KeyAccount, KeyAll, KeyHost, KeyThread, KeyUser}
use Rattle.pfs_journal.specs.declared.report.PhaseParts.{PhaseParts}
use Rattle.pfs_journal.specs.declared.report.ReportParts.{ReportParts}
use Rattle.pfs_law_conservation.specs.RunTerms.{IsKeyOf, Run}
use Rattle.pfs_law_summaries.specs.Counts.{Past, counted_at}
use Rattle.pfs_law_summaries.specs.DigestSummary.{AreDigested, DigestedLaw, digested_at, digested_row, digested_rows, place_digested}
use Rattle.pfs_law_summaries.specs.OrderlyRuns.{run_of}
use Rattle.pfs_law_summaries.specs.PhaseSummaries.{AreCounted, past_to}
use Rattle.pfs_law_summaries.specs.ReportTables.{rows_named}
use Rattle.pfs_law_summaries.specs.SummaryKeys.{heading_of_key, is_key_of}
use Rattle.pfs_law_summaries.specs.SummaryLaws.{CountedLaw}
use Rattle.pfs_law_summaries.specs.SummaryRows.{AreSummed, HasRow, StandsBefore, class_numbers, order_of, summary_row}
use Rattle.pfs_rows.specs.Tables.{table_name}
use Rattle.pfs_rows.specs.declared.table.SummaryTable.TheVariants.{Global}
use Rattle.pfs_rows.specs.declared.table.Table.TheVariants.{DigestSummary, Summary}
use Rattle.pfs_rows.specs.declared.table.TableKind.{TableKind}
use Rattle.pfs_rows.specs.declared.table.TableKind.TheVariants.{Stages, Statements, Transactions, Waits}
use Rattle.pfs_runs.specs.Runs.{AreFinal, IsRun}
use Rattle.pfs_script.specs.declared.blocks.Phase.{Phase}
use Rattle.pfs_stat.specs.declared.Stat.{Stat}
use Rattle.pfs_summaries.specs.DigestRows.{digest_heading, null_heading}
use Rattle.pfs_summaries.specs.Heads.{row_cmp}
use Rattle.pfs_summaries.specs.RowValues.{count_of, values_of}
use Rattle.pfs_summaries.specs.Summaries.{class_text}
use Rattle.pfs_summaries.specs.declared.numbers.Numbers.{Numbers}
use Rattle.pfs_summaries.specs.declared.numbers.Numbers.TheVariants as numbers
use Rattle.pfs_text.specs.declared.values.RowValue.{RowValue}
use Rattle.pfs_text.specs.declared.values.RowValue.TheVariants as value
use Rattle.pfs_law_agreed.specs.Agreement.{ShowTheSame}
use Rattle.pfs_law_agreed.specs.SameRows.{AreSameAt, HaveSameRows, RowsLaw}

abbrev Row : Type 0
Row = Key × ℕ

-- ---- lists in order

contains_first : (x : Row) (xs : List Row) → Contains (x ∷ xs) x
contains_first x xs = (0, omega arith, refl)

contains_later : (x : Row) (xs : List Row) (y : Row) → Contains xs y → Contains (x ∷ xs) y
contains_later x xs y c = (suc c.0, (let l : c.0 < length xs = c.1 in omega (arith, l)), c.2)

none_contained : (x : Row) → Contains [] x → ⊥
none_contained x c = absurd (let l = c.1 in omega (arith, l))

which : (x : Row) (xs : List Row) (y : Row) → Contains (x ∷ xs) y → (x ≡ y) ⊎ Contains xs y
which x xs y c = by c.0 c.1 c.2 where
  by : (k : ℕ) → k < length (x ∷ xs) → slice_index_or (x ∷ xs) k y ≡ y → (x ≡ y) ⊎ Contains xs y
  by zero l e = inl e
  by (suc k) l e = inr (k, omega (arith, l), e)

pairs_head : (R : Row → Row → Type 0) (x : Row) (xs : List Row) → AllPairs R (x ∷ xs) → (y : Row) → Contains xs y → R x y
pairs_head R x xs h y c = subst (R x) c.2 (h zero (suc c.0) y (omega arith) (let l : c.0 < length xs = c.1 in omega (arith, l)))

pairs_tail : (R : Row → Row → Type 0) (x : Row) (xs : List Row) → AllPairs R (x ∷ xs) → AllPairs R xs
pairs_tail R x xs h i j d l m = h (suc i) (suc j) d (omega (arith, l)) (omega (arith, m))

module _ (P : Row → Type 0) (R : Row → Row → Type 0) (equal : (a b : Row) → P a → P b → R a b → R b a → a ≡ b) where
  -- what is known of a list
  record IsOrdered (xs : List Row) : Type 0 where
    each : (r : Row) → Contains xs r → P r
    ordered : AllPairs R xs
    once : AllPairs (λ (a b : Row). a ≢ b) xs

  tail_ordered : (x : Row) (xs : List Row) → IsOrdered (x ∷ xs) → IsOrdered xs
  tail_ordered x xs h = record { each = λ r c. h.each r (contains_later x xs r c); ordered = pairs_tail R x xs h.ordered; once = pairs_tail (λ (a b : Row). a ≢ b) x xs h.once }

  -- lists in order that contain the same
  same_lists : (xs ys : List Row) → IsOrdered xs → IsOrdered ys → ((r : Row) → Contains xs r → Contains ys r) → ((r : Row) → Contains ys r → Contains xs r) → xs ≡ ys
  same_lists [] [] a b to back = refl
  same_lists [] (y ∷ ys) a b to back = absurd (none_contained y (back y (contains_first y ys)))
  same_lists (x ∷ xs) [] a b to back = absurd (none_contained x (to x (contains_first x xs)))
  same_lists (x ∷ xs) (y ∷ ys) a b to back =
      ap (λ z. z ∷ xs) first ∙ ap (λ (z : List Row). y ∷ z) (same_lists xs ys (tail_ordered x xs a) (tail_ordered y ys b) (λ r c. forth r c) (λ r c. again r c)) where
        first : x ≡ y
        first = by (which y ys x (to x (contains_first x xs))) (which x xs y (back y (contains_first y ys))) where
          by : (y ≡ x) ⊎ Contains ys x → (x ≡ y) ⊎ Contains xs y → x ≡ y
          by (inl e) d = sym e
          by (inr c) (inl e) = e
          by (inr c) (inr d) = equal x y (a.each x (contains_first x xs)) (b.each y (contains_first y ys)) (pairs_head R x xs a.ordered y d) (pairs_head R y ys b.ordered x c)

        forth : (r : Row) → Contains xs r → Contains ys r
        forth r c = by (which y ys r (to r (contains_later x xs r c))) where
          by : (y ≡ r) ⊎ Contains ys r → Contains ys r
          by (inr d) = d
          by (inl e) = absurd (pairs_head (λ (a b : Row). a ≢ b) x xs a.once r c (first ∙ e))

        again : (r : Row) → Contains ys r → Contains xs r
        again r c = by (which x xs r (back r (contains_later y ys r c))) where
          by : (x ≡ r) ⊎ Contains xs r → Contains xs r
          by (inr d) = d
          by (inl e) = absurd (pairs_head (λ (a b : Row). a ≢ b) y ys b.once r c (sym first ∙ e))

map_same : (f g : Row → List RowValue) (xs : List Row) → ((r : Row) → Contains xs r → f r ≡ g r) → map f xs ≡ map g xs
map_same f g [] h = refl
map_same f g (x ∷ xs) h = ap (λ z. z ∷ map f xs) (h x (contains_first x xs)) ∙ ap (λ (z : List (List RowValue)). g x ∷ z) (map_same f g xs (λ r c. h r (contains_later x xs r c)))

-- ---- rows of the key of all

abbrev IsAll : Row → Type 0
IsAll row = row.0 ≡ KeyAll

class_least : (i j : ℕ) → (ordering_then (nat_cmp i j) Equal ≡ Greater → ⊥) → i ≤ j
class_least i j h = at (nat_cmp i j) refl where
  at : (o : Ordering) → o ≡ nat_cmp i j → i ≤ j
  at Less e = let l : i < j = ranked i j Less e in omega (arith, l)
  at Equal e = let l : i ≡ j = ranked i j Equal e in omega (arith, l)
  at Greater e = absurd (h (ap (λ o. ordering_then o Equal) (sym e)))

least : (names : List (List ℕ)) (a b : Row) → IsAll a → IsAll b → StandsBefore names a b → a.1 ≤ b.1
least names a b p q h = class_least a.1 b.1 (subst (λ (k : Key). row_cmp (order_of names KeyAll a.1) (order_of names k b.1) ≢ Greater) q (subst (λ (k : Key). row_cmp (order_of names k a.1) (order_of names b.0 b.1) ≢ Greater) p h))

all_equal : (names : List (List ℕ)) (a b : Row) → IsAll a → IsAll b → StandsBefore names a b → StandsBefore names b a → a ≡ b
all_equal names a b p q h k =
    let l : a.1 ≤ b.1 = least names a b p q h in
    let m : b.1 ≤ a.1 = least names b a q p k in
    let e : a.1 ≡ b.1 = omega (arith, l, m) in
    ap (λ (z : Key). (z, a.1)) (p ∙ sym q) ∙ ap (λ n. (b.0, n)) e

of_all : (key : Key) → is_key_of Global key ≡ true → key ≡ KeyAll
of_all KeyAll q = refl
of_all (KeyThread session slot) q = absurd (cc)
of_all (KeyAccount user host) q = absurd (cc)
of_all (KeyUser user) q = absurd (cc)
of_all (KeyHost host) q = absurd (cc)

module _ (setting : Setting) (kind : TableKind) (c d : Key → ℕ → Stat) (same : (cell : ℕ) → c KeyAll cell ≡ d KeyAll cell) where
  numbers_same : (id : ℕ) → class_numbers kind (c KeyAll) id ≡ class_numbers kind (d KeyAll) id
  numbers_same id = by kind where
    by : (kind : TableKind) → class_numbers kind (c KeyAll) id ≡ class_numbers kind (d KeyAll) id
    by Waits = ap (λ s. numbers.Times s) (same id)
    by Stages = ap (λ s. numbers.Times s) (same id)
    by Statements = ap (λ s. numbers.Statements s) (same id)
    by Transactions = ap (λ s. numbers.Transactions s (c KeyAll 63)) (same 62) ∙ ap (λ s. numbers.Transactions (d KeyAll 62) s) (same 63)

  numbers_at : (row : Row) → IsAll row → class_numbers kind (c row.0) row.1 ≡ class_numbers kind (d row.0) row.1
  numbers_at row e = subst (λ (k : Key). class_numbers kind (c k) row.1 ≡ class_numbers kind (d k) row.1) (sym e) (numbers_same row.1)

  has_same : (K L : Key → Type 0) → L KeyAll → (row : Row) → HasRow setting kind Global K c row → HasRow setting kind Global L d row
  has_same K L all row h = record {
    of_table = h.of_table;
    key = subst L (sym (of_all row.0 h.of_table)) all;
    class = h.class;
    some = sym (ap (λ (n : Numbers). count_of n == 0) (numbers_at row (of_all row.0 h.of_table))) ∙ h.some;
  }

rows_same : (setting : Setting) (kind : TableKind) (K L : Key → Type 0) → K KeyAll → L KeyAll → (c d : Key → ℕ → Stat) → ((cell : ℕ) → c KeyAll cell ≡ d KeyAll cell) → (rows others : List (List RowValue))
    → AreSummed setting kind Global K c rows → AreSummed setting kind Global L d others → rows ≡ others
rows_same setting kind K L k l c d same rows others s t =
    s.rows_are ∙ (ap (map (summary_row setting kind c)) keys ∙ (map_same (summary_row setting kind c) (summary_row setting kind d) t.keys (λ r m. one r (of_all r.0 ((t.just r).0 m).of_table)) ∙ sym t.rows_are)) where
      ordered_s : IsOrdered IsAll (StandsBefore setting.names) (all_equal setting.names) s.keys
      ordered_s = record { each = λ r m. of_all r.0 ((s.just r).0 m).of_table; ordered = s.ascending; once = s.once }

      ordered_t : IsOrdered IsAll (StandsBefore setting.names) (all_equal setting.names) t.keys
      ordered_t = record { each = λ r m. of_all r.0 ((t.just r).0 m).of_table; ordered = t.ascending; once = t.once }

      keys : s.keys ≡ t.keys
      keys = same_lists IsAll (StandsBefore setting.names) (all_equal setting.names) s.keys t.keys ordered_s ordered_t
          (λ r m. (t.just r).1 (has_same setting kind c d same K L l r ((s.just r).0 m))) (λ r m. (s.just r).1 (has_same setting kind d c (λ cell. sym (same cell)) L K k r ((t.just r).0 m)))

      one : (row : Row) → IsAll row → summary_row setting kind c row ≡ summary_row setting kind d row
      one row e = ap (λ (n : Numbers). heading_of_key setting.names row.0 ++ value.Text (class_text setting.names (class_at setting.classes row.1)) ∷ [] ++ values_of n) (numbers_at setting kind c d same row e)

-- ---- rows of digests

flat_same : (f g : ℕ → List (List RowValue)) → ((n : ℕ) → f n ≡ g n) → (xs : List ℕ) → flat_map f xs ≡ flat_map g xs
flat_same f g h [] = refl
flat_same f g h (x ∷ xs) = ap (λ z. z ++ flat_map f xs) (h x) ∙ ap (λ z. g x ++ z) (flat_same f g h xs)

digests_same : (setting : Setting) (a b : Past) → ((digest : Option ℕ) → digested_at a digest ≡ digested_at b digest) → digested_rows setting a ≡ digested_rows setting b
digests_same setting a b h =
    ap (λ s. digested_row null_heading s ++ flat_map (λ place. place_digested a (slice_get setting.digests place) place) (range_with_len 0 64)) (h None)
    ∙ ap (λ z. digested_row null_heading (digested_at b None) ++ z) (flat_same (λ place. place_digested a (slice_get setting.digests place) place) (λ place. place_digested b (slice_get setting.digests place) place) (λ place. by place (slice_get setting.digests place)) (range_with_len 0 64)) where
      by : (place : ℕ) (o : Option DigestText) → place_digested a o place ≡ place_digested b o place
      by place None = refl
      by place (Some digest) = ap (digested_row (digest_heading digest)) (h (Some place))

-- ---- under a phase's end of two runs

pub rows_law : CountedLaw → DigestedLaw → RowsLaw
rows_law counted digested text setting phases report other script run second number shown =
    pairs report.phases other.phases (counted text setting phases report script run) (counted text setting phases other script second) (digested text setting phases report script run) (digested text setting phases other script second) where
      a : Run
      a = run_of setting phases report run

      b : Run
      b = run_of setting phases other second

      cells : (kind : TableKind) (x y : ℕ) → x ≡ number → y ≡ number → (cell : ℕ) → counted_at (past_to a x) kind KeyAll cell ≡ counted_at (past_to b y) kind KeyAll cell
      cells kind x y e f cell = ap (λ n. counted_at (past_to a n) kind KeyAll cell) e ∙ (shown.summaries kind KeyAll KeyAll cell refl ∙ sym (ap (λ n. counted_at (past_to b n) kind KeyAll cell) f))

      texts : (x y : ℕ) → x ≡ number → y ≡ number → (digest : Option ℕ) → digested_at (past_to a x) digest ≡ digested_at (past_to b y) digest
      texts x y e f digest = ap (λ n. digested_at (past_to a n) digest) e ∙ (shown.digests digest ∙ sym (ap (λ n. digested_at (past_to b n) digest) f))

      one : (x y : PhaseParts) → AreCounted a x → AreCounted b y → AreDigested a x → AreDigested b y → x.number ≡ number → y.number ≡ number → HaveSameRows x y
      one x y p q r s e f = record {
        global = λ kind. rows_same setting kind (IsKeyOf a) (IsKeyOf b) tt tt (counted_at (past_to a x.number) kind) (counted_at (past_to b y.number) kind) (cells kind x.number y.number e f)
            (rows_named (table_name (Summary kind Global)) x.tables) (rows_named (table_name (Summary kind Global)) y.tables) (p kind Global) (q kind Global);
        digests = r ∙ (digests_same setting (past_to a x.number) (past_to b y.number) (texts x.number y.number e f) ∙ sym s);
      }

      pairs : (xs ys : List PhaseParts) → AreFinal (AreCounted a) xs → AreFinal (AreCounted b) ys → AreFinal (AreDigested a) xs → AreFinal (AreDigested b) ys → AreSameAt number xs ys
      pairs [] ys p q r s = tt
      pairs (x ∷ xs) [] p q r s = tt
      pairs (x ∷ xs) (y ∷ ys) p q r s = ((λ e f. one x y p.0 q.0 r.0 s.0 e f), pairs xs ys p.1 q.1 r.1 s.1)
