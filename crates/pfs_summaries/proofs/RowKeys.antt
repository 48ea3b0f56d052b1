-- The rows of a summary in their order: their keys ascend, and they are those that the readings give.
use Rattle.std.proofs.Common.{◌≡◌, ℕ, zero, suc, ◌+◌, ◌<◌, ◌≤◌, Bool, true, false, List, [], ◌∷◌, ◌⊎◌, inl, inr, Option, Some, None, refl, sym, subst, arith}
use Rattle.std.specs.Prelude.{◌↔◌, if◌then◌else◌, Contains, IsPermutation}
use Rattle.std.specs.List.{AllByRecursion, IsDistinct, flat_map, range_with_len}
use Rattle.std.specs.List.Sorted.{IsStrictlySortedBy}
use Rattle.std.specs.declared.cmp.Ordering.{Ordering}
use Rattle.std.specs.declared.cmp.Ordering.TheVariants.{Less, Equal, Greater}
use Rattle.std.specs.Ordering.{eq_by_cmp, is_eq, nat_cmp, ordering_then}
use Rattle.std.specs.Cmp.{IsTotalOrder, nat_cmp_total, on_total, then_total}
use Rattle.std.specs.Cmp.Lexicographic.{slice_cmp}
use Rattle.std.specs.Map.{keys_of}
use Rattle.std.proofs.lemmas.Bool.{cases_lt, false≢true}
use Rattle.std.proofs.lemmas.Cmp.{nat_list_cmp_total, ranked}
use Rattle.std.proofs.lemmas.List.Elements.{All-nil, All-cons, All-contains, Contains-append_left, Contains-append_right, Contains-append_cases}
use Rattle.std.proofs.lemmas.List.Sorted.{IsPermutation-sym, Contains-permutation}
use Rattle.pfs_rows.specs.declared.table.TableKind.{TableKind}
use Rattle.pfs_rows.specs.declared.table.SummaryTable.{SummaryTable}
use Rattle.pfs_classes.specs.declared.setting.Setting.{Setting}
use Rattle.pfs_text.specs.declared.values.RowValue.{RowValue}
use Rattle.pfs_summaries.specs.declared.heads.Head.{Head}
use Rattle.pfs_summaries.specs.declared.heads.RowKey.{RowKey}
use Rattle.pfs_summaries.specs.declared.tallies.Tally.{Tally}
use Rattle.pfs_summaries.specs.Heads.{head_of, places_of, row_cmp}
use Rattle.pfs_summaries.specs.Summaries.{IsGiven, is_listed, key_at, row_values, class_rows, head_rows, place_rows, ordered_rows}
use Rattle.pfs_summaries.proofs.PutOrder.{sorted_puts, each_put, of_blocks, apart_blocks}

abbrev Keyed : Type 0
Keyed = RowKey × List RowValue

-- ---- the order of keys

pub row_cmp_total : IsTotalOrder row_cmp
row_cmp_total =
    then_total (on_total (λ (k : RowKey). k.thread_id) nat_cmp_total)
    (then_total (on_total (λ (k : RowKey). k.user) nat_list_cmp_total)
    (then_total (on_total (λ (k : RowKey). k.host) nat_list_cmp_total)
    (then_total (on_total (λ (k : RowKey). k.class) nat_cmp_total) (on_total (λ (k : RowKey). k.place) nat_cmp_total))))

then_first : (a b : Ordering) → is_eq (ordering_then a b) ≡ true → is_eq a ≡ true
then_first Less b h = h
then_first Equal b h = refl
then_first Greater b h = h

pub then_second : (a b : Ordering) → is_eq (ordering_then a b) ≡ true → is_eq b ≡ true
then_second Less b h = absurd (false≢true h)
then_second Equal b h = h
then_second Greater b h = absurd (false≢true h)

pub same_number : (x y : ℕ) → is_eq (nat_cmp x y) ≡ true → x ≡ y
same_number x y h = at (nat_cmp x y) refl h
  where
    at : (r : Ordering) → r ≡ nat_cmp x y → is_eq r ≡ true → x ≡ y
    at Less e h = absurd (false≢true h)
    at Equal e h = ranked x y Equal e
    at Greater e h = absurd (false≢true h)

abbrev same : RowKey → RowKey → Bool
same = eq_by_cmp row_cmp

-- the class and the place of equal keys
ends_alike : (x y : RowKey) → same x y ≡ true → is_eq (ordering_then (nat_cmp x.class y.class) (nat_cmp x.place y.place)) ≡ true
ends_alike x y h =
    let last = ordering_then (nat_cmp x.class y.class) (nat_cmp x.place y.place) in
    let host = ordering_then (slice_cmp nat_cmp x.host y.host) last in
    let user = ordering_then (slice_cmp nat_cmp x.user y.user) host in
    then_second (slice_cmp nat_cmp x.host y.host) last
    (then_second (slice_cmp nat_cmp x.user y.user) host (then_second (nat_cmp x.thread_id y.thread_id) user h))

class_alike : (x y : RowKey) → same x y ≡ true → x.class ≡ y.class
class_alike x y h = same_number x.class y.class (then_first (nat_cmp x.class y.class) (nat_cmp x.place y.place) (ends_alike x y h))

place_alike : (x y : RowKey) → same x y ≡ true → x.place ≡ y.place
place_alike x y h = same_number x.place y.place (then_second (nat_cmp x.class y.class) (nat_cmp x.place y.place) (ends_alike x y h))

-- ---- the keys of the rows that are given

module _ (setting : Setting) (kind : TableKind) (which : SummaryTable) (place : ℕ) (tally : ℕ → Tally) where
  class_keys : (P : RowKey → Type 0) (head : Head) (id : ℕ) → P (key_at head place id) → AllByRecursion P (keys_of (class_rows setting kind which place tally head id))
  unfolding class_rows
  class_keys P head id p = at (is_listed setting kind head tally id)
    where
      at : (b : Bool) → AllByRecursion P (keys_of (if b then (key_at head place id, row_values setting kind which head tally id) ∷ [] else []))
      at true = (p, tt)
      at false = tt

  class_apart : (head : Head) (id : ℕ) → IsDistinct same (keys_of (class_rows setting kind which place tally head id))
  unfolding class_rows IsDistinct
  class_apart head id = at (is_listed setting kind head tally id)
    where
      at : (b : Bool) → IsDistinct same (keys_of (if b then (key_at head place id, row_values setting kind which head tally id) ∷ [] else []))
      at true = (tt, tt)
      at false = tt

  head_keys : (o : Option Head) → AllByRecursion (λ (k : RowKey). k.place ≡ place) (keys_of (head_rows setting kind which place tally o))
  head_keys None = tt
  head_keys (Some head) =
      of_blocks same (class_rows setting kind which place tally head) (λ (k : RowKey). k.place ≡ place) 0 63 (λ id low. class_keys (λ (k : RowKey). k.place ≡ place) head id refl)

  head_apart : (o : Option Head) → IsDistinct same (keys_of (head_rows setting kind which place tally o))
  unfolding IsDistinct
  head_apart None = tt
  head_apart (Some head) =
      apart_blocks same (class_rows setting kind which place tally head) (λ (k : RowKey). k.class) class_alike
      (λ id. class_keys (λ (k : RowKey). k.class ≡ id) head id refl) (class_apart head) 0 63

-- ---- one row among them

in_range : {X : Type 0} (f : ℕ → List X) (a n : ℕ) (x : X) → Contains (flat_map f (range_with_len a n)) x → (k : ℕ) × (a ≤ k) × (k < a + n) × Contains (f k) x
in_range f a zero x h = absurd (omega (arith, h.1))
in_range f a (suc n) x h =
    elim (Contains-append_cases (f a) (flat_map f (range_with_len (a + 1) n)) x h) [
      | inl here ↦ (a, omega arith, omega arith, here)
      | inr later ↦ (let r = in_range f (a + 1) n x later in (r.0, omega (arith, r.1), omega (arith, r.2), r.3))
    ]

from_range : {X : Type 0} (f : ℕ → List X) (a n k : ℕ) (x : X) → a ≤ k → k < a + n → Contains (f k) x → Contains (flat_map f (range_with_len a n)) x
from_range f a zero k x low high h = absurd (omega arith)
from_range {X} f a (suc n) k x low high h =
    elim (first_or_later a k low) [
      | inl e ↦ Contains-append_left (f a) (flat_map f (range_with_len (a + 1) n)) x (subst (λ i. Contains (f i) x) e h)
      | inr past ↦ Contains-append_right (f a) (flat_map f (range_with_len (a + 1) n)) x (from_range f (a + 1) n k x past (omega arith) h)
    ]
  where
    first_or_later : (a k : ℕ) → a ≤ k → (k ≡ a) ⊎ (a + 1 ≤ k)
    first_or_later a k low = elim (cases_lt a k) [ inl past ↦ inr (omega arith) | inr at ↦ inl (omega arith) ]

one_row : (b : Bool) (row other : Keyed) → Contains (if b then row ∷ [] else []) other → (b ≡ true) × (other ≡ row)
one_row true row other h = (refl, All-contains (λ (x : Keyed). x ≡ row) (row ∷ []) other (All-cons (λ (x : Keyed). x ≡ row) row [] refl (All-nil (λ (x : Keyed). x ≡ row))) h)
one_row false row other h = absurd (omega (arith, h.1))

row_one : (b : Bool) (row other : Keyed) → b ≡ true → other ≡ row → Contains (if b then row ∷ [] else []) other
row_one true row other on is = (0, omega arith, sym is)
row_one false row other on is = absurd (false≢true on)

-- ---- all together

module _ (setting : Setting) (kind : TableKind) (which : SummaryTable) (infos : List (Option (List ℕ))) (tally : ℕ → ℕ → Tally) where
  abbrev unordered : List Keyed
  unordered = flat_map (place_rows setting kind which infos tally) (range_with_len 0 (places_of which))

  pub ascending : IsStrictlySortedBy row_cmp (keys_of (ordered_rows setting kind which infos tally))
  unfolding ordered_rows IsStrictlySortedBy
  ascending = sorted_puts row_cmp_total [] unordered tt

  permuted : IsPermutation unordered (ordered_rows setting kind which infos tally)
  unfolding ordered_rows
  permuted =
      each_put row_cmp_total unordered
      (apart_blocks same (place_rows setting kind which infos tally) (λ (k : RowKey). k.place) place_alike
      (λ place. head_keys setting kind which place (tally place) (head_of which setting.names infos place))
      (λ place. head_apart setting kind which place (tally place) (head_of which setting.names infos place)) 0 (places_of which))

  class_given : (place id : ℕ) (head : Head) (row : Keyed) → place < places_of which → id < 63 → head_of which setting.names infos place ≡ Some head
      → Contains (class_rows setting kind which place (tally place) head id) row → IsGiven setting kind which infos tally row
  unfolding class_rows
  class_given place id head row low in' opened h =
      let is = one_row (is_listed setting kind head (tally place) id) (key_at head place id, row_values setting kind which head (tally place) id) row h in
      record { place = place; id = id; head = head; in_places = low; in_classes = in'; opened = opened; listed = is.0; is = is.1 }

  head_given : (place : ℕ) (row : Keyed) → place < places_of which → (o : Option Head) → head_of which setting.names infos place ≡ o
      → Contains (head_rows setting kind which place (tally place) o) row → IsGiven setting kind which infos tally row
  head_given place row low None opened h = absurd (omega (arith, h.1))
  head_given place row low (Some head) opened h =
      let r = in_range (class_rows setting kind which place (tally place) head) 0 63 row h in
      class_given place r.0 head row low (omega (arith, r.2)) opened r.3

  place_given : (row : Keyed) → Contains unordered row → IsGiven setting kind which infos tally row
  place_given row h =
      let r = in_range (place_rows setting kind which infos tally) 0 (places_of which) row h in
      head_given r.0 row (omega (arith, r.2)) (head_of which setting.names infos r.0) refl r.3

  given_class : (row : Keyed) (g : IsGiven setting kind which infos tally row) → Contains (class_rows setting kind which g.place (tally g.place) g.head g.id) row
  unfolding class_rows
  given_class row g =
      row_one (is_listed setting kind g.head (tally g.place) g.id) (key_at g.head g.place g.id, row_values setting kind which g.head (tally g.place) g.id) row g.listed g.is

  given_place : (row : Keyed) → IsGiven setting kind which infos tally row → Contains unordered row
  given_place row g =
      let low : 0 ≤ g.id = omega arith in
      let high : g.id < 0 + 63 = omega (arith, g.in_classes) in
      let own = from_range (class_rows setting kind which g.place (tally g.place) g.head) 0 63 g.id row low high (given_class row g) in
      let first : 0 ≤ g.place = omega arith in
      let last : g.place < 0 + places_of which = omega (arith, g.in_places) in
      from_range (place_rows setting kind which infos tally) 0 (places_of which) g.place row first last
      (subst (λ (o : Option Head). Contains (head_rows setting kind which g.place (tally g.place) o) row) (sym g.opened) own)

  pub given : (row : Keyed) → Contains (ordered_rows setting kind which infos tally) row ↔ IsGiven setting kind which infos tally row
  given row = (
    λ h. place_given row (Contains-permutation (ordered_rows setting kind which infos tally) unordered row (IsPermutation-sym unordered (ordered_rows setting kind which infos tally) permuted) h),
    λ g. Contains-permutation unordered (ordered_rows setting kind which infos tally) row permuted (given_place row g),
  )
