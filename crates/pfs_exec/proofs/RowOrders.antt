-- The order of rows is a total order, and a stable sort by it is one of their lists of values.
use Rattle.std.proofs.Common.{◌≡◌, ◌<◌, ◌≤◌, ◌+◌, ℕ, zero, suc, Bool, true, false, not, ◌&&◌, cond, List, [], ◌∷◌, Bor, map, filter, length, get_or, refl, sym, ◌∙◌, ap, arith}
use Rattle.std.specs.Cmp.{IsTotalOrder, IsStrictWeakOrder, back_total, on_total, then_total}
use Rattle.std.specs.Cmp.Lexicographic.{slice_cmp, lists_total, nat_list_cmp_total}
use Rattle.std.specs.List.Sorted.{IsPermutation, IsSortedBy, IsStableBy, ties}
use Rattle.std.specs.Ordering.{is_lt, nat_cmp, ordering_reverse, ordering_then}
use Rattle.std.specs.declared.cmp.Ordering.{Ordering}
use Rattle.std.specs.declared.cmp.Ordering.TheVariants.{Less as Lower, Equal as Same, Greater as Higher}
use Rattle.std.proofs.lemmas.List.{length-map}
use Rattle.std.proofs.lemmas.List.Sorted.{IsPermutation-map, ranks_by}
use Rattle.pfs_text.specs.declared.values.RowValue.{RowValue}
use Rattle.pfs_text.specs.declared.values.RowValue.TheVariants.{Null, Number, Text}
use Rattle.pfs_exec.specs.declared.query.Order.{Order}
use Rattle.pfs_exec.specs.Selections.{IsInOrder, column_cmp, row_cmp, value_at, value_cmp}

-- a value as a list of texts whose order by bytes is that of the values
key : RowValue → List (List ℕ)
key Null = []
key (Number n) = (0 ∷ []) ∷ (n ∷ []) ∷ []
key (Text text) = (1 ∷ []) ∷ text ∷ []

abbrev key_cmp : List (List ℕ) → List (List ℕ) → Ordering
key_cmp a b = slice_cmp (slice_cmp nat_cmp) a b

then_same : (order : Ordering) → order ≡ ordering_then order Same
then_same Lower = refl
then_same Same = refl
then_same Higher = refl

by_key : (a b : RowValue) → value_cmp a b ≡ key_cmp (key a) (key b)
unfolding key
by_key Null Null = refl
by_key Null (Number b) = refl
by_key Null (Text b) = refl
by_key (Number a) Null = refl
by_key (Number a) (Number b) = then_same (nat_cmp a b) ∙ then_same (ordering_then (nat_cmp a b) Same)
by_key (Number a) (Text b) = refl
by_key (Text a) Null = refl
by_key (Text a) (Number b) = refl
by_key (Text a) (Text b) = then_same (slice_cmp nat_cmp a b)

keys_total : IsTotalOrder key_cmp
keys_total = lists_total nat_list_cmp_total

value_total : IsTotalOrder value_cmp
value_total = record {
  antisymm = λ x y. by_key x y ∙ (keys_total.antisymm (key x) (key y) ∙ ap ordering_reverse (sym (by_key y x)));
  trans = λ x y z h k. by_key x z ∙ keys_total.trans (key x) (key y) (key z) (sym (by_key x y) ∙ h) (sym (by_key y z) ∙ k);
  congr = λ x y z h. by_key x z ∙ (keys_total.congr (key x) (key y) (key z) (sym (by_key x y) ∙ h) ∙ sym (by_key y z));
}

turned_total : (descending : Bool) (place : ℕ) → IsTotalOrder (λ (a b : List RowValue). cond descending (value_cmp (value_at b place) (value_at a place)) (value_cmp (value_at a place) (value_at b place)))
turned_total true place = back_total (on_total (λ (row : List RowValue). value_at row place) value_total)
turned_total false place = on_total (λ (row : List RowValue). value_at row place) value_total

column_total : (order : Order) → IsTotalOrder (column_cmp order)
column_total order = turned_total order.descending order.column

pub row_total : (orders : List Order) → IsTotalOrder (row_cmp orders)
row_total [] = record { antisymm = λ x y. refl; trans = λ x y z h k. h; congr = λ x y z h. refl }
row_total (order ∷ orders) = then_total (column_total order) (row_total orders)

abbrev pub is_before : List Order → List RowValue → List RowValue → Bool
is_before orders a b = is_lt (row_cmp orders a b)

-- the same of rows that are lent
abbrev pub lent_before : List Order → Bor (List RowValue) → Bor (List RowValue) → Bool
lent_before orders a b = is_before orders a.now b.now

pub weak : (orders : List Order) → IsStrictWeakOrder (lent_before orders)
weak orders = ranks_by (row_total orders) (λ (row : Bor (List RowValue)). row.now)

abbrev pub rows_of : List (Bor (List RowValue)) → List (List RowValue)
rows_of rows = map (λ row. row.now) rows

get_or-map : {X Y : Type 0} (f : X → Y) (xs : List X) (k : ℕ) (d : X) → get_or (map f xs) k (f d) ≡ f (get_or xs k d)
get_or-map f [] k d = refl
get_or-map f (x ∷ xs) zero d = refl
get_or-map f (x ∷ xs) (suc k) d = get_or-map f xs k d

picked : {X Y : Type 0} (f : X → Y) (x : X) (ys : List Y) (xs : List X) (b : Bool) → ys ≡ map f xs → cond b (f x ∷ ys) ys ≡ map f (cond b (x ∷ xs) xs)
picked f x ys xs true e = ap (λ l. f x ∷ l) e
picked f x ys xs false e = e

filter-map : {X Y : Type 0} (p : Y → Bool) (f : X → Y) (xs : List X) → filter p (map f xs) ≡ map f (filter (λ x. p (f x)) xs)
filter-map p f [] = refl
filter-map p f (x ∷ xs) = picked f x (filter p (map f xs)) (filter (λ x. p (f x)) xs) (p (f x)) (filter-map p f xs)

lend : List RowValue → Bor (List RowValue)
lend row = record { ref_ptr = (0, 0); now = row }

sorted_rows : (orders : List Order) (rows : List (Bor (List RowValue))) → IsSortedBy (lent_before orders) rows → IsSortedBy (is_before orders) (rows_of rows)
unfolding lend
sorted_rows orders rows sorted k d low high =
    let below : k + 1 < length rows = omega (arith, length-map rows (λ (row : Bor (List RowValue)). row.now)) in
    let here : get_or (rows_of rows) k d ≡ (get_or rows k (lend d)).now = get_or-map (λ (row : Bor (List RowValue)). row.now) rows k (lend d) in
    let next : get_or (rows_of rows) (k + 1) d ≡ (get_or rows (k + 1) (lend d)).now = get_or-map (λ (row : Bor (List RowValue)). row.now) rows (k + 1) (lend d) in
    ap (λ (a : List RowValue). is_before orders a (get_or (rows_of rows) k d)) next ∙ (ap (λ (b : List RowValue). is_before orders (get_or rows (k + 1) (lend d)).now b) here ∙ sorted k (lend d) low below)

stable_rows : (orders : List Order) (old new : List (Bor (List RowValue))) → IsStableBy (lent_before orders) old new → IsStableBy (is_before orders) (rows_of old) (rows_of new)
unfolding lend
stable_rows orders old new stable x =
    filter-map (ties (is_before orders) x) (λ (row : Bor (List RowValue)). row.now) new
    ∙ (ap rows_of (stable (lend x)) ∙ sym (filter-map (ties (is_before orders) x) (λ (row : Bor (List RowValue)). row.now) old))

pub in_order : (orders : List Order) (old new : List (Bor (List RowValue))) → IsPermutation old new → IsSortedBy (lent_before orders) new → IsStableBy (lent_before orders) old new → IsInOrder orders (rows_of old) (rows_of new)
in_order orders old new moved sorted stable = record {
  permutation = IsPermutation-map (λ (row : Bor (List RowValue)). row.now) old new moved;
  ascending = sorted_rows orders new sorted;
  stable = stable_rows orders old new stable;
}
