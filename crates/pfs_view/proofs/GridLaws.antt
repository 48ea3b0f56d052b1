-- Cells fit their columns, and a line's cells are its values.
use Rattle.std.proofs.Common.{ℕ, zero, suc, ◌≡◌, ◌+◌, ◌-◌, ◌<◌, ◌≤◌, ◌⊎◌, inl, inr, max, Bool, true, false, List, [], ◌∷◌, ◌++◌, length, get_or, take, drop, refl, ap, sym, ◌∙◌, append_assoc, append-nil, length-append, arith}
use Rattle.std.specs.Prelude.{codes, replicate, reverse, slice_index, slice_index_or, if◌then◌else◌, ◌==◌}
use Rattle.std.proofs.lemmas.List.{ext_get_or}
use Rattle.std.proofs.lemmas.Bool.Decides.{nat_tests}
use Rattle.std.proofs.Math.ListN.{get_or-append}
use Rattle.std.proofs.Math.Seq.{drop-append_seam, get_or-append_seam, take-append_seam}
use Rattle.std.proofs.lemmas.List.{length-replicate, reverse-append}
use Rattle.std.proofs.lemmas.Bool.{cases_lt}
use Rattle.pfs_text.specs.declared.values.RowValue.{RowValue}
use Rattle.pfs_view.specs.ColumnHeadings.{heading_text}
use Rattle.pfs_view.specs.Grids.{aligned, bars, cell_text, column_total, first_of, greatest, heading_line, heading_width, is_right, most_width, padded, row_line, row_width, width_at, widths_of}
use Rattle.pfs_view.specs.Readings.{cell_in, cell_start, room, trimmed, without_spaces}
use Rattle.pfs_view.specs.declared.columns.Headings.{Headings}
use Rattle.pfs_view.specs.declared.columns.Times.{Times}

-- what one of a list has is at most the greatest
below_greatest : {A : Type 0} (f : A → ℕ) (xs : List A) (k : ℕ) (d : A) → k < length xs → f (get_or xs k d) ≤ greatest f xs
below_greatest f [] k d h = absurd (omega (arith, h))
below_greatest f (x ∷ xs) zero d h = omega arith
below_greatest f (x ∷ xs) (suc k) d h = omega (arith, below_greatest f xs k d (omega (arith, h)))

pub length_first : {A : Type 0} (f : ℕ → A) (n : ℕ) → length (first_of f n) ≡ n
length_first f zero = refl
length_first f (suc n) = omega (arith, length-append (first_of f n) (f n ∷ []), length_first f n)

first_or : {A : Type 0} (f : ℕ → A) (n i : ℕ) (d : A) → (i < n → get_or (first_of f n) i d ≡ f i) → (i < n) ⊎ (n ≤ i) → i < suc n → get_or (first_of f n ++ f n ∷ []) i d ≡ f i
first_or f n i d before (inl h) within = get_or-append (first_of f n) (f n ∷ []) d i (omega (arith, h, length_first f n)) ∙ before h
first_or {A} f n i d before (inr h) within =
    let last : i ≡ n = omega (arith, h, within) in
    let at : i ≡ length (first_of f n) = omega (arith, last, length_first f n) in
    ap (λ (k : ℕ). get_or (first_of f n ++ f n ∷ []) k d) at ∙ (get_or-append_seam (first_of f n) (f n) [] d ∙ ap f (sym last))

-- the list that has one for each place has at a place the one for it
pub first_at : {A : Type 0} (f : ℕ → A) (n i : ℕ) (d : A) → i < n → get_or (first_of f n) i d ≡ f i
first_at f zero i d h = absurd (omega (arith, h))
first_at f (suc n) i d h = first_or f n i d (first_at f n i d) (cases_lt i n) h

-- a list that has at each place the one for it
pub first_by_each : (f : ℕ → ℕ) (n : ℕ) (xs : List ℕ) → length xs ≡ n → ((k : ℕ) → k < n → get_or xs k 0 ≡ f k) → xs ≡ first_of f n
first_by_each f n xs count each =
    ext_get_or 0 xs (first_of f n) (count ∙ sym (length_first f n)) (λ k h. let within : k < n = omega (arith, h, count) in each k within ∙ sym (first_at f n k 0 within))

-- how wide the column at a place is
width_there : (headings : Headings) (times : Times) (rows : List (List RowValue)) (place : ℕ) → place < column_total headings rows → slice_index (widths_of headings times rows) place ≡ width_at headings times rows place
width_there headings times rows place h = first_at (width_at headings times rows) (column_total headings rows) place 0 h

aligned_same : (size : ℕ) → size ≤ most_width → aligned size ≡ size
aligned_same size low = grind (arith, nat_tests)

aligned_low : (size : ℕ) → aligned size ≤ most_width
aligned_low size = grind (arith, nat_tests)

greatest_low : {A : Type 0} (f : A → ℕ) (most : ℕ) (xs : List A) → ((x : A) → f x ≤ most) → greatest f xs ≤ most
greatest_low f most [] low = omega arith
greatest_low f most (x ∷ xs) low = omega (arith, low x, greatest_low f most xs low)

pub cells_fit : (headings : Headings) (times : Times) (rows : List (List RowValue)) (at place : ℕ) → at < length rows → place < column_total headings rows → length (cell_text headings times (slice_index_or rows at []) place) ≤ most_width
    → length (cell_text headings times (slice_index_or rows at []) place) ≤ slice_index (widths_of headings times rows) place
cells_fit headings times rows at place there within low =
    let wide : slice_index (widths_of headings times rows) place ≡ max (heading_width headings place) (greatest (row_width headings times place) rows) = width_there headings times rows place within in
    let below : row_width headings times place (slice_index_or rows at []) ≤ greatest (row_width headings times place) rows = below_greatest (row_width headings times place) rows at [] there in
    let same : row_width headings times place (slice_index_or rows at []) ≡ length (cell_text headings times (slice_index_or rows at []) place) = aligned_same (length (cell_text headings times (slice_index_or rows at []) place)) low in
    omega (arith, wide, below, same)

pub headings_fit : (headings : Headings) (times : Times) (rows : List (List RowValue)) (place : ℕ) → place < column_total headings rows → length (heading_text headings place) ≤ slice_index (widths_of headings times rows) place
headings_fit headings times rows place within = omega (arith, width_there headings times rows place within)

pub columns_narrow : (headings : Headings) (times : Times) (rows : List (List RowValue)) (place : ℕ) → place < column_total headings rows → slice_index (widths_of headings times rows) place ≤ max (heading_width headings place) most_width
columns_narrow headings times rows place within =
    let low : greatest (row_width headings times place) rows ≤ most_width = greatest_low (row_width headings times place) most_width rows (λ row. aligned_low (length (cell_text headings times row place))) in
    omega (arith, width_there headings times rows place within, low)

-- spaces before a text
spaces_dropped : (n : ℕ) (text : List ℕ) → without_spaces (replicate n 32 ++ text) ≡ without_spaces text
spaces_dropped zero text = refl
spaces_dropped (suc n) text = spaces_dropped n text

reversed_dropped : (n : ℕ) (text : List ℕ) → without_spaces (reverse (replicate n 32) ++ text) ≡ without_spaces text
reversed_dropped zero text = refl
reversed_dropped (suc n) text =
    ap (λ (z : List ℕ). without_spaces (z ++ text)) (reverse-append (32 ∷ []) (replicate n 32))
    ∙ (ap without_spaces (append_assoc (reverse (replicate n 32)) (32 ∷ []) text)
    ∙ reversed_dropped n (32 ∷ text))

-- spaces behind one, which may be such a text itself
behind_if : (blank : Bool) (byte : ℕ) (text spaces : List ℕ) → ((t : List ℕ) → without_spaces (reverse spaces ++ t) ≡ without_spaces t)
    → without_spaces (reverse (without_spaces (text ++ spaces))) ≡ without_spaces (reverse (without_spaces text))
    → without_spaces (reverse (if blank then without_spaces (text ++ spaces) else byte ∷ (text ++ spaces))) ≡ without_spaces (reverse (if blank then without_spaces text else byte ∷ text))
behind_if true byte text spaces dropped before = before
behind_if false byte text spaces dropped before = ap without_spaces (reverse-append (byte ∷ text) spaces) ∙ dropped (reverse (byte ∷ text))

behind_dropped : (text : List ℕ) (n : ℕ) → without_spaces (reverse (without_spaces (text ++ replicate n 32))) ≡ without_spaces (reverse (without_spaces text))
behind_dropped [] n = ap (λ (z : List ℕ). without_spaces (reverse z)) (ap without_spaces (sym (append-nil (replicate n 32))) ∙ spaces_dropped n [])
behind_dropped (byte ∷ text) n = behind_if (byte == 32) byte text (replicate n 32) (reversed_dropped n) (behind_dropped text n)

trimmed_padded : (right : Bool) (width : ℕ) (text : List ℕ) → trimmed (padded right width text) ≡ trimmed text
trimmed_padded true width text = ap (λ (z : List ℕ). reverse (without_spaces (reverse z))) (spaces_dropped (width - length text) text)
trimmed_padded false width text = ap reverse (behind_dropped text (width - length text))

length_padded : (right : Bool) (width : ℕ) (text : List ℕ) → length (padded right width text) ≡ max width (length text)
length_padded true width text = omega (arith, length-append (replicate (width - length text) 32) text, length-replicate {A = ℕ} (width - length text) 32)
length_padded false width text = omega (arith, length-append text (replicate (width - length text) 32), length-replicate {A = ℕ} (width - length text) 32)

length_bars : (cell : ℕ → List ℕ) (wide : ℕ → ℕ) (n : ℕ) → ((k : ℕ) → k < n → length (cell k) ≡ wide k) → length (bars cell n) + 2 ≡ cell_start wide n
length_bars cell wide zero each = refl
length_bars cell wide (suc n) each =
    let before = length_bars cell wide n (λ k h. each k (omega (arith, h))) in
    let bar = codes "| " in
    let front = bars cell n ++ bar in
    let a : length front ≡ length (bars cell n) + 2 = length-append (bars cell n) bar in
    let b : length (front ++ cell n) ≡ length front + length (cell n) = length-append front (cell n) in
    let c : length ((front ++ cell n) ++ codes " ") ≡ length (front ++ cell n) + 1 = length-append (front ++ cell n) (codes " ") in
    let whole : length (bars cell (suc n)) ≡ length (bars cell n) + 2 + length (cell n) + 1 = omega (arith, a, b, c) in
    let w : length (cell n) ≡ wide n = each n (omega arith) in
    let sum : cell_start wide (suc n) ≡ cell_start wide n + wide n + 3 = refl in
    omega (arith, before, whole, w, sum)

joined : (a b c d e : List ℕ) → (((a ++ b) ++ c) ++ d) ++ e ≡ (a ++ b) ++ (c ++ (d ++ e))
joined a b c d e = append_assoc ((a ++ b) ++ c) d e ∙ append_assoc (a ++ b) c (d ++ e)

-- a line that has a cell, as what is before the cell, the cell, and what is behind it
bars_at : (cell : ℕ → List ℕ) (n k m : ℕ) (tail : List ℕ) → m ≡ k + n → (back : List ℕ) × (bars cell (suc m) ++ tail ≡ (bars cell n ++ codes "| ") ++ (cell n ++ back))
bars_at cell n zero m tail is =
    let same : m ≡ n = omega (arith, is) in
    (codes " " ++ tail, ap (λ (j : ℕ). bars cell (suc j) ++ tail) same ∙ joined (bars cell n) (codes "| ") (cell n) (codes " ") tail)
bars_at cell n (suc k) zero tail is = absurd (omega (arith, is))
bars_at cell n (suc k) (suc m) tail is =
    let last = cell (suc m) ++ (codes " " ++ tail) in
    let found = bars_at cell n k m (codes "| " ++ last) (omega (arith, is)) in
    (found.0, joined (bars cell (suc m)) (codes "| ") (cell (suc m)) (codes " ") tail ∙ (append_assoc (bars cell (suc m)) (codes "| ") last ∙ found.1))

cell_there : (cell : ℕ → List ℕ) (wide : ℕ → ℕ) (n m : ℕ) (tail : List ℕ) → n ≤ m → ((k : ℕ) → k < suc m → length (cell k) ≡ wide k) → cell_in wide (bars cell (suc m) ++ tail) n ≡ cell n
cell_there cell wide n m tail below each =
    let found = bars_at cell n (m - n) m tail (omega (arith, below)) in
    let front = bars cell n ++ codes "| " in
    let start : cell_start wide n ≡ length front = omega (arith, length_bars cell wide n (λ k h. each k (omega (arith, h, below))), length-append (bars cell n) (codes "| ")) in
    let is_wide : wide n ≡ length (cell n) = sym (each n (omega (arith, below))) in
    ap (λ (z : List ℕ). take (wide n) (drop (cell_start wide n) z)) found.1
    ∙ (ap (λ (j : ℕ). take (wide n) (drop j (front ++ (cell n ++ found.0)))) start
    ∙ (ap (take (wide n)) (drop-append_seam front (cell n ++ found.0))
    ∙ (ap (λ (j : ℕ). take j (cell n ++ found.0)) is_wide ∙ take-append_seam (cell n) found.0)))

cell_of_line : (cell : ℕ → List ℕ) (wide : ℕ → ℕ) (n m : ℕ) (tail : List ℕ) → n < m → ((k : ℕ) → k < m → length (cell k) ≡ wide k) → cell_in wide (bars cell m ++ tail) n ≡ cell n
cell_of_line cell wide n zero tail below each = absurd (omega (arith, below))
cell_of_line cell wide n (suc m) tail below each = cell_there cell wide n m tail (omega (arith, below)) each

pub cells_are_values : (headings : Headings) (times : Times) (widths : List ℕ) (row : List RowValue) (place : ℕ) → place < length row
    → trimmed (cell_in (room headings times widths row) (row_line headings times widths row) place) ≡ trimmed (cell_text headings times row place)
unfolding row_line
cells_are_values headings times widths row place within =
    let cell = λ (k : ℕ). padded (is_right row k) (slice_index widths k) (cell_text headings times row k) in
    let found = cell_of_line cell (room headings times widths row) place (length row) (codes "|\n") within (λ k h. length_padded (is_right row k) (slice_index widths k) (cell_text headings times row k)) in
    ap trimmed found ∙ trimmed_padded (is_right row place) (slice_index widths place) (cell_text headings times row place)

pub headings_there : (headings : Headings) (times : Times) (rows : List (List RowValue)) (place : ℕ) → place < column_total headings rows
    → trimmed (cell_in (slice_index (widths_of headings times rows)) (heading_line headings (widths_of headings times rows)) place) ≡ trimmed (heading_text headings place)
unfolding heading_line
headings_there headings times rows place within =
    let widths = widths_of headings times rows in
    let cell = λ (k : ℕ). padded false (slice_index widths k) (heading_text headings k) in
    let count : length widths ≡ column_total headings rows = length_first (width_at headings times rows) (column_total headings rows) in
    let each : (k : ℕ) → k < length widths → length (cell k) ≡ slice_index widths k = λ k h. omega (arith, length_padded false (slice_index widths k) (heading_text headings k), headings_fit headings times rows k (omega (arith, h, count))) in
    let found = cell_of_line cell (slice_index widths) place (length widths) (codes "|\n") (omega (arith, count, within)) each in
    ap trimmed found ∙ trimmed_padded false (slice_index widths place) (heading_text headings place)

same_start : (f g : ℕ → ℕ) (n : ℕ) → ((k : ℕ) → k < n → f k ≡ g k) → cell_start f n ≡ cell_start g n
same_start f g zero each = refl
same_start f g (suc n) each = omega (arith, same_start f g n (λ k h. each k (omega (arith, h))), each n (omega arith))

pub cells_below : (headings : Headings) (times : Times) (rows : List (List RowValue)) (at place : ℕ) → at < length rows → place < column_total headings rows
    → ((k : ℕ) → k < place → length (cell_text headings times (slice_index_or rows at []) k) ≤ most_width)
    → cell_start (room headings times (widths_of headings times rows) (slice_index_or rows at [])) place ≡ cell_start (slice_index (widths_of headings times rows)) place
cells_below headings times rows at place there within low =
    same_start (room headings times (widths_of headings times rows) (slice_index_or rows at [])) (slice_index (widths_of headings times rows)) place
    (λ k h. omega (arith, cells_fit headings times rows at k there (omega (arith, h, within)) (low k h)))
