-- A read set goes on by one reading, and tells what comes next.
use Rattle.std.proofs.Common.{◌≡◌, ℕ, zero, ◌+◌, ◌-◌, ◌<◌, ◌≤◌, Bool, true, false, List, [], ◌∷◌, ◌++◌, length, map, Some, None, ◌⊎◌, inl, inr, refl, sym, ◌∙◌, ap, arith, zero-add, add-one, append_assoc, set, length-set, get_or-set_same, get_or-set_other}
use Rattle.std.specs.Prelude.{◌&&◌, ◌||◌, ◌==◌, nat_lt, nat_le, slice_index_or, slice_set, if◌then◌else◌}
use Rattle.std.proofs.lemmas.List.{append_cancel_left, append-nil, map-append}
use Rattle.std.proofs.lemmas.List.Folds.{list_any-append}
use Rattle.std.proofs.lemmas.Bool.Decides.{nat_tests}
use Rattle.std.proofs.lemmas.Bool.{cases_lt, cases_eq}
use Rattle.pfs_lemmas.proofs.Bools.{and_false, or_true}
use Rattle.pfs_rows.specs.declared.table.Table.{Table}
use Rattle.pfs_rows.specs.declared.table.Table.TheVariants as tables
use Rattle.pfs_rows.specs.declared.table.Reading.{Reading}
use Rattle.pfs_rows.specs.declared.table.Reading.TheVariants as readings
use Rattle.pfs_rows.specs.declared.table.Seen.{Seen}
use Rattle.pfs_rows.specs.declared.table.Seen.TheVariants.{Whole, Free, Busy}
use Rattle.pfs_readsets.specs.declared.target.Target.{Target}
use Rattle.pfs_readsets.specs.declared.target.Target.TheVariants.{Row, Word}
use Rattle.pfs_readsets.specs.declared.read_set.ReadSet.{ReadSet}
use Rattle.pfs_readsets.specs.TablePlaces.{Scope, has_cell, reads_word}
use Rattle.pfs_readsets.specs.ReadSets.{target_of, found_whole, shows_whole, is_whole, reads_row, passing, row_test, word_test, read_set, IsReadSet, IsNext}
use Rattle.pfs_readsets.specs.ReadProgress.{Reached, own_rows, own_words, FirstPassing, behind_row, behind_word}
use Rattle.pfs_readsets.proofs.TestedNumbers.{passing_none, passing_split, passing_same, none_to, ComesFirst, comes_first}
use Rattle.pfs_readsets.proofs.EqualReadings.{RowsArePlaces, rows_same}

-- words read the same where the infos agree
gated : (a b x y : Bool) → (b ≡ true → x ≡ y) → ((a && b) && x) ≡ ((a && b) && y)
gated false b x y h = refl
gated true false x y h = refl
gated true true x y h = h refl

below_33 : (word : ℕ) → nat_lt word 33 ≡ true → word < 129
below_33 word is = let h : word < 33 = grind (arith, nat_tests) in omega arith

words_same : (table : Table) (n : ℕ) (w v : ℕ → Bool) (word : ℕ) → ((info : ℕ) → info < 129 → w info ≡ v info) → reads_word table n w word ≡ reads_word table n v word
words_same tables.SetupInstruments n w v word h = refl
words_same tables.SetupConsumers n w v word h = refl
words_same tables.Threads n w v word h = gated (nat_le 1 word) (nat_lt word 33) (w word) (v word) (λ is. h word (below_33 word is))
words_same _ n w v word h = refl

-- what is still to tell: by the setting and the readings, and by what was noted
abbrev left_by : Scope → Table → List Reading → ReadSet → List Target
left_by scope table readings set = map Row (passing (row_test scope table readings) set.row (14242 - set.row)) ++ map Word (passing (word_test scope table readings) set.word (160 - set.word))

abbrev left_of : ReadSet → List Target
left_of set = map Row (passing (own_rows set) set.row (14242 - set.row)) ++ map Word (passing (own_words set) set.word (160 - set.word))

own_row : RowsArePlaces → (set : ReadSet) (scope : Scope) (table : Table) (readings : List Reading) → Reached set scope table readings
    → (row : ℕ) → row < 14242 → own_rows set row ≡ row_test scope table readings row
own_row places set scope table readings r row below =
    ap (λ t. reads_row t (λ cell. slice_index_or set.cells cell false) set.digests (λ i. slice_index_or set.whole i false) row) r.table
    ∙ (ap (λ n. reads_row table (λ cell. slice_index_or set.cells cell false) n (λ i. slice_index_or set.whole i false) row) r.digests
    ∙ rows_same places table (λ cell. slice_index_or set.cells cell false) (has_cell scope table) scope.digests (λ i. slice_index_or set.whole i false) (is_whole readings) row below
    (record { cells = r.cells; whole = λ info few low. r.whole info few }))

own_word : (set : ReadSet) (scope : Scope) (table : Table) (readings : List Reading) → Reached set scope table readings
    → (word : ℕ) → own_words set word ≡ word_test scope table readings word
own_word set scope table readings r word =
    ap (λ t. reads_word t set.classes (λ i. slice_index_or set.whole i false) word) r.table
    ∙ (ap (λ n. reads_word table n (λ i. slice_index_or set.whole i false) word) r.classes
    ∙ words_same table (length scope.classes) (λ i. slice_index_or set.whole i false) (is_whole readings) word r.whole)

own_is : RowsArePlaces → (set : ReadSet) (scope : Scope) (table : Table) (readings : List Reading) → Reached set scope table readings
    → left_of set ≡ left_by scope table readings set
own_is places set scope table readings r =
    let rows = passing_same (own_rows set) (row_test scope table readings) set.row (14242 - set.row)
    (λ k low high. own_row places set scope table readings r k (omega (arith, r.row))) in
    let words = passing_same (own_words set) (word_test scope table readings) set.word (160 - set.word)
    (λ k low high. own_word set scope table readings r k) in
    ap (λ l. map Row l ++ map Word (passing (own_words set) set.word (160 - set.word))) rows
    ∙ ap (λ l. map Row (passing (row_test scope table readings) set.row (14242 - set.row)) ++ map Word l) words

-- two parts of two lists, where one of the inner parts is empty
swap_inner : (a b c d : List Target) → (c ≡ []) ⊎ (b ≡ []) → (a ++ b) ++ (c ++ d) ≡ (a ++ c) ++ (b ++ d)
swap_inner a b c d (inl e) = rw (e, append-nil) (append_assoc a b d)
swap_inner a b c d (inr e) = rw (e, append-nil) (sym (append_assoc a c d))

-- one of them is empty: no word was told before the rows' end
inner_empty : (set : ReadSet) (scope : Scope) (table : Table) (readings : List Reading) → Reached set scope table readings
    → (map Word (passing (word_test scope table readings) 0 set.word) ≡ []) ⊎ (map Row (passing (row_test scope table readings) set.row (14242 - set.row)) ≡ [])
inner_empty set scope table readings r = on (cases_lt 0 set.word)
  where
    on : (0 < set.word) ⊎ (set.word ≤ 0) → (map Word (passing (word_test scope table readings) 0 set.word) ≡ []) ⊎ (map Row (passing (row_test scope table readings) set.row (14242 - set.row)) ≡ [])
    on (inl some) = inr (ap (map Row) (none_to (row_test scope table readings) set.row 14242 (omega (arith, r.order some))))
    on (inr none) = let e : set.word ≡ zero = omega arith in inl (ap (λ n. map Word (passing (word_test scope table readings) 0 n)) e ∙ ap (map Word) (passing_none (word_test scope table readings) 0))

-- the numbers up to an end are those before and those behind
parted : (test : ℕ → Bool) (at end : ℕ) → at ≤ end → passing test 0 end ≡ passing test 0 at ++ passing test at (end - at)
parted test at end below =
    let n : end ≡ at + (end - at) = omega arith in
    ap (passing test 0) n ∙ (passing_split test 0 at (end - at) ∙ ap (λ k. passing test 0 at ++ passing test k (end - at)) (zero-add at))

pub whole_is : (set : ReadSet) (scope : Scope) (table : Table) (readings : List Reading) → Reached set scope table readings
    → read_set scope table readings ≡ map target_of readings ++ left_by scope table readings set
whole_is set scope table readings r =
    let p = row_test scope table readings in
    let w = word_test scope table readings in
    ap (λ l. map Row l ++ map Word (passing w 0 160)) (parted p set.row 14242 r.row)
    ∙ (ap (λ l. map Row (passing p 0 set.row ++ passing p set.row (14242 - set.row)) ++ map Word l) (parted w set.word 160 r.word)
    ∙ (ap (λ l. l ++ map Word (passing w 0 set.word ++ passing w set.word (160 - set.word))) (map-append Row (passing p 0 set.row) (passing p set.row (14242 - set.row)))
    ∙ (ap (λ l. (map Row (passing p 0 set.row) ++ map Row (passing p set.row (14242 - set.row))) ++ l) (map-append Word (passing w 0 set.word) (passing w set.word (160 - set.word)))
    ∙ (swap_inner (map Row (passing p 0 set.row)) (map Row (passing p set.row (14242 - set.row))) (map Word (passing w 0 set.word)) (map Word (passing w set.word (160 - set.word))) (inner_empty set scope table readings r)
    ∙ ap (λ l. l ++ left_by scope table readings set) (sym r.made)))))

-- what the first of what is left says
pub told_none : RowsArePlaces → (set : ReadSet) (scope : Scope) (table : Table) (readings : List Reading) → Reached set scope table readings
    → FirstPassing (own_rows set) set.row (14242 - set.row) None → FirstPassing (own_words set) set.word (160 - set.word) None → IsReadSet scope table readings
told_none places set scope table readings r rows words =
    let e : left_of set ≡ [] = rw (rows, words) refl in
    sym (whole_is set scope table readings r ∙ (ap (λ l. map target_of readings ++ l) (sym (own_is places set scope table readings r) ∙ e) ∙ append-nil (map target_of readings)))

pub told_row : RowsArePlaces → (set : ReadSet) (scope : Scope) (table : Table) (readings : List Reading) → Reached set scope table readings
    → (row : ℕ) → FirstPassing (own_rows set) set.row (14242 - set.row) (Some row) → IsNext scope table readings (Row row)
told_row places set scope table readings r row rows =
    let others = map Row rows.0 ++ map Word (passing (own_words set) set.word (160 - set.word)) in
    let e : left_of set ≡ Row row ∷ others = rw rows.1 refl in
    (others, whole_is set scope table readings r ∙ ap (λ l. map target_of readings ++ l) (sym (own_is places set scope table readings r) ∙ e))

pub told_word : RowsArePlaces → (set : ReadSet) (scope : Scope) (table : Table) (readings : List Reading) → Reached set scope table readings
    → FirstPassing (own_rows set) set.row (14242 - set.row) None → (word : ℕ) → FirstPassing (own_words set) set.word (160 - set.word) (Some word)
    → IsNext scope table readings (Word word)
told_word places set scope table readings r rows word words =
    let e : left_of set ≡ Word word ∷ map Word words.0 = rw (rows, words.1) refl in
    (map Word words.0, whole_is set scope table readings r ∙ ap (λ l. map target_of readings ++ l) (sym (own_is places set scope table readings r) ∙ e))

-- what comes next is the first of what is left
left_first : (set : ReadSet) (scope : Scope) (table : Table) (readings : List Reading) (target : Target) → Reached set scope table readings
    → (next : IsNext scope table readings target) → left_by scope table readings set ≡ target ∷ next.0
left_first set scope table readings target r next =
    append_cancel_left (map target_of readings) _ _ (sym (whole_is set scope table readings r) ∙ next.1)

head_row : (ps ws : List ℕ) (row : ℕ) (rest : List Target) → map Row ps ++ map Word ws ≡ Row row ∷ rest → (more : List ℕ) × (ps ≡ row ∷ more)
head_row [] [] row rest e = absurd (cc)
head_row [] (w ∷ ws) row rest e = absurd (cc)
head_row (p ∷ ps) ws row rest e = let same : p ≡ row = cc in (ps, ap (λ n. n ∷ ps) same)

head_word : (ps ws : List ℕ) (word : ℕ) (rest : List Target) → map Row ps ++ map Word ws ≡ Word word ∷ rest → (ps ≡ []) × ((more : List ℕ) × (ws ≡ word ∷ more))
head_word [] [] word rest e = absurd (cc)
head_word [] (w ∷ ws) word rest e = let same : w ≡ word = cc in (refl, (ws, ap (λ n. n ∷ ws) same))
head_word (p ∷ ps) ws word rest e = absurd (cc)

-- one more reading
whole_more : (readings : List Reading) (reading : Reading) (info : ℕ) → is_whole (readings ++ reading ∷ []) info ≡ (is_whole readings info || shows_whole info reading)
whole_more readings reading info = list_any-append (shows_whole info) readings (reading ∷ []) ∙ ap (λ b. is_whole readings info || b) (or_false (shows_whole info reading))
  where
    or_false : (b : Bool) → (b || false) ≡ b
    or_false true = refl
    or_false false = refl

or_off : (a b : Bool) → b ≡ false → (a || b) ≡ a
or_off true b e = refl
or_off false b e = e

apart : (row info : ℕ) (seen : Seen) → (row ≡ info → ⊥) → shows_whole info (readings.Slot row seen) ≡ false
apart row info seen differ = let e : (row == info) ≡ false = grind (arith, nat_tests) in ap (λ b. b && found_whole seen) e

-- the flag of an info after the reading of a row
flag_after : (flags : List Bool) (before : List Reading) (row : ℕ) (seen : Seen) → length flags ≡ 129
    → ((info : ℕ) → info < 129 → slice_index_or flags info false ≡ is_whole before info)
    → (info : ℕ) → info < 129
    → slice_index_or (if found_whole seen then slice_set flags row true else flags) info false ≡ is_whole (before ++ readings.Slot row seen ∷ []) info
flag_after flags before row (Whole version content) long known info few = on (cases_eq row info)
  where
    on : (row ≡ info) ⊎ (row ≡ info → ⊥) → slice_index_or (slice_set flags row true) info false ≡ is_whole (before ++ readings.Slot row (Whole version content) ∷ []) info
    on (inl same) =
        let e : (row == info) ≡ true = grind (arith, nat_tests) in
        let here : slice_index_or (slice_set flags row true) row false ≡ true = get_or-set_same flags row true false (omega arith) in
        ap (λ i. slice_index_or (slice_set flags row true) i false) (sym same)
        ∙ (here ∙ sym (whole_more before (readings.Slot row (Whole version content)) info ∙ (ap (λ b. is_whole before info || (b && true)) e ∙ or_true (is_whole before info))))
    on (inr differ) =
        get_or-set_other flags row info true false (λ e. differ (sym e))
        ∙ (known info few ∙ sym (whole_more before (readings.Slot row (Whole version content)) info ∙ or_off (is_whole before info) _ (apart row info (Whole version content) differ)))
flag_after flags before row (Free word) long known info few =
    known info few ∙ sym (whole_more before (readings.Slot row (Free word)) info ∙ or_off (is_whole before info) _ (and_false (row == info)))
flag_after flags before row (Busy first second) long known info few =
    known info few ∙ sym (whole_more before (readings.Slot row (Busy first second)) info ∙ or_off (is_whole before info) _ (and_false (row == info)))

flags_long : (flags : List Bool) (row : ℕ) (seen : Seen) → length flags ≡ 129 → length (if found_whole seen then slice_set flags row true else flags) ≡ 129
flags_long flags row (Whole version content) long = length-set flags row true ∙ long
flags_long flags row (Free word) long = long
flags_long flags row (Busy first second) long = long

-- the reading of a row changes no test of this row and of those before it
rows_after : RowsArePlaces → (scope : Scope) (table : Table) (before : List Reading) (row : ℕ) (seen : Seen) (k : ℕ) → k < 14242 → k ≤ row
    → row_test scope table before k ≡ row_test scope table (before ++ readings.Slot row seen ∷ []) k
rows_after places scope table before row seen k below near =
    rows_same places table (has_cell scope table) (has_cell scope table) scope.digests (is_whole before) (is_whole (before ++ readings.Slot row seen ∷ [])) k below (record {
      cells = λ cell few. refl;
      whole = λ info few low. sym (whole_more before (readings.Slot row seen) info ∙ or_off (is_whole before info) _ (apart row info seen (λ e. absurd (omega arith))));
    })

-- what was made, with the row
made_row : (set : ReadSet) (scope : Scope) (table : Table) (before : List Reading) (row : ℕ) → Reached set scope table before
    → ComesFirst (row_test scope table before) set.row (14242 - set.row) row → (test : ℕ → Bool)
    → ((k : ℕ) → k < 14242 → k ≤ row → row_test scope table before k ≡ test k) → (words : ℕ → Bool) (reading : Reading) → target_of reading ≡ Row row
    → map target_of (before ++ reading ∷ []) ≡ map Row (passing test 0 (row + 1)) ++ map Word (passing words 0 set.word)
made_row set scope table before row r first test same words reading is =
    let p = row_test scope table before in
    let none : set.word ≡ zero = nothing (cases_lt 0 set.word) in
    let upto : passing test 0 (row + 1) ≡ passing p 0 set.row ++ row ∷ [] =
    sym (passing_same p test 0 (row + 1) (λ k low high. same k (omega (arith, first.high, r.row)) (omega arith)))
    ∙ (parted p set.row (row + 1) (omega (arith, first.low)) ∙ ap (λ l. passing p 0 set.row ++ l) (ap (λ n. passing p set.row (n - set.row)) (add-one row) ∙ first.alone)) in
    let empty : map Word (passing words 0 set.word) ≡ [] = ap (λ n. map Word (passing words 0 n)) none ∙ ap (map Word) (passing_none words 0) in
    let before_empty : map Word (passing (word_test scope table before) 0 set.word) ≡ [] =
    ap (λ n. map Word (passing (word_test scope table before) 0 n)) none ∙ ap (map Word) (passing_none (word_test scope table before) 0) in
    map-append target_of before (reading ∷ [])
    ∙ (ap (λ t. map target_of before ++ t ∷ []) is
    ∙ (ap (λ l. l ++ Row row ∷ []) (r.made ∙ (ap (λ l. map Row (passing p 0 set.row) ++ l) before_empty ∙ append-nil (map Row (passing p 0 set.row))))
    ∙ (sym (map-append Row (passing p 0 set.row) (row ∷ []))
    ∙ (ap (map Row) (sym upto) ∙ (sym (append-nil (map Row (passing test 0 (row + 1)))) ∙ ap (λ l. map Row (passing test 0 (row + 1)) ++ l) (sym empty))))))
  where
    nothing : (0 < set.word) ⊎ (set.word ≤ 0) → set.word ≡ zero
    nothing (inl some) = absurd (omega (arith, r.order some, first.low, first.high))
    nothing (inr few) = omega arith

pub noted_row : RowsArePlaces → (set : ReadSet) (scope : Scope) (table : Table) (before : List Reading) (row : ℕ) (seen : Seen)
    → Reached set scope table before → IsNext scope table before (Row row)
    → (row < 14242) × Reached (behind_row set row seen) scope table (before ++ readings.Slot row seen ∷ [])
noted_row places set scope table before row seen r next =
    let head = head_row _ _ row next.0 (left_first set scope table before (Row row) r next) in
    let first = comes_first (row_test scope table before) set.row (14242 - set.row) row head.0 head.1 in
    let below : row < 14242 = omega (arith, first.high, first.low, r.row) in (
      below,
      record {
        table = r.table;
        cells = r.cells;
        classes = r.classes;
        digests = r.digests;
        whole = flag_after set.whole before row seen r.flags r.whole;
        flags = flags_long set.whole row seen r.flags;
        row = omega arith;
        word = r.word;
        order = λ some. absurd (omega (arith, r.order some, first.low));
        made = made_row set scope table before row r first (row_test scope table (before ++ readings.Slot row seen ∷ [])) (rows_after places scope table before row seen)
            (word_test scope table (before ++ readings.Slot row seen ∷ [])) (readings.Slot row seen) refl;
      },
    )

-- the reading of a word shows no row Whole
whole_word : (before : List Reading) (word version flags info : ℕ) → is_whole (before ++ readings.Word word version flags ∷ []) info ≡ is_whole before info
whole_word before word version flags info = whole_more before (readings.Word word version flags) info ∙ or_off (is_whole before info) false refl

rows_word : RowsArePlaces → (scope : Scope) (table : Table) (before : List Reading) (word version flags k : ℕ) → k < 14242
    → row_test scope table before k ≡ row_test scope table (before ++ readings.Word word version flags ∷ []) k
rows_word places scope table before word version flags k below =
    rows_same places table (has_cell scope table) (has_cell scope table) scope.digests (is_whole before) (is_whole (before ++ readings.Word word version flags ∷ [])) k below
    (record { cells = λ cell few. refl; whole = λ info few low. sym (whole_word before word version flags info) })

words_word : (scope : Scope) (table : Table) (before : List Reading) (word version flags k : ℕ)
    → word_test scope table before k ≡ word_test scope table (before ++ readings.Word word version flags ∷ []) k
words_word scope table before word version flags k =
    words_same table (length scope.classes) (is_whole before) (is_whole (before ++ readings.Word word version flags ∷ [])) k (λ info few. sym (whole_word before word version flags info))

made_word : RowsArePlaces → (set : ReadSet) (scope : Scope) (table : Table) (before : List Reading) (word version flags : ℕ) → Reached set scope table before
    → passing (row_test scope table before) set.row (14242 - set.row) ≡ [] → ComesFirst (word_test scope table before) set.word (160 - set.word) word
    → map target_of (before ++ readings.Word word version flags ∷ [])
    ≡ map Row (passing (row_test scope table (before ++ readings.Word word version flags ∷ [])) 0 14242)
    ++ map Word (passing (word_test scope table (before ++ readings.Word word version flags ∷ [])) 0 (word + 1))
made_word places set scope table before word version flags r none first =
    let after = before ++ readings.Word word version flags ∷ [] in
    let p = row_test scope table before in
    let w = word_test scope table before in
    let rows : passing (row_test scope table after) 0 14242 ≡ passing p 0 set.row =
    sym (passing_same p (row_test scope table after) 0 14242 (λ k low high. rows_word places scope table before word version flags k (omega arith)))
    ∙ (parted p set.row 14242 r.row ∙ (ap (λ l. passing p 0 set.row ++ l) none ∙ append-nil (passing p 0 set.row))) in
    let words : passing (word_test scope table after) 0 (word + 1) ≡ passing w 0 set.word ++ word ∷ [] =
    sym (passing_same w (word_test scope table after) 0 (word + 1) (λ k low high. words_word scope table before word version flags k))
    ∙ (parted w set.word (word + 1) (omega (arith, first.low)) ∙ ap (λ l. passing w 0 set.word ++ l) (ap (λ n. passing w set.word (n - set.word)) (add-one word) ∙ first.alone)) in
    map-append target_of before (readings.Word word version flags ∷ [])
    ∙ (ap (λ l. l ++ Word word ∷ []) r.made
    ∙ (append_assoc (map Row (passing p 0 set.row)) (map Word (passing w 0 set.word)) (Word word ∷ [])
    ∙ (ap (λ l. map Row (passing p 0 set.row) ++ l) (sym (map-append Word (passing w 0 set.word) (word ∷ [])))
    ∙ (ap (λ l. map Row (passing p 0 set.row) ++ map Word l) (sym words)
    ∙ ap (λ l. map Row l ++ map Word (passing (word_test scope table after) 0 (word + 1))) (sym rows)))))

pub noted_word : RowsArePlaces → (set : ReadSet) (scope : Scope) (table : Table) (before : List Reading) (word version flags : ℕ)
    → Reached set scope table before → IsNext scope table before (Word word)
    → (word < 160) × Reached (behind_word set word) scope table (before ++ readings.Word word version flags ∷ [])
noted_word places set scope table before word version flags r next =
    let head = head_word _ _ word next.0 (left_first set scope table before (Word word) r next) in
    let first = comes_first (word_test scope table before) set.word (160 - set.word) word head.1.0 head.1.1 in
    let below : word < 160 = omega (arith, first.high, first.low, r.word) in (
      below,
      record {
        table = r.table;
        cells = r.cells;
        classes = r.classes;
        digests = r.digests;
        whole = λ info few. r.whole info few ∙ sym (whole_word before word version flags info);
        flags = r.flags;
        row = omega arith;
        word = omega arith;
        order = λ some. refl;
        made = made_word places set scope table before word version flags r head.0 first;
      },
    )
