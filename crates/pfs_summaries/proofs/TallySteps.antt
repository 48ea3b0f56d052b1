-- One reading more, for the tallies of cells.
use Rattle.std.proofs.Common.{ℕ, ◌≡◌, ◌+◌, ◌*◌, ◌<◌, ◌≤◌, Bool, true, false, cond, ◌&&◌, ◌||◌, List, [], ◌∷◌, ◌++◌, length, get_or, set, take, drop, Option, Some, None, refl, sym, ap, ◌∙◌, inl, inr, arith, eqb, ltb, subst}
use Rattle.std.specs.Prelude.{fold}
use Rattle.std.specs.List.{filter_map, cons_option, list_any}
use Rattle.std.proofs.lemmas.List.{get_or-set_same, get_or-set_other, length-set, take_more}
use Rattle.std.proofs.lemmas.List.Elements.{filter_map-append}
use Rattle.std.proofs.lemmas.List.Folds.{list_any-append}
use Rattle.std.proofs.lemmas.List.Sums.{fold-append}
use Rattle.std.proofs.lemmas.Bool.{cases_eq, cases_lt, eq-eqb, ne_eqb, lt-ltb, le-ltb, cond-true, cond-false, and_from, and_left, and_right}
use Rattle.pfs_rows.specs.declared.place.Place.{Place}
use Rattle.pfs_rows.specs.declared.place.Place.TheVariants.{Admin, ThreadInfo, AccountInfo, UserInfo, HostInfo, ThreadCell, AccountCell, UserCell, HostCell, GlobalCell, DigestNull, Digest, Ring, Long}
use Rattle.pfs_rows.specs.declared.table.Seen.{Seen}
use Rattle.pfs_rows.specs.declared.table.Seen.TheVariants.{Whole, Free, Busy}
use Rattle.pfs_rows.specs.declared.table.Reading.{Reading}
use Rattle.pfs_rows.specs.declared.table.Reading.TheVariants.{Slot, Word}
use Rattle.pfs_rows.specs.declared.table.SummaryTable.{SummaryTable}
use Rattle.pfs_rows.specs.Rows.{IsPlace, row_number, place_at}
use Rattle.pfs_stat.specs.declared.Stat.{Stat}
use Rattle.pfs_stat.specs.Stat.{zero_of, merge_of, merge_all, stat_of_words}
use Rattle.pfs_summaries.specs.declared.tallies.Tally.{Tally}
use Rattle.pfs_summaries.specs.FoundContents.{found_busy}
use Rattle.pfs_summaries.specs.Cells.{key_of, cell_of, is_number, is_key_cell, reads_key_cell, counted_in, tally_of}
use Rattle.pfs_summaries.proofs.ContentSteps.{written_back}
use Rattle.pfs_summaries.specs.ReadingSteps.{none_of, added, at_key, at_place, with_cell, tally_in, AreTallies}

abbrev make : Stat → Bool → Tally
make stat busy = record { stat = stat; busy = busy }

-- what a reading adds
abbrev added_by : Reading → Tally → Tally
added_by (Slot row seen) tally = added seen tally
added_by (Word word version flags) tally = tally

whole_step : (b : Bool) (version : ℕ) (words : List ℕ) (s : Stat) (x : Bool) → make (fold merge_of s (cons_option (cond b (Some (stat_of_words words)) None) [])) (x || ((b && false) || false)) ≡ cond b (added (Whole version words) (make s x)) (make s x)
whole_step true version words s true = refl
whole_step true version words s false = refl
whole_step false version words s true = refl
whole_step false version words s false = refl

free_step : (b : Bool) (word : ℕ) (s : Stat) (x : Bool) → make (fold merge_of s (cons_option (cond b None None) [])) (x || ((b && false) || false)) ≡ cond b (added (Free word) (make s x)) (make s x)
free_step true word s true = refl
free_step true word s false = refl
free_step false word s true = refl
free_step false word s false = refl

busy_step : (b : Bool) (first second : ℕ) (s : Stat) (x : Bool) → make (fold merge_of s (cons_option (cond b None None) [])) (x || ((b && true) || false)) ≡ cond b (added (Busy first second) (make s x)) (make s x)
busy_step true first second s true = refl
busy_step true first second s false = refl
busy_step false first second s true = refl
busy_step false first second s false = refl

word_step : (s : Stat) (x : Bool) → make s (x || false) ≡ make s x
word_step s true = refl
word_step s false = refl

-- the tally with one reading more
step : (which : SummaryTable) (infos : List (Option (List ℕ))) (key cell : ℕ) (reading : Reading) (s : Stat) (x : Bool)
    → make (fold merge_of s (filter_map (counted_in which infos key cell) (reading ∷ []))) (x || list_any (λ one. reads_key_cell which infos key cell one && found_busy one) (reading ∷ []))
    ≡ cond (reads_key_cell which infos key cell reading) (added_by reading (make s x)) (make s x)
step which infos key cell (Slot row (Whole version words)) s x = whole_step (is_key_cell which infos key cell (place_at row)) version words s x
step which infos key cell (Slot row (Free word)) s x = free_step (is_key_cell which infos key cell (place_at row)) word s x
step which infos key cell (Slot row (Busy first second)) s x = busy_step (is_key_cell which infos key cell (place_at row)) first second s x
step which infos key cell (Word word version flags) s x = word_step s x

pub tally_push : (which : SummaryTable) (infos : List (Option (List ℕ))) (readings : List Reading) (reading : Reading) (key cell : ℕ)
    → tally_of which infos (readings ++ reading ∷ []) key cell ≡ cond (reads_key_cell which infos key cell reading) (added_by reading (tally_of which infos readings key cell)) (tally_of which infos readings key cell)
tally_push which infos readings reading key cell =
    let f : Reading → Option Stat = counted_in which infos key cell in
    let p : Reading → Bool = λ (one : Reading). reads_key_cell which infos key cell one && found_busy one in
    let s : Stat = merge_all (filter_map f readings) in
    let x : Bool = list_any p readings in
    ap (λ (xs : List Stat). make (merge_all xs) (list_any p (readings ++ reading ∷ []))) (filter_map-append f readings (reading ∷ []))
    ∙ (ap (λ (t : Stat). make t (list_any p (readings ++ reading ∷ []))) (fold-append merge_of zero_of (filter_map f readings) (filter_map f (reading ∷ [])))
    ∙ (ap (λ (b : Bool). make (fold merge_of s (filter_map f (reading ∷ []))) b) (list_any-append p readings (reading ∷ []))
    ∙ step which infos key cell reading s x))

-- a cell's number is below 64
below_cells : (place : Place) → IsPlace place → cell_of place < 64
below_cells Admin h = omega arith
below_cells (ThreadInfo thread) h = omega arith
below_cells (AccountInfo account) h = omega arith
below_cells (UserInfo user) h = omega arith
below_cells (HostInfo host) h = omega arith
below_cells (ThreadCell thread cell) h = h.1
below_cells (AccountCell account cell) h = h.1
below_cells (UserCell user cell) h = h.1
below_cells (HostCell host cell) h = h.1
below_cells (GlobalCell cell) h = h
below_cells DigestNull h = omega arith
below_cells (Digest digest) h = omega arith
below_cells (Ring thread place) h = omega arith
below_cells (Long kind place) h = omega arith

-- the place of a row is one
placed : ((p : Place) → IsPlace p → place_at (row_number p) ≡ Some p) → ((row : ℕ) → row < 14242 → (p : Place) × IsPlace p × (row_number p ≡ row)) → ((row : ℕ) → 14242 ≤ row → place_at row ≡ None)
    → (row : ℕ) (place : Place) → place_at row ≡ Some place → cell_of place < 64
placed back found none row place e =
    elim (cases_lt row 14242) [
      | inl h ↦
          (let it = found row h in
          let there : place_at row ≡ Some it.0 = ap place_at (sym it.2) ∙ back it.0 it.1 in
          let same : it.0 ≡ place = cc (there, e) in
          let bound : cell_of it.0 < 64 = below_cells it.0 it.1 in
          let P : Place → Type 0 = λ (p : Place). cell_of p < 64 in subst P same bound)
      | inr h ↦ absurd (cc (none row h, e))
    ]

-- two cells with different numbers differ
apart : (j c key cell : ℕ) → (64 * j + c ≡ 64 * key + cell → ⊥) → (eqb j key && eqb c cell) ≡ false
apart j c key cell n =
    elim (cases_eq j key) [
      | inl same ↦ and_right (eqb j key) (eqb c cell) (ne_eqb c cell (λ e. n (omega arith)))
      | inr other ↦ and_left (eqb j key) (eqb c cell) (ne_eqb j key other)
    ]

-- a cell written, at another cell or at itself
written_at : (seen : Seen) (tallies : List Tally) (j c key cell : ℕ) → length tallies ≡ 2048 → c < 64 → j < 32 → key < 32 → cell < 64
    → tally_in (set tallies (64 * j + c) (added seen (get_or tallies (64 * j + c) none_of))) key cell ≡ cond (eqb j key && eqb c cell) (added seen (tally_in tallies key cell)) (tally_in tallies key cell)
written_at seen tallies j c key cell long low lj lk lc =
    let v = added seen (get_or tallies (64 * j + c) none_of) in
    let yes = added seen (tally_in tallies key cell) in
    let no = tally_in tallies key cell in
    elim (cases_eq (64 * j + c) (64 * key + cell)) [
      | inl e ↦
          (let same_key : j ≡ key = omega arith in
          let same_cell : c ≡ cell = omega arith in
          let within : 64 * key + cell < length tallies = omega arith in
          ap (λ n. get_or (set tallies n (added seen (get_or tallies n none_of))) (64 * key + cell) none_of) e
          ∙ (get_or-set_same tallies (64 * key + cell) yes none_of within
          ∙ sym (cond-true (eqb j key && eqb c cell) yes no (and_from (eqb j key) (eqb c cell) (eq-eqb j key same_key) (eq-eqb c cell same_cell)))))
      | inr n ↦
          (let other : 64 * key + cell ≡ 64 * j + c → ⊥ = λ e. n (sym e) in
          get_or-set_other tallies (64 * j + c) (64 * key + cell) v none_of other
          ∙ sym (cond-false (eqb j key && eqb c cell) yes no (apart j c key cell n)))
    ]

-- the tallies after one more cell, number by number
keyed : (seen : Seen) (tallies : List Tally) (k : Option ℕ) (c key cell : ℕ) → length tallies ≡ 2048 → c < 64 → key < 32 → cell < 64
    → tally_in (at_key seen tallies c k) key cell ≡ cond (is_number key k && eqb c cell) (added seen (tally_in tallies key cell)) (tally_in tallies key cell)
keyed seen tallies None c key cell long low lk lc = refl
keyed seen tallies (Some j) c key cell long low lk lc =
    let v = added seen (get_or tallies (64 * j + c) none_of) in
    elim (cases_lt j 32) [
      | inl h ↦
          (let on : ltb j 32 ≡ true = lt-ltb j 32 h in
          ap (λ (ts : List Tally). tally_in ts key cell) (cond-true (ltb j 32) (set tallies (64 * j + c) v) tallies on)
          ∙ written_at seen tallies j c key cell long low h lk lc)
      | inr h ↦
          (let off : ltb j 32 ≡ false = le-ltb j 32 h in
          let n : j ≡ key → ⊥ = λ e. omega arith in
          ap (λ (ts : List Tally). tally_in ts key cell) (cond-false (ltb j 32) (set tallies (64 * j + c) v) tallies off)
          ∙ sym (cond-false (eqb j key && eqb c cell) (added seen (tally_in tallies key cell)) (tally_in tallies key cell) (and_left (eqb j key) (eqb c cell) (ne_eqb j key n))))
    ]

at_the : (which : SummaryTable) (infos : List (Option (List ℕ))) (seen : Seen) (tallies : List Tally) (o : Option Place) (key cell : ℕ) → length tallies ≡ 2048 → ((place : Place) → o ≡ Some place → cell_of place < 64)
    → key < 32 → cell < 64 → tally_in (at_place which infos seen tallies o) key cell ≡ cond (is_key_cell which infos key cell o) (added seen (tally_in tallies key cell)) (tally_in tallies key cell)
at_the which infos seen tallies None key cell long low lk lc = refl
at_the which infos seen tallies (Some place) key cell long low lk lc = keyed seen tallies (key_of which infos place) (cell_of place) key cell long (low place refl) lk lc

pub cell_more : (which : SummaryTable) (infos : List (Option (List ℕ))) (reading : Reading) (tallies : List Tally) (key cell : ℕ) → length tallies ≡ 2048 → ((row : ℕ) (place : Place) → place_at row ≡ Some place → cell_of place < 64)
    → key < 32 → cell < 64 → tally_in (with_cell which infos reading tallies) key cell ≡ cond (reads_key_cell which infos key cell reading) (added_by reading (tally_in tallies key cell)) (tally_in tallies key cell)
cell_more which infos (Word word version flags) tallies key cell long low lk lc = refl
cell_more which infos (Slot row seen) tallies key cell long low lk lc = at_the which infos seen tallies (place_at row) key cell long (low row) lk lc

-- as many tallies as before
keyed_count : (seen : Seen) (tallies : List Tally) (k : Option ℕ) (c : ℕ) → length (at_key seen tallies c k) ≡ length tallies
keyed_count seen tallies None c = refl
keyed_count seen tallies (Some j) c =
    let v = added seen (get_or tallies (64 * j + c) none_of) in
    elim (cases_lt j 32) [
      | inl h ↦ ap length (cond-true (ltb j 32) (set tallies (64 * j + c) v) tallies (lt-ltb j 32 h)) ∙ length-set tallies (64 * j + c) v
      | inr h ↦ ap length (cond-false (ltb j 32) (set tallies (64 * j + c) v) tallies (le-ltb j 32 h))
    ]

placed_count : (which : SummaryTable) (infos : List (Option (List ℕ))) (seen : Seen) (tallies : List Tally) (o : Option Place) → length (at_place which infos seen tallies o) ≡ length tallies
placed_count which infos seen tallies None = refl
placed_count which infos seen tallies (Some place) = keyed_count seen tallies (key_of which infos place) (cell_of place)

cell_count : (which : SummaryTable) (infos : List (Option (List ℕ))) (reading : Reading) (tallies : List Tally) → length (with_cell which infos reading tallies) ≡ length tallies
cell_count which infos (Word word version flags) tallies = refl
cell_count which infos (Slot row seen) tallies = placed_count which infos seen tallies (place_at row)

-- the step of the loop
pub tallies_more : (which : SummaryTable) (infos : List (Option (List ℕ))) (readings : List Reading) (i : ℕ) (d : Reading) (before slice written : List Tally) (n : ℕ)
    → ((p : Place) → IsPlace p → place_at (row_number p) ≡ Some p) → ((row : ℕ) → row < 14242 → (p : Place) × IsPlace p × (row_number p ≡ row)) → ((row : ℕ) → 14242 ≤ row → place_at row ≡ None)
    → i < length readings → AreTallies which infos (take i readings) before → slice ≡ before → written ≡ with_cell which infos (get_or readings i d) slice → length written ≡ length slice → n ≡ length before
    → AreTallies which infos (take (i + 1) readings) (take n (written ++ drop (length written) before))
tallies_more which infos readings i d before slice written n back found none h are s w l e =
    let reading = get_or readings i d in
    let now : take n (written ++ drop (length written) before) ≡ with_cell which infos reading before = written_back written before n e (l ∙ ap length s) ∙ (w ∙ ap (with_cell which infos reading) s) in
    record {
      count = ap length now ∙ (cell_count which infos reading before ∙ are.count);
      each = λ key cell lk lc.
          ap (λ (ts : List Tally). tally_in ts key cell) now
          ∙ (cell_more which infos reading before key cell are.count (placed back found none) lk lc
          ∙ (ap (λ (t : Tally). cond (reads_key_cell which infos key cell reading) (added_by reading t) t) (are.each key cell lk lc)
          ∙ (sym (tally_push which infos (take i readings) reading key cell)
          ∙ ap (λ (rs : List Reading). tally_of which infos rs key cell) (sym (take_more readings i d h)))));
    }

-- before the first reading
pub tallies_none : (which : SummaryTable) (infos : List (Option (List ℕ))) (tallies : List Tally) → length tallies ≡ 2048 → ((n : ℕ) → n < 2048 → get_or tallies n none_of ≡ none_of) → AreTallies which infos [] tallies
tallies_none which infos tallies long none = record { count = long; each = λ key cell lk lc. none (64 * key + cell) (omega arith) }
