-- What a table that was read as a whole found in its rows.
use Rattle.std.proofs.Common.{◌≡◌, ℕ, zero, suc, ◌+◌, ◌<◌, ◌≤◌, ◌==◌, ◌&&◌, ◌||◌, Bool, true, false, cond, List, [], ◌∷◌, ◌++◌, map, Option, Some, None, refl, sym, ap, subst, ◌∙◌, arith, ne_eqb, append-nil}
use Rattle.std.specs.Prelude.{All, find, reverse, option_and_then}
use Rattle.std.specs.List.{filter_map, list_any}
use Rattle.std.proofs.lemmas.List.{reverse-append, map-append}
use Rattle.std.proofs.lemmas.List.Elements.{All-nil, All-cons, All-head, All-tail, filter_map-append}
use Rattle.std.proofs.lemmas.List.Folds.{list_any-append}
use Rattle.std.proofs.lemmas.Bool.{eqb-true}
use Rattle.pfs_lemmas.proofs.Bools.{or_false}
use Rattle.pfs_readsets.specs.TablePlaces.{Scope}
use Rattle.pfs_readsets.specs.ReadSets.{IsReadSet, target_of, found_whole, shows_whole, is_whole, passing, row_test, word_test}
use Rattle.pfs_readsets.specs.declared.target.Target.{Target}
use Rattle.pfs_readsets.specs.declared.target.Target.TheVariants as targets
use Rattle.pfs_readsets.proofs.TestedNumbers.{passing_none, passing_no, passing_yes}
use Rattle.pfs_rows.specs.declared.table.Reading.{Reading}
use Rattle.pfs_rows.specs.declared.table.Reading.TheVariants as readings
use Rattle.pfs_rows.specs.declared.table.Seen.{Seen}
use Rattle.pfs_rows.specs.declared.table.Table.{Table}
use Rattle.pfs_summaries.specs.FoundContents.{whole_of, is_reading_of, content_in, content_at}

-- ---- the last reading of a row

find_first : {X : Type 0} (p : X → Bool) (xs ys : List X) (y : X) → find p xs ≡ Some y → find p (xs ++ ys) ≡ Some y
find_first p [] ys y h = absurd (cc)
find_first {X} p (x ∷ xs) ys y h = at (p x) refl (find_first p xs ys y) where
  at : (b : Bool) → p x ≡ b → (find p xs ≡ Some y → find p (xs ++ ys) ≡ Some y) → find p (x ∷ xs ++ ys) ≡ Some y
  at true q ih = ap (λ b. cond b (Some x) (find p (xs ++ ys))) q ∙ (ap (λ b. cond b (Some x) (find p xs)) (sym q) ∙ h)
  at false q ih = ap (λ b. cond b (Some x) (find p (xs ++ ys))) q ∙ ih (ap (λ b. cond b (Some x) (find p xs)) (sym q) ∙ h)

find_next : {X : Type 0} (p : X → Bool) (xs ys : List X) → find p xs ≡ None → find p (xs ++ ys) ≡ find p ys
find_next p [] ys h = refl
find_next {X} p (x ∷ xs) ys h = at (p x) refl (find_next p xs ys) where
  at : (b : Bool) → p x ≡ b → (find p xs ≡ None → find p (xs ++ ys) ≡ find p ys) → find p (x ∷ xs ++ ys) ≡ find p ys
  at true q ih = absurd (let w : ◌≡◌ {A = Option X} (Some x) None = ap (λ b. cond b (Some x) (find p xs)) (sym q) ∙ h in cc)
  at false q ih = ap (λ b. cond b (Some x) (find p (xs ++ ys))) q ∙ ih (ap (λ b. cond b (Some x) (find p xs)) (sym q) ∙ h)

-- what is found from behind
record IsLast (row : ℕ) (content : Option (List ℕ)) (readings : List Reading) : Type 0 where
  some : list_any (is_reading_of row) readings ≡ true → (r : Reading) × (find (is_reading_of row) (reverse readings) ≡ Some r) × (content_in r ≡ content)
  none : list_any (is_reading_of row) readings ≡ false → find (is_reading_of row) (reverse readings) ≡ None

last_is : (row : ℕ) (content : Option (List ℕ)) (rs : List Reading) → All (λ r. is_reading_of row r ≡ true → content_in r ≡ content) rs → IsLast row content rs
last_is row content [] each = record {
  some = λ h. absurd (cc);
  none = λ h. refl;
}
last_is row content (r ∷ rs) each = by (last_is row content rs (All-tail (λ r. is_reading_of row r ≡ true → content_in r ≡ content) r rs each)) where
  p : Reading → Bool
  p = is_reading_of row

  own : p r ≡ true → content_in r ≡ content
  own = All-head (λ r. is_reading_of row r ≡ true → content_in r ≡ content) r rs each

  turned : reverse (r ∷ rs) ≡ reverse rs ++ r ∷ []
  turned = reverse-append (r ∷ []) rs

  by : IsLast row content rs → IsLast row content (r ∷ rs)
  by before = on (list_any p rs) refl where
    on : (b : Bool) → list_any p rs ≡ b → IsLast row content (r ∷ rs)
    on true q =
        let s : (r : Reading) × (find p (reverse rs) ≡ Some r) × (content_in r ≡ content) = before.some q in
        record {
          some = λ h. (s.0, ap (find p) turned ∙ find_first p (reverse rs) (r ∷ []) s.0 s.1, s.2);
          none = λ h. absurd (let w : true ≡ false = sym (or_true (p r)) ∙ (ap (λ z. p r || z) (sym q) ∙ h) in cc);
        } where
          or_true : (b : Bool) → (b || true) ≡ true
          or_true true = refl
          or_true false = refl
    on false q = here (p r) refl where
      n : find p (reverse (r ∷ rs)) ≡ find p (r ∷ [])
      n = ap (find p) turned ∙ find_next p (reverse rs) (r ∷ []) (before.none q)

      here : (b : Bool) → p r ≡ b → IsLast row content (r ∷ rs)
      here true e = record {
        some = λ h. (r, n ∙ ap (λ b. cond b (Some r) None) e, own e);
        none = λ h. absurd (let w : true ≡ false = sym (ap (λ z. z || list_any p rs) e) ∙ h in cc);
      }
      here false e = record {
        some = λ h. absurd (let w : true ≡ false = sym h ∙ (ap (λ z. z || list_any p rs) e ∙ q) in cc);
        none = λ h. n ∙ ap (λ b. cond b (Some r) None) e;
      }

last_content : (row : ℕ) (content : Option (List ℕ)) (rs : List Reading) (b : Bool) → IsLast row content rs → list_any (is_reading_of row) rs ≡ b → content_at rs row ≡ cond b content None
last_content row content rs true last h = let s : (r : Reading) × (find (is_reading_of row) (reverse rs) ≡ Some r) × (content_in r ≡ content) = last.some h in ap (option_and_then content_in) s.1 ∙ s.2
last_content row content rs false last h = ap (option_and_then content_in) (last.none h)

-- ---- a table that was read

-- what is read of a row and a word
abbrev pub shows : (ℕ → Seen) → (ℕ → ℕ) → (ℕ → ℕ) → Target → Reading
shows seen versions flags (targets.Row row) = readings.Slot row (seen row)
shows seen versions flags (targets.Word word) = readings.Word word (versions word) (flags word)

-- a table was read as a whole, and each reading is what its row or word shows
pub record IsShown (seen : ℕ → Seen) (versions flags : ℕ → ℕ) (scope : Scope) (table : Table) (rs : List Reading) : Type 0 where
  pub whole : IsReadSet scope table rs
  pub shown : All (λ r. r ≡ shows seen versions flags (target_of r)) rs

module _ (seen : ℕ → Seen) (versions flags : ℕ → ℕ) (scope : Scope) (table : Table) (found : List Reading) (is : IsShown seen versions flags scope table found) where
  abbrev show : Target → Reading
  show target = shows seen versions flags target

  abbrev test : ℕ → Bool
  test row = row_test scope table found row

  abbrev words : List ℕ
  words = passing (word_test scope table found) 0 160

  shown_back : (rs : List Reading) → All (λ r. r ≡ show (target_of r)) rs → rs ≡ map show (map target_of rs)
  shown_back [] each = refl
  shown_back (r ∷ rs) each =
      ap (λ (z : Reading). z ∷ rs) (All-head (λ r. r ≡ show (target_of r)) r rs each)
      ∙ ap (λ (z : List Reading). show (target_of r) ∷ z) (shown_back rs (All-tail (λ r. r ≡ show (target_of r)) r rs each))

  -- its readings are those of its rows and words
  pub readings_are : found ≡ map show (map targets.Row (passing test 0 14242)) ++ map show (map targets.Word words)
  readings_are =
      shown_back found is.shown
      ∙ (ap (map show) is.whole ∙ map-append show (map targets.Row (passing test 0 14242)) (map targets.Word words))

  -- no row is read twice
  any_below : (p : ℕ → Bool) (row from count : ℕ) (q : Reading → Bool) → ((other : ℕ) → q (show (targets.Row other)) ≡ ((other == row) && p other)) → row < from → list_any q (map show (map targets.Row (passing test from count))) ≡ false
  any_below p row from zero q is_q low = ap (λ l. list_any q (map show (map targets.Row l))) (passing_none test from)
  any_below p row from (suc count) q is_q low = on (test from) refl (any_below p row (from + 1) count q is_q (omega (arith, low))) where
    apart : (from == row) ≡ false
    apart = ne_eqb from row (λ z. absurd (omega (arith, z, low)))

    on : (b : Bool) → test from ≡ b → list_any q (map show (map targets.Row (passing test (from + 1) count))) ≡ false → list_any q (map show (map targets.Row (passing test from (suc count)))) ≡ false
    on false e back = ap (λ l. list_any q (map show (map targets.Row l))) (passing_no test from count e) ∙ back
    on true e back =
        ap (λ l. list_any q (map show (map targets.Row l))) (passing_yes test from count e)
        ∙ (ap (λ z. z || list_any q (map show (map targets.Row (passing test (from + 1) count)))) (is_q from ∙ ap (λ z. z && p from) apart) ∙ back)

  any_here : (p : ℕ → Bool) (row from count : ℕ) (q : Reading → Bool) → ((other : ℕ) → q (show (targets.Row other)) ≡ ((other == row) && p other)) → from ≤ row → row < from + count
      → list_any q (map show (map targets.Row (passing test from count))) ≡ (test row && p row)
  any_here p row from zero q is_q low high = absurd (omega (arith, low, high))
  any_here p row from (suc count) q is_q low high =
      at (from == row) refl (λ l. any_here p row (from + 1) count q is_q (omega (arith, l)) (omega (arith, high))) (λ l. any_below p row (from + 1) count q is_q (omega (arith, l))) where
        rest : List Reading
        rest = map show (map targets.Row (passing test (from + 1) count))

        past : (a b : ℕ) → (a == b) ≡ false → a ≤ b → a < b
        past a b h l = grind (arith, h, l)

        at : (b : Bool) → (from == row) ≡ b → (from < row → list_any q rest ≡ (test row && p row)) → (row ≤ from → list_any q rest ≡ false) → list_any q (map show (map targets.Row (passing test from (suc count)))) ≡ (test row && p row)
        at true e later none = on (test from) refl where
          same : from ≡ row
          same = eqb-true from row e

          on : (b : Bool) → test from ≡ b → list_any q (map show (map targets.Row (passing test from (suc count)))) ≡ (test row && p row)
          on false t =
              ap (λ l. list_any q (map show (map targets.Row l))) (passing_no test from count t)
              ∙ (none (omega (arith, same)) ∙ sym (ap (λ z. z && p row) (ap test (sym same) ∙ t)))
          on true t =
              ap (λ l. list_any q (map show (map targets.Row l))) (passing_yes test from count t)
              ∙ (ap (λ z. q (show (targets.Row from)) || z) (none (omega (arith, same)))
              ∙ (or_false (q (show (targets.Row from)))
              ∙ (is_q from ∙ (ap (λ z. z && p from) e ∙ (ap p same ∙ sym (ap (λ z. z && p row) (ap test (sym same) ∙ t)))))))
        at false e later none = on (test from) refl where
          on : (b : Bool) → test from ≡ b → list_any q (map show (map targets.Row (passing test from (suc count)))) ≡ (test row && p row)
          on false t = ap (λ l. list_any q (map show (map targets.Row l))) (passing_no test from count t) ∙ later (past from row e low)
          on true t =
              ap (λ l. list_any q (map show (map targets.Row l))) (passing_yes test from count t)
              ∙ (ap (λ z. z || list_any q rest) (is_q from ∙ ap (λ z. z && p from) e) ∙ later (past from row e low))

  no_words : (q : Reading → Bool) → ((word : ℕ) → q (show (targets.Word word)) ≡ false) → (ws : List ℕ) → list_any q (map show (map targets.Word ws)) ≡ false
  no_words q none [] = refl
  no_words q none (word ∷ ws) = ap (λ z. z || list_any q (map show (map targets.Word ws))) (none word) ∙ no_words q none ws

  any_row : (p : ℕ → Bool) (row : ℕ) (q : Reading → Bool) → ((other : ℕ) → q (show (targets.Row other)) ≡ ((other == row) && p other)) → ((word : ℕ) → q (show (targets.Word word)) ≡ false) → row < 14242
      → list_any q found ≡ (test row && p row)
  any_row p row q is_q none low =
      ap (list_any q) readings_are
      ∙ (list_any-append q (map show (map targets.Row (passing test 0 14242))) (map show (map targets.Word words))
      ∙ (ap (λ z. list_any q (map show (map targets.Row (passing test 0 14242))) || z) (no_words q none words)
      ∙ (or_false (list_any q (map show (map targets.Row (passing test 0 14242)))) ∙ any_here p row 0 14242 q is_q (omega arith) low)))

  -- a row was found whole where it is read and stands
  pub whole_at : (row : ℕ) → row < 14242 → is_whole found row ≡ (test row && found_whole (seen row))
  whole_at row low = any_row (λ other. found_whole (seen other)) row (shows_whole row) (λ other. refl) (λ word. refl) low

  -- the last reading of a row shows what stands there
  pub content_is : (row : ℕ) → row < 14242 → content_at found row ≡ cond (test row) (whole_of (seen row)) None
  content_is row low =
      last_content row (whole_of (seen row)) found (test row) (last_is row (whole_of (seen row)) found (each found is.shown))
      (any_row (λ other. true) row (is_reading_of row) (λ other. sym (and_true (other == row))) (λ word. refl) low ∙ and_true (test row)) where
        and_true : (b : Bool) → (b && true) ≡ b
        and_true true = refl
        and_true false = refl

        one : (target : Target) → is_reading_of row (show target) ≡ true → content_in (show target) ≡ whole_of (seen row)
        one (targets.Row other) h = ap (λ r. whole_of (seen r)) (eqb-true other row h)
        one (targets.Word word) h = absurd (cc)

        each : (rs : List Reading) → All (λ r. r ≡ show (target_of r)) rs → All (λ r. is_reading_of row r ≡ true → content_in r ≡ whole_of (seen row)) rs
        each [] h = All-nil (λ r. is_reading_of row r ≡ true → content_in r ≡ whole_of (seen row))
        each (r ∷ rs) h =
            let e : r ≡ show (target_of r) = All-head (λ r. r ≡ show (target_of r)) r rs h in
            All-cons (λ r. is_reading_of row r ≡ true → content_in r ≡ whole_of (seen row)) r rs (subst (λ z. is_reading_of row z ≡ true → content_in z ≡ whole_of (seen row)) (sym e) (one (target_of r)))
            (each rs (All-tail (λ r. r ≡ show (target_of r)) r rs h))

  words_give_nothing : {X : Type 0} (g : Reading → Option X) → ((word : ℕ) → g (show (targets.Word word)) ≡ None) → (ws : List ℕ) → filter_map g (map show (map targets.Word ws)) ≡ []
  words_give_nothing g none [] = refl
  words_give_nothing g none (word ∷ ws) = rw (none word) (words_give_nothing g none ws)

  row_targets : (rows : List ℕ) → map show (map targets.Row rows) ≡ map (λ row. show (targets.Row row)) rows
  row_targets [] = refl
  row_targets (row ∷ rows) = ap (λ (z : List Reading). show (targets.Row row) ∷ z) (row_targets rows)

  -- what is found in its rows alone
  pub of_rows : {X : Type 0} (g : Reading → Option X) → ((word : ℕ) → g (show (targets.Word word)) ≡ None) → filter_map g found ≡ filter_map g (map (λ row. show (targets.Row row)) (passing test 0 14242))
  of_rows {X} g none =
      ap (filter_map g) readings_are
      ∙ (filter_map-append g (map show (map targets.Row (passing test 0 14242))) (map show (map targets.Word words))
      ∙ (ap (λ (z : List X). filter_map g (map show (map targets.Row (passing test 0 14242))) ++ z) (words_give_nothing g none words)
      ∙ (append-nil (filter_map g (map show (map targets.Row (passing test 0 14242)))) ∙ ap (filter_map g) (row_targets (passing test 0 14242)))))
