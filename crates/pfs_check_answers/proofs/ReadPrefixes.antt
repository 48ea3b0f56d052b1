-- The first readings of a read set say what comes next, and can be completed to one.
use Rattle.std.proofs.Common.{◌≡◌, refl, ℕ, zero, suc, ◌+◌, ◌-◌, ◌<◌, ◌≤◌, ◌==◌, Bool, true, false, ◌&&◌, ◌||◌, List, [], ◌∷◌, ◌++◌, map, sym, ◌∙◌, ap, arith, length}
use Rattle.std.specs.List.{list_any}
use Rattle.std.proofs.lemmas.Bool.{false≢true}
use Rattle.std.proofs.lemmas.Bool.Decides.{nat_tests}
use Rattle.std.proofs.lemmas.List.{append-nil, append_assoc, append_cancel_left, map-append}
use Rattle.std.proofs.lemmas.List.Folds.{list_any-append}
use Rattle.pfs_readsets.specs.ReadSets.{IsNext, IsReadSet, found_whole, is_whole, passing, read_set, reads_row, row_test, shows_whole, target_of, word_test}
use Rattle.pfs_readsets.specs.TablePlaces.{Scope, has_cell, reads_word}
use Rattle.pfs_readsets.specs.declared.target.Target.{Target}
use Rattle.pfs_readsets.specs.declared.target.Target.TheVariants.{Row, Word}
use Rattle.pfs_readsets.proofs.EqualReadings.{RowsArePlaces, rows_same}
use Rattle.pfs_readsets.proofs.TestedNumbers.{passing_no, passing_none, passing_same, passing_split, passing_yes}
use Rattle.pfs_rows.specs.declared.table.Reading.{Reading}
use Rattle.pfs_rows.specs.declared.table.Reading.TheVariants as readings
use Rattle.pfs_rows.specs.declared.table.Seen.TheVariants.{Free}
use Rattle.pfs_rows.specs.declared.table.Table.{Table}

-- ---- what is read goes by which rows were found whole, and by nothing else

pub same_set : (scope : Scope) (table : Table) (xs ys : List Reading) → ((row : ℕ) → is_whole xs row ≡ is_whole ys row)
    → read_set scope table xs ≡ read_set scope table ys
same_set scope table xs ys same = ap (set_by scope table) (λ i row. same row i) where
  set_by : Scope → Table → (ℕ → Bool) → List Target
  set_by scope table whole =
      map Row (passing (reads_row table (has_cell scope table) scope.digests whole) 0 14242) ++ map Word (passing (reads_word table (length scope.classes) whole) 0 160)

-- ---- the end of a read set without anything whole

abbrev blank : Target → Reading
blank (Row row) = readings.Slot row (Free 0)
blank (Word word) = readings.Word word 0 0

blank_target : (t : Target) → target_of (blank t) ≡ t
blank_target (Row row) = refl
blank_target (Word word) = refl

blank_targets : (ts : List Target) → map target_of (map blank ts) ≡ ts
blank_targets [] = refl
blank_targets (t ∷ ts) = ap (λ z. z ∷ map target_of (map blank ts)) (blank_target t) ∙ ap (λ z. t ∷ z) (blank_targets ts)

and_off : (a : Bool) → (a && false) ≡ false
and_off true = refl
and_off false = refl

or_off : (a : Bool) → (a || false) ≡ a
or_off true = refl
or_off false = refl

blank_off : (row : ℕ) (t : Target) → shows_whole row (blank t) ≡ false
blank_off row (Row other) = and_off (other == row)
blank_off row (Word word) = refl

blanks_off : (row : ℕ) (ts : List Target) → is_whole (map blank ts) row ≡ false
blanks_off row [] = refl
blanks_off row (t ∷ ts) = ap (λ b. b || is_whole (map blank ts) row) (blank_off row t) ∙ blanks_off row ts

-- whoever has come so far can go on to a whole read set
pub completed : (scope : Scope) (table : Table) (xs : List Reading) (t : Target) (next : IsNext scope table xs t)
    → IsReadSet scope table (xs ++ map blank (t ∷ next.0))
completed scope table xs t next =
    let more = map blank (t ∷ next.0) in
    map-append target_of xs more
    ∙ ap (λ z. map target_of xs ++ z) (blank_targets (t ∷ next.0))
    ∙ sym next.1
    ∙ same_set scope table xs (xs ++ more) (λ row. sym (list_any-append (shows_whole row) xs more ∙ ap (λ b. is_whole xs row || b) (blanks_off row (t ∷ next.0)) ∙ or_off (is_whole xs row)))

-- ---- the numbers that pass, up to one of them

record Parted (test : ℕ → Bool) (from count number : ℕ) (before behind : List ℕ) : Type 0 where
  pub low : from ≤ number
  pub high : number < from + count
  pub upto : passing test from (suc number - from) ≡ before ++ number ∷ []

parted : (test : ℕ → Bool) (from count number : ℕ) (before behind : List ℕ) → passing test from count ≡ before ++ number ∷ behind → Parted test from count number before behind
parted test from zero number before behind is = absurd (none before (sym (passing_none test from) ∙ is)) where
  none : (before : List ℕ) → [] ≡ before ++ number ∷ behind → ⊥
  none [] e = cc
  none (b ∷ before) e = cc
parted test from (suc count) number before behind is = on (test from) refl before is (λ before rest. parted test (from + 1) count number before behind rest) where
  on : (b : Bool) → test from ≡ b → (before : List ℕ) → passing test from (suc count) ≡ before ++ number ∷ behind
      → ((before : List ℕ) → passing test (from + 1) count ≡ before ++ number ∷ behind → Parted test (from + 1) count number before behind)
      → Parted test from (suc count) number before behind
  on false fails before is rest =
      let r = rest before (sym (passing_no test from count fails) ∙ is) in
      let n : suc number - from ≡ suc (suc number - (from + 1)) = omega (arith, r.low) in
      record { low = omega (arith, r.low); high = omega (arith, r.high); upto = ap (passing test from) n ∙ (passing_no test from (suc number - (from + 1)) fails ∙ r.upto) }
  on true passes [] is rest =
      let e : from ∷ passing test (from + 1) count ≡ number ∷ behind = sym (passing_yes test from count passes) ∙ is in
      let same : from ≡ number = cc in
      let n : suc number - from ≡ suc zero = omega (arith, same) in
      record {
        low = omega (arith, same);
        high = omega (arith, same);
        upto = ap (passing test from) n ∙ (passing_yes test from zero passes ∙ (ap (λ l. from ∷ l) (passing_none test (from + 1)) ∙ ap (λ k. k ∷ []) same));
      }
  on true passes (b ∷ before) is rest =
      let e : from ∷ passing test (from + 1) count ≡ b ∷ (before ++ number ∷ behind) = sym (passing_yes test from count passes) ∙ is in
      let same : from ≡ b = cc in
      let tail : passing test (from + 1) count ≡ before ++ number ∷ behind = cc in
      let r = rest before tail in
      let n : suc number - from ≡ suc (suc number - (from + 1)) = omega (arith, r.low) in
      record {
        low = omega (arith, r.low);
        high = omega (arith, r.high);
        upto = ap (passing test from) n ∙ (passing_yes test from (suc number - (from + 1)) passes ∙ (ap (λ l. from ∷ l) r.upto ∙ ap (λ k. k ∷ (before ++ number ∷ [])) same));
      }

-- none of those from a number on is below it
none_below : (test : ℕ → Bool) (from count small : ℕ) → small < from → list_any (λ number. number == small) (passing test from count) ≡ false
none_below test from zero small low = ap (list_any (λ number. number == small)) (passing_none test from)
none_below test from (suc count) small low = on (test from) refl (none_below test (from + 1) count small (omega (arith, low))) where
  on : (b : Bool) → test from ≡ b → list_any (λ number. number == small) (passing test (from + 1) count) ≡ false → list_any (λ number. number == small) (passing test from (suc count)) ≡ false
  on false fails rest = ap (list_any (λ number. number == small)) (passing_no test from count fails) ∙ rest
  on true passes rest =
      let differ : (from == small) ≡ false = grind (arith, nat_tests) in
      ap (list_any (λ number. number == small)) (passing_yes test from count passes) ∙ (ap (λ b. b || list_any (λ number. number == small) (passing test (from + 1) count)) differ ∙ rest)

-- ---- where a target stands among rows and words

record RowAt (rows words : List ℕ) (before behind : List Target) (row : ℕ) : Type 0 where
  pub first : List ℕ
  pub last : List ℕ
  pub rows_are : rows ≡ first ++ row ∷ last
  pub before_are : before ≡ map Row first
  pub behind_are : behind ≡ map Row last ++ map Word words

front_is : (one other : ℕ) (rest : List ℕ) → one ≡ other → one ∷ rest ≡ other ∷ rest
front_is one other rest same = ap (λ z. z ∷ rest) same

row_at : (rows words : List ℕ) (before behind : List Target) (row : ℕ) → map Row rows ++ map Word words ≡ before ++ Row row ∷ behind → RowAt rows words before behind row
row_at [] [] [] behind row e = absurd (cc)
row_at [] [] (t ∷ ts) behind row e = absurd (cc)
row_at [] (w ∷ ws) [] behind row e = absurd (cc)
row_at [] (w ∷ ws) (t ∷ ts) behind row e = absurd (no_row ws ts (let f : map Word ws ≡ ts ++ Row row ∷ behind = cc in f)) where
  no_row : (ws : List ℕ) (ts : List Target) → map Word ws ≡ ts ++ Row row ∷ behind → ⊥
  no_row [] [] e = cc
  no_row [] (t ∷ ts) e = cc
  no_row (w ∷ ws) [] e = cc
  no_row (w ∷ ws) (t ∷ ts) e = no_row ws ts (let f : map Word ws ≡ ts ++ Row row ∷ behind = cc in f)
row_at (p ∷ ps) words [] behind row e =
    let same : p ≡ row = cc in
    let rest : map Row ps ++ map Word words ≡ behind = cc in
    record { first = []; last = ps; rows_are = front_is p row ps same; before_are = refl; behind_are = sym rest }
row_at (p ∷ ps) words (t ∷ ts) behind row e =
    let head : Row p ≡ t = cc in
    let r = row_at ps words ts behind row (let f : map Row ps ++ map Word words ≡ ts ++ Row row ∷ behind = cc in f) in
    record {
      first = p ∷ r.first;
      last = r.last;
      rows_are = ap (λ z. p ∷ z) r.rows_are;
      before_are = ap (λ z. z ∷ ts) (sym head) ∙ ap (λ z. Row p ∷ z) r.before_are;
      behind_are = r.behind_are;
    }

-- behind a word stand words alone
words_at : (rows words : List ℕ) (before behind : List Target) (word : ℕ) → map Row rows ++ map Word words ≡ before ++ Word word ∷ behind
    → (last : List ℕ) × (behind ≡ map Word last)
words_at [] [] [] behind word e = absurd (cc)
words_at [] [] (t ∷ ts) behind word e = absurd (cc)
words_at [] (w ∷ ws) [] behind word e = (ws, let f : behind ≡ map Word ws = cc in f)
words_at [] (w ∷ ws) (t ∷ ts) behind word e = words_at [] ws ts behind word (let f : map Word ws ≡ ts ++ Word word ∷ behind = cc in f)
words_at (p ∷ ps) words [] behind word e = absurd (cc)
words_at (p ∷ ps) words (t ∷ ts) behind word e = words_at ps words ts behind word (let f : map Row ps ++ map Word words ≡ ts ++ Word word ∷ behind = cc in f)

-- readings of words, and of other rows, don't find a row whole
word_off : (row word : ℕ) (r : Reading) → target_of r ≡ Word word → shows_whole row r ≡ false
word_off row word (readings.Slot other seen) e = absurd (cc)
word_off row word (readings.Word other version flags) e = refl

row_off : (row other : ℕ) (r : Reading) → target_of r ≡ Row other → (other == row) ≡ false → shows_whole row r ≡ false
row_off row other (readings.Slot number seen) e differ =
    let same : number ≡ other = cc in ap (λ z. (z == row) && found_whole seen) same ∙ ap (λ b. b && found_whole seen) differ
row_off row other (readings.Word number version flags) e differ = absurd (cc)

or_parts : (a b : Bool) → (a || b) ≡ false → (a ≡ false) × (b ≡ false)
or_parts true b e = absurd (false≢true (sym e))
or_parts false b e = (refl, e)

all_off : (row : ℕ) (rs : List Reading) (rows words : List ℕ) → map target_of rs ≡ map Row rows ++ map Word words → list_any (λ number. number == row) rows ≡ false
    → is_whole rs row ≡ false
all_off row [] rows words e none = refl
all_off row (r ∷ rs) [] [] e none = absurd (cc)
all_off row (r ∷ rs) [] (w ∷ ws) e none =
    let head : target_of r ≡ Word w = cc in
    let rest : map target_of rs ≡ map Word ws = cc in
    ap (λ b. b || is_whole rs row) (word_off row w r head) ∙ all_off row rs [] ws rest refl
all_off row (r ∷ rs) (p ∷ ps) words e none =
    let head : target_of r ≡ Row p = cc in
    let rest : map target_of rs ≡ map Row ps ++ map Word words = cc in
    let parts = or_parts (p == row) (list_any (λ number. number == row) ps) none in
    ap (λ b. b || is_whole rs row) (row_off row p r head parts.0) ∙ all_off row rs ps words rest parts.1

-- what is behind doesn't find a row whole
not_behind : (row : ℕ) (ps qs : List Reading) → is_whole qs row ≡ false → is_whole (ps ++ qs) row ≡ is_whole ps row
not_behind row ps qs off = list_any-append (shows_whole row) ps qs ∙ (ap (λ b. is_whole ps row || b) off ∙ or_off (is_whole ps row))

-- ---- the first readings of a read set say what comes next

module _ (places : RowsArePlaces) (scope : Scope) (table : Table) (ps : List Reading) where
  next_row : (row : ℕ) (q : Reading) (qs : List Reading) → target_of q ≡ Row row → IsReadSet scope table (ps ++ q ∷ qs) → IsNext scope table ps (Row row)
  next_row row q qs is whole = (
    map Row (passing g (0 + suc row) (14242 - suc row)) ++ words,
    ap (λ z. map Row z ++ words) (upto ∙ ap (λ z. z ++ passing g (0 + suc row) (14242 - suc row)) (sym agreed ∙ first_are))
        ∙ (ap (λ z. z ++ words) (map-append Row (at.first ++ row ∷ []) (passing g (0 + suc row) (14242 - suc row)) ∙ ap (λ z. z ++ map Row (passing g (0 + suc row) (14242 - suc row))) (map-append Row at.first (row ∷ [])))
        ∙ (append_assoc (map Row at.first ++ Row row ∷ []) (map Row (passing g (0 + suc row) (14242 - suc row))) words
        ∙ (append_assoc (map Row at.first) (Row row ∷ []) (map Row (passing g (0 + suc row) (14242 - suc row)) ++ words)
        ∙ ap (λ z. z ++ Row row ∷ (map Row (passing g (0 + suc row) (14242 - suc row)) ++ words)) (sym at.before_are)))),
  ) where
    f : ℕ → Bool
    f = row_test scope table (ps ++ q ∷ qs)

    g : ℕ → Bool
    g = row_test scope table ps

    words : List Target
    words = map Word (passing (word_test scope table ps) 0 160)

    split : map Row (passing f 0 14242) ++ map Word (passing (word_test scope table (ps ++ q ∷ qs)) 0 160) ≡ map target_of ps ++ Row row ∷ map target_of qs
    split = sym whole ∙ (map-append target_of ps (q ∷ qs) ∙ ap (λ t. map target_of ps ++ t ∷ map target_of qs) is)

    at : RowAt (passing f 0 14242) (passing (word_test scope table (ps ++ q ∷ qs)) 0 160) (map target_of ps) (map target_of qs) row
    at = row_at (passing f 0 14242) (passing (word_test scope table (ps ++ q ∷ qs)) 0 160) (map target_of ps) (map target_of qs) row split

    part : Parted f 0 14242 row at.first at.last
    part = parted f 0 14242 row at.first at.last at.rows_are

    first_are : passing f 0 (suc row) ≡ at.first ++ row ∷ []
    first_are = let none : suc row ≡ suc row - 0 = omega arith in ap (passing f 0) none ∙ part.upto

    all : suc row + (14242 - suc row) ≡ 14242
    all = omega (arith, part.high)

    upto : passing g 0 14242 ≡ passing g 0 (suc row) ++ passing g (0 + suc row) (14242 - suc row)
    upto = ap (passing g 0) (sym all) ∙ passing_split g 0 (suc row) (14242 - suc row)

    last_is : at.last ≡ passing f (0 + suc row) (14242 - suc row)
    last_is =
        append_cancel_left (at.first ++ row ∷ []) at.last (passing f (0 + suc row) (14242 - suc row))
        (append_assoc at.first (row ∷ []) at.last
        ∙ (sym at.rows_are
        ∙ (ap (passing f 0) (sym all)
        ∙ (passing_split f 0 (suc row) (14242 - suc row) ∙ ap (λ z. z ++ passing f (0 + suc row) (14242 - suc row)) first_are))))

    same_whole : (info : ℕ) → info < row → is_whole (ps ++ q ∷ qs) info ≡ is_whole ps info
    same_whole info low =
        let differ : (row == info) ≡ false = grind (arith, nat_tests) in
        let none : list_any (λ number. number == info) at.last ≡ false =
        ap (list_any (λ number. number == info)) last_is ∙ none_below f (0 + suc row) (14242 - suc row) info (omega (arith, low)) in
        not_behind info ps (q ∷ qs)
        (ap (λ b. b || is_whole qs info) (row_off info row q is differ)
        ∙ all_off info qs at.last (passing (word_test scope table (ps ++ q ∷ qs)) 0 160) at.behind_are none)

    agreed : passing f 0 (suc row) ≡ passing g 0 (suc row)
    agreed =
        passing_same f g 0 (suc row) (λ k low high.
        rows_same places table (has_cell scope table) (has_cell scope table) scope.digests (is_whole (ps ++ q ∷ qs)) (is_whole ps) k (omega (arith, high, part.high))
        (record { cells = λ cell few. refl; whole = λ info few less. same_whole info (omega (arith, less, high)) }))

  next_word : (word : ℕ) (q : Reading) (qs : List Reading) → target_of q ≡ Word word → IsReadSet scope table (ps ++ q ∷ qs) → IsNext scope table ps (Word word)
  next_word word q qs is whole = (
    map target_of qs,
    same_set scope table ps (ps ++ q ∷ qs) (λ info. sym (not_behind info ps (q ∷ qs) (off info))) ∙ split,
  ) where
    split : read_set scope table (ps ++ q ∷ qs) ≡ map target_of ps ++ Word word ∷ map target_of qs
    split = sym whole ∙ (map-append target_of ps (q ∷ qs) ∙ ap (λ t. map target_of ps ++ t ∷ map target_of qs) is)

    at : (last : List ℕ) × (map target_of qs ≡ map Word last)
    at =
        words_at (passing (row_test scope table (ps ++ q ∷ qs)) 0 14242) (passing (word_test scope table (ps ++ q ∷ qs)) 0 160) (map target_of ps) (map target_of qs) word split

    off : (info : ℕ) → is_whole (q ∷ qs) info ≡ false
    off info = ap (λ b. b || is_whole qs info) (word_off info word q is) ∙ all_off info qs [] at.0 at.1 refl

  pub next_is : (q : Reading) (qs : List Reading) → IsReadSet scope table (ps ++ q ∷ qs) → IsNext scope table ps (target_of q)
  next_is (readings.Slot row seen) qs whole = next_row row (readings.Slot row seen) qs refl whole
  next_is (readings.Word word version flags) qs whole = next_word word (readings.Word word version flags) qs refl whole

-- ---- there is one next target, and none behind the last

pub next_one : (scope : Scope) (table : Table) (xs : List Reading) (one other : Target) → IsNext scope table xs one → IsNext scope table xs other → one ≡ other
next_one scope table xs one other a b =
    let e : one ∷ a.0 ≡ other ∷ b.0 = append_cancel_left (map target_of xs) (one ∷ a.0) (other ∷ b.0) (sym a.1 ∙ b.1) in cc

pub next_none : (scope : Scope) (table : Table) (xs : List Reading) (one : Target) → IsNext scope table xs one → IsReadSet scope table xs → ⊥
next_none scope table xs one a whole =
    let e : [] ≡ one ∷ a.0 = append_cancel_left (map target_of xs) [] (one ∷ a.0) (append-nil (map target_of xs) ∙ (whole ∙ a.1)) in cc
