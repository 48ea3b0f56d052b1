-- What is shown gives each table one list of readings.
use Rattle.std.proofs.Common.{◌≡◌, refl, ℕ, zero, suc, ◌<◌, ◌==◌, nat_le, nat_lt, Bool, true, false, ◌&&◌, ◌||◌, List, [], ◌∷◌, ◌++◌, get_or, length, map, sym, ◌∙◌, ap, subst, arith}
use Rattle.std.specs.Prelude.{All, Contains}
use Rattle.std.proofs.lemmas.Bool.Decides.{nat_tests}
use Rattle.std.proofs.lemmas.Bool.{eqb-true, false≢true}
use Rattle.std.proofs.lemmas.List.Elements.{All-head, All-tail}
use Rattle.pfs_classes.specs.declared.setting.Setting.{Setting}
use Rattle.pfs_finals.specs.Finals.{TableRead}
use Rattle.pfs_readsets.specs.ReadSets.{IsReadSet, found_whole, is_whole, passing, read_set, row_test, shows_whole, target_of, word_test}
use Rattle.pfs_readsets.specs.TablePlaces.{Scope, has_cell, reads_word, scope_of}
use Rattle.pfs_readsets.specs.declared.target.Target.{Target}
use Rattle.pfs_readsets.specs.declared.target.Target.TheVariants.{Row, Word}
use Rattle.pfs_readsets.proofs.EqualReadings.{RowsArePlaces, rows_same}
use Rattle.pfs_readsets.proofs.Members.{rows_are}
use Rattle.pfs_readsets.proofs.TestedNumbers.{passing_same}
use Rattle.pfs_rows.specs.declared.table.Reading.{Reading}
use Rattle.pfs_rows.specs.declared.table.Reading.TheVariants as readings
use Rattle.pfs_rows.specs.declared.table.Table.{Table}
use Rattle.pfs_rows.specs.declared.table.Table.TheVariants as tables
use Rattle.pfs_check_finals.specs.EndTables.{IsReadAs}

-- each is xs it is shown
abbrev AreShown : (Target → Reading) → List Reading → Type 0
AreShown shown rs = All (λ reading. reading ≡ shown (target_of reading)) rs

-- whether a row is shown whole
abbrev whole_at : (Target → Reading) → ℕ → Bool
whole_at shown row = shows_whole row (shown (Row row))

and_parts : (a b : Bool) → (a && b) ≡ true → (a ≡ true) × (b ≡ true)
and_parts true true q = (refl, refl)
and_parts true false q = absurd (false≢true q)
and_parts false b q = absurd (false≢true q)

row_is : (row : ℕ) (reading : Reading) → shows_whole row reading ≡ true → target_of reading ≡ Row row
row_is row (readings.Slot other seen) q = ap Row (eqb-true other row (and_parts (other == row) (found_whole seen) q).0)
row_is row (readings.Word word version flags) q = absurd (false≢true q)

-- what was found whole is among the targets, and is shown so
whole_only : (shown : Target → Reading) (row : ℕ) (rs : List Reading) → AreShown shown rs → is_whole rs row ≡ true
    → Contains (map target_of rs) (Row row) × (whole_at shown row ≡ true)
whole_only shown row [] all q = absurd (false≢true q)
whole_only shown row (r ∷ rs) all q = on (shows_whole row r) refl q (whole_only shown row rs (All-tail (λ reading. reading ≡ shown (target_of reading)) r rs all)) where
  on : (b : Bool) → shows_whole row r ≡ b → (b || is_whole rs row) ≡ true
      → (is_whole rs row ≡ true → Contains (map target_of rs) (Row row) × (whole_at shown row ≡ true)) → Contains (map target_of (r ∷ rs)) (Row row) × (whole_at shown row ≡ true)
  on true e q rest =
      let target : target_of r ≡ Row row = row_is row r e in
      ((0, omega arith, target), ap (shows_whole row) (ap shown (sym target) ∙ sym (All-head (λ reading. reading ≡ shown (target_of reading)) r rs all)) ∙ e)
  on false e q rest =
      let more = rest q in
      ((suc more.0.0, omega (arith, more.0.1), more.0.2), more.1)

whole_there : (shown : Target → Reading) (row : ℕ) (rs : List Reading) → AreShown shown rs → (k : ℕ) → k < length (map target_of rs)
    → get_or (map target_of rs) k (Row row) ≡ Row row → whole_at shown row ≡ true → is_whole rs row ≡ true
whole_there shown row [] all k low at q = absurd (omega (arith, low))
whole_there shown row (r ∷ rs) all zero low at q =
    let here : shows_whole row r ≡ true = ap (shows_whole row) (All-head (λ reading. reading ≡ shown (target_of reading)) r rs all ∙ ap shown at) ∙ q in
    ap (λ z. z || is_whole rs row) here
whole_there shown row (r ∷ rs) all (suc k) low at q =
    let rest : is_whole rs row ≡ true = whole_there shown row rs (All-tail (λ reading. reading ≡ shown (target_of reading)) r rs all) k (omega (arith, low)) at q in
    or_later (shows_whole row r) (is_whole rs row) rest where
      or_later : (a b : Bool) → b ≡ true → (a || b) ≡ true
      or_later true b e = refl
      or_later false b e = e

-- two truths are one where each gives the other
one_truth : (a b : Bool) → (a ≡ true → b ≡ true) → (b ≡ true → a ≡ true) → a ≡ b
one_truth true b f g = sym (f refl)
one_truth false true f g = absurd (false≢true (g refl))
one_truth false false f g = refl

-- so which rows are found whole is told by the table's own test
whole_is : (scope : Scope) (table : Table) (shown : Target → Reading) (rs : List Reading) → IsReadSet scope table rs → AreShown shown rs → (row : ℕ) → row < 14242
    → is_whole rs row ≡ (row_test scope table rs row && whole_at shown row)
whole_is scope table shown rs is all row low = one_truth (is_whole rs row) (row_test scope table rs row && whole_at shown row) there back where
  both : (a b : Bool) → a ≡ true → b ≡ true → (a && b) ≡ true
  both true b p q = q
  both false b p q = absurd (false≢true p)

  there : is_whole rs row ≡ true → (row_test scope table rs row && whole_at shown row) ≡ true
  there q =
      let told = whole_only shown row rs all q in
      let member = (rows_are scope table rs row).0 (subst (λ z. Contains z (Row row)) is told.0) in
      both (row_test scope table rs row) (whole_at shown row) member.1 told.1

  back : (row_test scope table rs row && whole_at shown row) ≡ true → is_whole rs row ≡ true
  back q =
      let parts = and_parts (row_test scope table rs row) (whole_at shown row) q in
      let has : Contains (map target_of rs) (Row row) = subst (λ z. Contains z (Row row)) (sym is) ((rows_are scope table rs row).1 (low, parts.0)) in
      whole_there shown row rs all has.0 has.1 has.2 parts.1

-- two read sets found the same infos whole
same_whole : RowsArePlaces → (scope : Scope) (table : Table) (shown : Target → Reading) (xs ys : List Reading) → IsReadSet scope table xs → IsReadSet scope table ys
    → AreShown shown xs → AreShown shown ys → (most info : ℕ) → info < most → info < 129 → is_whole xs info ≡ is_whole ys info
same_whole places scope table shown xs ys p q all every zero info low few = absurd (omega (arith, low))
same_whole places scope table shown xs ys p q all every (suc most) info low few =
    let tests : row_test scope table xs info ≡ row_test scope table ys info =
    rows_same places table (has_cell scope table) (has_cell scope table) scope.digests (is_whole xs) (is_whole ys) info (omega (arith, few))
    (record { cells = λ cell low. refl; whole = λ one small below. same_whole places scope table shown xs ys p q all every most one (omega (arith, below, low)) small }) in
    whole_is scope table shown xs p all info (omega (arith, few))
    ∙ ap (λ z. z && whole_at shown info) tests
    ∙ sym (whole_is scope table shown ys q every info (omega (arith, few)))

gated : (a b x y : Bool) → (b ≡ true → x ≡ y) → ((a && b) && x) ≡ ((a && b) && y)
gated false b x y h = refl
gated true false x y h = refl
gated true true x y h = h refl

below_33 : (word : ℕ) → nat_lt word 33 ≡ true → word < 129
below_33 word is = let h : word < 33 = grind (arith, nat_tests) in omega arith

words_same : (table : Table) (n : ℕ) (w v : ℕ → Bool) (word : ℕ) → ((info : ℕ) → info < 129 → w info ≡ v info) → reads_word table n w word ≡ reads_word table n v word
words_same tables.SetupInstruments n w v word h = refl
words_same tables.SetupConsumers n w v word h = refl
words_same tables.Threads n w v word h = gated (nat_le 1 word) (nat_lt word 33) (w word) (v word) (λ is. h word (below_33 word is))
words_same _ n w v word h = refl

same_sets : RowsArePlaces → (scope : Scope) (table : Table) (xs ys : List Reading) → ((info : ℕ) → info < 129 → is_whole xs info ≡ is_whole ys info)
    → read_set scope table xs ≡ read_set scope table ys
same_sets places scope table xs ys same =
    let rows : passing (row_test scope table xs) 0 14242 ≡ passing (row_test scope table ys) 0 14242 =
    passing_same (row_test scope table xs) (row_test scope table ys) 0 14242 (λ k low high.
    rows_same places table (has_cell scope table) (has_cell scope table) scope.digests (is_whole xs) (is_whole ys) k (omega (arith, high))
    (record { cells = λ cell few. refl; whole = λ info few low. same info few })) in
    let words : passing (word_test scope table xs) 0 160 ≡ passing (word_test scope table ys) 0 160 =
    passing_same (word_test scope table xs) (word_test scope table ys) 0 160 (λ k low high. words_same table (length scope.classes) (is_whole xs) (is_whole ys) k same) in
    ap (λ z. map Row z ++ map Word (passing (word_test scope table xs) 0 160)) rows ∙ ap (λ z. map Row (passing (row_test scope table ys) 0 14242) ++ map Word z) words

-- readings are what is shown of their targets
by_targets : (shown : Target → Reading) (rs : List Reading) → AreShown shown rs → rs ≡ map shown (map target_of rs)
by_targets shown [] all = refl
by_targets shown (r ∷ rs) all =
    ap (λ z. z ∷ rs) (All-head (λ reading. reading ≡ shown (target_of reading)) r rs all)
    ∙ ap (λ z. shown (target_of r) ∷ z) (by_targets shown rs (All-tail (λ reading. reading ≡ shown (target_of reading)) r rs all))

one_reading : RowsArePlaces → (scope : Scope) (table : Table) (shown : Target → Reading) (xs ys : List Reading) → IsReadSet scope table xs → IsReadSet scope table ys
    → AreShown shown xs → AreShown shown ys → xs ≡ ys
one_reading places scope table shown xs ys p q all every =
    by_targets shown xs all
    ∙ ap (map shown) (p ∙ same_sets places scope table xs ys (λ info few. same_whole places scope table shown xs ys p q all every 129 info few few) ∙ sym q)
    ∙ sym (by_targets shown ys every)

-- so tables of the same order are read in one way
pub one_reads : RowsArePlaces → (setting : Setting) (shown : Target → Reading) (xs ys : List TableRead)
    → map (λ (read : TableRead). read.table) xs ≡ map (λ (read : TableRead). read.table) ys → All (IsReadAs setting shown) xs → All (IsReadAs setting shown) ys → xs ≡ ys
one_reads places setting shown [] [] e all every = refl
one_reads places setting shown [] (b ∷ ys) e all every = absurd (cc)
one_reads places setting shown (a ∷ xs) [] e all every = absurd (cc)
one_reads places setting shown (a ∷ xs) (b ∷ ys) e all every =
    let first = All-head (IsReadAs setting shown) a xs all in
    let other = All-head (IsReadAs setting shown) b ys every in
    let table : a.table ≡ b.table = cons_head a.table b.table (map (λ (read : TableRead). read.table) xs) (map (λ (read : TableRead). read.table) ys) e in
    let rest : map (λ (read : TableRead). read.table) xs ≡ map (λ (read : TableRead). read.table) ys = cons_tail a.table b.table (map (λ (read : TableRead). read.table) xs) (map (λ (read : TableRead). read.table) ys) e in
    let same : a.readings ≡ b.readings =
    one_reading places (scope_of setting) b.table shown a.readings b.readings (subst (λ z. IsReadSet (scope_of setting) z a.readings) table first.whole) other.whole first.each other.each in
    ap (λ (z : TableRead). z ∷ xs) (one_read a b table same)
    ∙ ap (λ z. b ∷ z) (one_reads places setting shown xs ys rest (All-tail (IsReadAs setting shown) a xs all) (All-tail (IsReadAs setting shown) b ys every)) where
      cons_head : (x y : Table) (xs ys : List Table) → x ∷ xs ≡ y ∷ ys → x ≡ y
      cons_head x y xs ys e = cc

      cons_tail : (x y : Table) (xs ys : List Table) → x ∷ xs ≡ y ∷ ys → xs ≡ ys
      cons_tail x y xs ys e = cc

      one_read : (x y : TableRead) → x.table ≡ y.table → x.readings ≡ y.readings → x ≡ y
      one_read x y p q = λ i. record { table = p i; readings = q i }
