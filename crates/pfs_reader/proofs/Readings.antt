-- Readings, the calls that they are, and how far they are in a read set.
use Rattle.std.proofs.Common.{◌≡◌, ℕ, zero, suc, ◌+◌, ◌-◌, ◌<◌, ◌≤◌, Bool, true, false, inl, inr, List, [], ◌∷◌, ◌++◌, length, map, refl, sym, ◌∙◌, ap, subst, arith}
use Rattle.std.specs.Prelude.{Contains, OnErr, Result, Ok, Err, reverse}
use Rattle.std.proofs.lemmas.List.{append_assoc, append-nil, length-map, length-append, map-append, reverse-append}
use Rattle.std.proofs.lemmas.List.Elements.{Contains-append_right}
use Rattle.std.proofs.lemmas.Bool.{cases_lt, false≢true}
use Rattle.pfs_rows.specs.declared.table.Table.{Table}
use Rattle.pfs_rows.specs.declared.table.Reading.{Reading}
use Rattle.pfs_levels.specs.Calls.{Call, Opening, Goes}
use Rattle.pfs_levels.specs.Views.{Store, Same}
use Rattle.pfs_readsets.specs.declared.read_set.ReadSet.{ReadSet}
use Rattle.pfs_readsets.specs.declared.target.Target.{Target}
use Rattle.pfs_readsets.specs.declared.target.Target.TheVariants as targets
use Rattle.pfs_readsets.specs.TablePlaces.{Scope}
use Rattle.pfs_readsets.specs.ReadSets.{IsNext, read_set, target_of, passing, row_test, word_test}
use Rattle.pfs_readsets.specs.ReadProgress.{Reached}
use Rattle.pfs_readsets.proofs.Members.{rows_are, words_are}
use Rattle.pfs_readsets.proofs.TestedNumbers.{passing_none, passing_no, passing_yes, passing_split}
use Rattle.pfs_reader.specs.Readings.{call_of, calls_of, IsThere, IsFront}

-- the next target is one of the read set's
has_next : (scope : Scope) (table : Table) (readings : List Reading) (target : Target) → IsNext scope table readings target → Contains (read_set scope table readings) target
has_next scope table readings target (rest, is) =
    subst (λ (l : List Target). Contains l target) (sym is) (Contains-append_right (map target_of readings) (target ∷ rest) target (0, omega arith, refl))

above_zero : (scope : Scope) (table : Table) (readings : List Reading) (row : ℕ) → row_test scope table readings row ≡ true → 0 < row
above_zero scope table readings zero is = absurd (false≢true is)
above_zero scope table readings (suc row) is = omega arith

pub there : (scope : Scope) (table : Table) (readings : List Reading) (target : Target) → IsNext scope table readings target → IsThere target
there scope table readings (targets.Row row) next =
    let h = (rows_are scope table readings row).0 (has_next scope table readings (targets.Row row) next) in
    (above_zero scope table readings row h.1, h.0)
there scope table readings (targets.Word word) next = ((words_are scope table readings word).0 (has_next scope table readings (targets.Word word) next)).0

-- how many targets there are at most
few : (test : ℕ → Bool) (from count : ℕ) → length (passing test from count) ≤ count
few test from zero = let e = ap length (passing_none test from) in omega (arith, e)
few test from (suc count) = on test from count (few test (from + 1) count) (test from) refl
  where
    on : (test : ℕ → Bool) (from count : ℕ) → length (passing test (from + 1) count) ≤ count → (b : Bool) → test from ≡ b → length (passing test from (suc count)) ≤ suc count
    on test from count low false is = let e = ap length (passing_no test from count is) in omega (arith, e, low)
    on test from count low true is = let e = ap length (passing_yes test from count is) in omega (arith, e, low)

length_of : (p w : ℕ → Bool) (rows words : ℕ) → length (map targets.Row (passing p 0 rows) ++ map targets.Word (passing w 0 words)) ≤ rows + words
length_of p w rows words =
    let e = length-append (map targets.Row (passing p 0 rows)) (map targets.Word (passing w 0 words)) in
    let a = length-map (passing p 0 rows) targets.Row in
    let b = length-map (passing w 0 words) targets.Word in
    omega (arith, e, a, b, few p 0 rows, few w 0 words)

pub more_left : (scope : Scope) (table : Table) (readings : List Reading) (target : Target) → IsNext scope table readings target → length readings < 14402
more_left scope table readings target (rest, is) =
    let e = ap length is in
    let a = length-append (map target_of readings) (target ∷ rest) in
    let b = length-map readings target_of in
    let c = length_of (row_test scope table readings) (word_test scope table readings) 14242 160 in
    omega (arith, e, a, b, c)

-- a front of all that pass
front_rows : (p w : ℕ → Bool) (row rows words : ℕ) → row ≤ rows
    → map targets.Row (passing p 0 rows) ++ map targets.Word (passing w 0 words)
    ≡ map targets.Row (passing p 0 row) ++ (map targets.Row (passing p (0 + row) (rows - row)) ++ map targets.Word (passing w 0 words))
front_rows p w row rows words low =
    let n : rows ≡ row + (rows - row) = omega arith in
    ap (λ k. map targets.Row (passing p 0 k) ++ map targets.Word (passing w 0 words)) n
    ∙ (ap (λ l. map targets.Row l ++ map targets.Word (passing w 0 words)) (passing_split p 0 row (rows - row))
    ∙ (ap (λ l. l ++ map targets.Word (passing w 0 words)) (map-append targets.Row (passing p 0 row) (passing p (0 + row) (rows - row)))
    ∙ append_assoc (map targets.Row (passing p 0 row)) (map targets.Row (passing p (0 + row) (rows - row))) (map targets.Word (passing w 0 words))))

front_words : (p w : ℕ → Bool) (rows word words : ℕ) → word ≤ words
    → map targets.Row (passing p 0 rows) ++ map targets.Word (passing w 0 words)
    ≡ (map targets.Row (passing p 0 rows) ++ map targets.Word (passing w 0 word)) ++ map targets.Word (passing w (0 + word) (words - word))
front_words p w rows word words low =
    let n : words ≡ word + (words - word) = omega arith in
    ap (λ k. map targets.Row (passing p 0 rows) ++ map targets.Word (passing w 0 k)) n
    ∙ (ap (λ l. map targets.Row (passing p 0 rows) ++ map targets.Word l) (passing_split w 0 word (words - word))
    ∙ (ap (λ l. map targets.Row (passing p 0 rows) ++ l) (map-append targets.Word (passing w 0 word) (passing w (0 + word) (words - word)))
    ∙ sym (append_assoc (map targets.Row (passing p 0 rows)) (map targets.Word (passing w 0 word)) (map targets.Word (passing w (0 + word) (words - word))))))

no_words : (p w : ℕ → Bool) (row word : ℕ) → word ≡ 0 → map targets.Row (passing p 0 row) ++ map targets.Word (passing w 0 word) ≡ map targets.Row (passing p 0 row)
no_words p w row word none =
    ap (λ k. map targets.Row (passing p 0 row) ++ map targets.Word (passing w 0 k)) none
    ∙ (ap (λ l. map targets.Row (passing p 0 row) ++ map targets.Word l) (passing_none w 0) ∙ append-nil (map targets.Row (passing p 0 row)))

pub front : (set : ReadSet) (scope : Scope) (table : Table) (readings : List Reading) → Reached set scope table readings → IsFront scope table readings
front set scope table readings r =
    let p = row_test scope table readings in
    let w = word_test scope table readings in
    elim (cases_lt 0 set.word) [
      | inl some ↦ (
        map targets.Word (passing w (0 + set.word) (160 - set.word)),
        front_words p w 14242 set.word 160 r.word
            ∙ ap (λ l. l ++ map targets.Word (passing w (0 + set.word) (160 - set.word)))
            (sym (r.made ∙ ap (λ k. map targets.Row (passing p 0 k) ++ map targets.Word (passing w 0 set.word)) (r.order some))),
      )
      | inr none ↦ (
        map targets.Row (passing p (0 + set.row) (14242 - set.row)) ++ map targets.Word (passing w 0 160),
        front_rows p w set.row 14242 160 r.row
            ∙ ap (λ l. l ++ (map targets.Row (passing p (0 + set.row) (14242 - set.row)) ++ map targets.Word (passing w 0 160)))
            (sym (r.made ∙ no_words p w set.row set.word (omega (arith, none)))),
      )
    ]

-- calls
pub calls_then : (xs ys : List Reading) → calls_of (xs ++ ys) ≡ calls_of ys ++ calls_of xs
calls_then xs ys = ap reverse (map-append call_of xs ys) ∙ reverse-append (map call_of xs) (map call_of ys)

pub goes_none : (was : Opening → List Call → Type 0) → Goes was was (calls_of [])
goes_none was = λ start calls h. h

pub goes_then : (xs ys : List Reading) (was mid now : Opening → List Call → Type 0) → Goes was mid (calls_of xs) → Goes mid now (calls_of ys) → Goes was now (calls_of (xs ++ ys))
goes_then xs ys was mid now p q = λ start calls h.
    subst (λ l. now start (l ++ calls)) (sym (calls_then xs ys)) (subst (now start) (sym (append_assoc (calls_of ys) (calls_of xs) calls)) (q start (calls_of xs ++ calls) (p start calls h)))

-- what stays
pub kept_all : (s : Store) → Same s s
kept_all s = record { left = refl; draws = refl; hand = λ row. refl; words = refl; name = refl }

pub kept_then : (a b c : Store) → Same a b → Same b c → Same a c
kept_then a b c p q = record {
  left = q.left ∙ p.left;
  draws = q.draws ∙ p.draws;
  hand = λ row. q.hand row ∙ p.hand row;
  words = q.words ∙ p.words;
  name = q.name ∙ p.name;
}

-- what holds anyway holds where it is asked for
pub on_err : {A E : Type 0} (r : Result A E) {X : Type 0} → X → OnErr r X
on_err (Ok v) x = tt
on_err (Err e) x = x
