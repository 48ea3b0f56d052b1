-- What a read set has, and in which order.
use Rattle.std.proofs.Common.{◌≡◌, ◌≢◌, ℕ, zero, suc, ◌+◌, ◌<◌, ◌≤◌, Bool, true, false, List, [], ◌∷◌, ◌++◌, map, ◌⊎◌, inl, inr, refl, sym, ◌∙◌, ap, subst, arith}
use Rattle.std.specs.Prelude.{◌↔◌, All, AllPairs, Contains}
use Rattle.std.proofs.lemmas.List.Elements.{All-cons, All-append, All-map, All-weaker, Contains-append_left, Contains-append_right}
use Rattle.std.proofs.lemmas.List.{length-map, get_or-map}
use Rattle.std.proofs.lemmas.Bool.{cases_lt, false≢true}
use Rattle.std.proofs.lemmas.List.Kept.{AllPairs-cons}
use Rattle.pfs_rows.specs.declared.table.Table.{Table}
use Rattle.pfs_rows.specs.declared.table.Reading.{Reading}
use Rattle.pfs_readsets.specs.declared.target.Target.{Target}
use Rattle.pfs_readsets.specs.declared.target.Target.TheVariants.{Row, Word}
use Rattle.pfs_readsets.specs.TablePlaces.{Scope}
use Rattle.pfs_readsets.specs.ReadSets.{passing, read_set, row_test, word_test}
use Rattle.pfs_readsets.proofs.TestedNumbers.{passing_none, passing_no, passing_yes}

-- what passes is among the numbers
all_within : (P : ℕ → Type 0) (test : ℕ → Bool) (from count : ℕ) → ((k : ℕ) → from ≤ k → k < from + count → test k ≡ true → P k) → All P (passing test from count)
all_within P test from zero each = subst (All P) (sym (passing_none test from)) (λ k d low. absurd (omega arith))
all_within P test from (suc count) each =
    on P test from count each (all_within P test (from + 1) count (λ k low high. each k (omega arith) (omega arith))) (test from) refl
  where
    on : (P : ℕ → Type 0) (test : ℕ → Bool) (from count : ℕ) → ((k : ℕ) → from ≤ k → k < from + suc count → test k ≡ true → P k)
        → All P (passing test (from + 1) count) → (b : Bool) → test from ≡ b → All P (passing test from (suc count))
    on P test from count each behind false is = subst (All P) (sym (passing_no test from count is)) behind
    on P test from count each behind true is =
        subst (All P) (sym (passing_yes test from count is)) (All-cons P from (passing test (from + 1) count) (each from (omega arith) (omega arith) is) behind)

ascends : (test : ℕ → Bool) (from count : ℕ) → AllPairs (λ a b. a < b) (passing test from count)
ascends test from zero = subst (AllPairs (λ a b. a < b)) (sym (passing_none test from)) (λ i j d low high. absurd (omega arith))
ascends test from (suc count) = on test from count (ascends test (from + 1) count) (test from) refl
  where
    on : (test : ℕ → Bool) (from count : ℕ) → AllPairs (λ a b. a < b) (passing test (from + 1) count) → (b : Bool) → test from ≡ b
        → AllPairs (λ a b. a < b) (passing test from (suc count))
    on test from count behind false is = subst (AllPairs (λ a b. a < b)) (sym (passing_no test from count is)) behind
    on test from count behind true is = subst (AllPairs (λ a b. a < b)) (sym (passing_yes test from count is))
        (AllPairs-cons (λ a b. a < b) from (passing test (from + 1) count) (all_within (λ k. from < k) test (from + 1) count (λ k low high passes. omega arith)) behind)

pub in_order : (scope : Scope) (table : Table) (readings : List Reading) → (rows words : List ℕ)
    × (read_set scope table readings ≡ map Row rows ++ map Word words)
    × AllPairs (λ a b. a < b) rows × AllPairs (λ a b. a < b) words
    × All (λ row. row < 14242) rows × All (λ word. word < 160) words
in_order scope table readings =
    let p = row_test scope table readings in
    let w = word_test scope table readings in (
      passing p 0 14242,
      passing w 0 160,
      refl,
      ascends p 0 14242,
      ascends w 0 160,
      all_within (λ row. row < 14242) p 0 14242 (λ k low high passes. omega arith),
      all_within (λ word. word < 160) w 0 160 (λ k low high passes. omega arith),
    )

-- targets of numbers that ascend, rows before words, differ
abbrev number : Target → ℕ
number (Row row) = row
number (Word word) = word

abbrev is_row : Target → Bool
is_row (Row row) = true
is_row (Word word) = false

later : (x : ℕ) (xs : List ℕ) → AllPairs (λ a b. a < b) (x ∷ xs) → All (λ y. x < y) xs
later x xs up = λ k d low. up 0 (suc k) d (omega arith) (omega arith)

fewer : (x : ℕ) (xs : List ℕ) → AllPairs (λ a b. a < b) (x ∷ xs) → AllPairs (λ a b. a < b) xs
fewer x xs up = λ i j d low high. up (suc i) (suc j) d (omega arith) (omega arith)

words_differ : (words : List ℕ) → AllPairs (λ a b. a < b) words → AllPairs (λ (a b : Target). a ≢ b) (map Word words)
words_differ [] up = λ i j d low high. absurd (omega arith)
words_differ (w ∷ ws) up =
    AllPairs-cons (λ (a b : Target). a ≢ b) (Word w) (map Word ws)
    (All-map (λ (t : Target). Word w ≢ t) Word ws (All-weaker (λ y. w < y) (λ y. Word w ≢ Word y) (λ y past e. let s : w ≡ y = ap number e in omega arith) ws (later w ws up)))
    (words_differ ws (fewer w ws up))

targets_differ : (rows words : List ℕ) → AllPairs (λ a b. a < b) rows → AllPairs (λ a b. a < b) words → AllPairs (λ (a b : Target). a ≢ b) (map Row rows ++ map Word words)
targets_differ [] words up ups = words_differ words ups
targets_differ (r ∷ rs) words up ups =
    AllPairs-cons (λ (a b : Target). a ≢ b) (Row r) (map Row rs ++ map Word words)
    (All-append (λ (t : Target). Row r ≢ t) (map Row rs) (map Word words)
    (All-map (λ (t : Target). Row r ≢ t) Row rs (All-weaker (λ y. r < y) (λ y. Row r ≢ Row y) (λ y past e. let s : r ≡ y = ap number e in omega arith) rs (later r rs up)))
    (All-map (λ (t : Target). Row r ≢ t) Word words (λ k d low e. false≢true (sym (ap is_row e)))))
    (targets_differ rs words (fewer r rs up) ups)

pub once : (scope : Scope) (table : Table) (readings : List Reading) → AllPairs (λ (a b : Target). a ≢ b) (read_set scope table readings)
once scope table readings =
    targets_differ (passing (row_test scope table readings) 0 14242) (passing (word_test scope table readings) 0 160) (ascends (row_test scope table readings) 0 14242)
    (ascends (word_test scope table readings) 0 160)

-- what holds of each element holds of one
of_one : {X : Type 0} (P : X → Type 0) (xs : List X) (x : X) → All P xs → Contains xs x → P x
of_one P xs x all h = subst P h.2 (all h.0 x h.1)

-- what is of a read set
abbrev IsMember : Scope → Table → List Reading → Target → Type 0
IsMember scope table readings (Row row) = (row < 14242) × (row_test scope table readings row ≡ true)
IsMember scope table readings (Word word) = (word < 160) × (word_test scope table readings word ≡ true)

all_members : (scope : Scope) (table : Table) (readings : List Reading) → All (IsMember scope table readings) (read_set scope table readings)
all_members scope table readings =
    let p = row_test scope table readings in
    let w = word_test scope table readings in
    All-append (IsMember scope table readings) (map Row (passing p 0 14242)) (map Word (passing w 0 160))
    (All-map (IsMember scope table readings) Row (passing p 0 14242) (all_within (λ k. (k < 14242) × (p k ≡ true)) p 0 14242 (λ k low high passes. (omega arith, passes))))
    (All-map (IsMember scope table readings) Word (passing w 0 160) (all_within (λ k. (k < 160) × (w k ≡ true)) w 0 160 (λ k low high passes. (omega arith, passes))))

-- a number that passes is among those that pass
has_passing : (test : ℕ → Bool) (from count k : ℕ) → from ≤ k → k < from + count → test k ≡ true → Contains (passing test from count) k
has_passing test from zero k low high is = absurd (omega arith)
has_passing test from (suc count) k low high is =
    on test from count k is (λ later. has_passing test (from + 1) count k later (omega arith) is) (test from) refl (cases_lt from k) low
  where
    on : (test : ℕ → Bool) (from count k : ℕ) → test k ≡ true → (from + 1 ≤ k → Contains (passing test (from + 1) count) k) → (b : Bool) → test from ≡ b
        → (from < k) ⊎ (k ≤ from) → from ≤ k → Contains (passing test from (suc count)) k
    on test from count k is behind false here (inl later) low = subst (λ l. Contains l k) (sym (passing_no test from count here)) (behind (omega arith))
    on test from count k is behind false here (inr at) low = let e : k ≡ from = omega arith in absurd (false≢true (sym here ∙ (ap test (sym e) ∙ is)))
    on test from count k is behind true here (inl later) low =
        subst (λ l. Contains l k) (sym (passing_yes test from count here)) (Contains-append_right (from ∷ []) (passing test (from + 1) count) k (behind (omega arith)))
    on test from count k is behind true here (inr at) low =
        let e : from ≡ k = omega arith in
        subst (λ l. Contains l k) (sym (passing_yes test from count here)) (0, omega arith, e)

has_mapped : (f : ℕ → Target) (xs : List ℕ) (x : ℕ) → Contains xs x → Contains (map f xs) (f x)
has_mapped f xs x h = (h.0, subst (λ n. h.0 < n) (sym (length-map xs f)) h.1, get_or-map f xs h.0 x (f x) h.1 ∙ ap f h.2)

pub rows_are : (scope : Scope) (table : Table) (readings : List Reading) (row : ℕ)
    → Contains (read_set scope table readings) (Row row) ↔ ((row < 14242) × (row_test scope table readings row ≡ true))
rows_are scope table readings row = (
  λ h. of_one (IsMember scope table readings) (read_set scope table readings) (Row row) (all_members scope table readings) h,
  λ h. Contains-append_left (map Row (passing (row_test scope table readings) 0 14242)) (map Word (passing (word_test scope table readings) 0 160)) (Row row)
      (has_mapped Row (passing (row_test scope table readings) 0 14242) row (has_passing (row_test scope table readings) 0 14242 row (omega arith) (omega (arith, h.0)) h.1)),
)

pub words_are : (scope : Scope) (table : Table) (readings : List Reading) (word : ℕ)
    → Contains (read_set scope table readings) (Word word) ↔ ((word < 160) × (word_test scope table readings word ≡ true))
words_are scope table readings word = (
  λ h. of_one (IsMember scope table readings) (read_set scope table readings) (Word word) (all_members scope table readings) h,
  λ h. Contains-append_right (map Row (passing (row_test scope table readings) 0 14242)) (map Word (passing (word_test scope table readings) 0 160)) (Word word)
      (has_mapped Word (passing (word_test scope table readings) 0 160) word (has_passing (word_test scope table readings) 0 160 word (omega arith) (omega (arith, h.0)) h.1)),
)
