-- A plain store behind its calls: the contents of its rows, whether they are free, and its words.
use Rattle.std.proofs.Common.{ℕ, inl, inr, ◌≡◌, ◌<◌, ◌≤◌, ◌+◌, ◌==◌, nat_lt, false, true, Bool, cond, not, ◌&&◌, List, [], ◌∷◌, ◌++◌, refl, ap, sym, ◌∙◌, subst, arith, eq-eqb, ne_eqb}
use Rattle.std.proofs.lemmas.Bool.{cases_eq, le-ltb, lt-ltb}
use Rattle.std.proofs.lemmas.List.{append_assoc}
use Rattle.pfs_lemmas.proofs.Bools.{counted_once_more}
use Rattle.pfs_levels.specs.Calls.{Call, Adds, Rings, Reads, Loads, Draws, Takes, Puts, Frees, Sets, Enters, Leaves, Meets}
use Rattle.pfs_levels.specs.RowWords.{merged}
use Rattle.pfs_levels.specs.JointCalls.{total, one_if, At, changes_of, count, IsCounted, Setting, sets_by, sets_of, word_version, flags_at, AreWordsCounted, opens_free, frees_at}
use Rattle.pfs_levels.specs.PlainStore.{Effect, Merges, Becomes, Renews, Holds, Releases, Op, ops_by, ops_of, slot_by, slot_after, word_after, is_put, puts_in, content_by, content_at}
use Rattle.pfs_levels.specs.declared.answers.Added.TheVariants.{Counted, Held}
use Rattle.pfs_levels.specs.declared.answers.RingPut.TheVariants.{Done, Busy, Late}
use Rattle.pfs_levels.specs.declared.plain.Slot.{Slot}
use Rattle.pfs_levels.proofs.PlainContents.{contents, contents_kept, all_flags_kept}

ops_then : (xs ys : List Call) → ops_of (xs ++ ys) ≡ ops_of xs ++ ops_of ys
unfolding ops_of
ops_then [] ys = refl
ops_then (x ∷ xs) ys = ap (λ z. ops_by x ++ z) (ops_then xs ys) ∙ sym (append_assoc (ops_by x) (ops_of xs) (ops_of ys))

-- what a row holds is the content of its version, whatever is done later
pub still_holds : (later calls : List Call) (row k : ℕ) → k ≡ puts_in (ops_of calls) row → (slot_after (ops_of calls) row).content ≡ content_at (ops_of (later ++ calls)) row k
still_holds later calls row k e =
    contents (ops_of calls) row k (omega (arith, e))
    ∙ (sym (contents_kept (ops_of later) (ops_of calls) row k (omega (arith, e))) ∙ ap (λ z. content_at z row k) (sym (ops_then later calls)))

sets_then : (xs ys : List Call) → sets_of (xs ++ ys) ≡ sets_of xs ++ sets_of ys
unfolding sets_of
sets_then [] ys = refl
sets_then (x ∷ xs) ys = ap (λ z. sets_by x ++ z) (sets_then xs ys) ∙ sym (append_assoc (sets_by x) (sets_of xs) (sets_of ys))

pub flags_stay : (flags : List ℕ) (later calls : List Call) (at k : ℕ) → AreWordsCounted (sets_of (later ++ calls)) → k ≡ word_version (sets_of calls) at
    → flags_at flags (sets_of calls) at k ≡ flags_at flags (sets_of (later ++ calls)) at k
flags_stay flags later calls at k counted e =
    let split = sets_then later calls in
    sym (all_flags_kept flags (sets_of later) (sets_of calls) at k (subst AreWordsCounted split counted) (omega (arith, e))) ∙ ap (λ z. flags_at flags z at k) (sym split)

-- a row is free where it opened so and nothing was done, or was released last
abbrev pub stands_free : List At → ℕ → Bool
stands_free [] row = opens_free row
stands_free (x ∷ xs) row = cond (x.row == row) (not x.puts) (stands_free xs row)

put_row : (b f : Bool) (s t : Slot) → s.allocated ≡ not f → t.allocated ≡ true → (cond b t s).allocated ≡ not (cond b (not true) f)
put_row true f s t h e = e
put_row false f s t h e = h

freed_row : (b f : Bool) (s t : Slot) → s.allocated ≡ not f → t.allocated ≡ false → (cond b t s).allocated ≡ not (cond b (not false) f)
freed_row true f s t h e = e
freed_row false f s t h e = h

held_row : (b : Bool) (s : Slot) → (cond b (slot_by Holds s) s).allocated ≡ s.allocated
held_row true s = refl
held_row false s = refl

no_zero : (row : ℕ) → 0 < row → (0 == row) ≡ false
no_zero row up = ne_eqb 0 row (λ z. absurd (omega (arith, up, z)))

pub allocated_is : (calls : List Call) (row : ℕ) → 0 < row → (slot_after (ops_of calls) row).allocated ≡ not (stands_free (changes_of calls) row)
unfolding slot_after ops_of changes_of
allocated_is [] row up = refl
allocated_is (Adds at amount (Counted r v) ∷ calls) row up = put_row (r == row) (stands_free (changes_of calls) row) (slot_after (ops_of calls) row) (slot_by (Merges amount) (slot_after (ops_of calls) row)) (allocated_is calls row up) refl
allocated_is (Adds at amount (Held r v w) ∷ calls) row up = allocated_is calls row up
allocated_is (Rings at content (Done v) ∷ calls) row up = put_row (at == row) (stands_free (changes_of calls) row) (slot_after (ops_of calls) row) (slot_by (Becomes content) (slot_after (ops_of calls) row)) (allocated_is calls row up) refl
allocated_is (Rings at content (Busy v w) ∷ calls) row up = allocated_is calls row up
allocated_is (Rings at content (Late t v) ∷ calls) row up = allocated_is calls row up
allocated_is (Reads at seen ∷ calls) row up = allocated_is calls row up
allocated_is (Loads at v found ∷ calls) row up = allocated_is calls row up
allocated_is (Draws kind ticket ∷ calls) row up = allocated_is calls row up
allocated_is (Meets versions ∷ calls) row up = allocated_is calls row up
allocated_is (Takes at v found ∷ calls) row up = held_row (at == row) (slot_after (ops_of calls) row) ∙ allocated_is calls row up
allocated_is (Puts at content v ∷ calls) row up = put_row (at == row) (stands_free (changes_of calls) row) (slot_after (ops_of calls) row) (slot_by (Becomes content) (slot_after (ops_of calls) row)) (allocated_is calls row up) refl
allocated_is (Frees at v ∷ calls) row up = freed_row (at == row) (stands_free (changes_of calls) row) (slot_after (ops_of calls) row) (slot_by Releases (slot_after (ops_of calls) row)) (allocated_is calls row up) refl
allocated_is (Sets at to v ∷ calls) row up = allocated_is calls row up
allocated_is (Enters label labels ∷ calls) row up = held_row (0 == row) (slot_after (ops_of calls) row) ∙ allocated_is calls row up
allocated_is (Leaves ∷ calls) row up =
    ap (λ b. (cond b (slot_by Renews (slot_after (ops_of calls) row)) (slot_after (ops_of calls) row)).allocated) (no_zero row up) ∙ allocated_is calls row up

-- of changes that each have the next version, the releases at the last one say so
abbrev one_free : At → ℕ → ℕ → ℕ
one_free x row k = one_if ((x.row == row) && not x.puts && (x.version == k))

abbrev frees_in : List At → ℕ → ℕ → ℕ
frees_in log row k = total (λ x. one_free x row k) log

no_such : (b c d : Bool) → d ≡ false → one_if (b && not c && d) ≡ 0
no_such true true d e = refl
no_such true false d e = ap one_if e
no_such false c d e = refl

no_put : (b c d : Bool) → c ≡ true → one_if (b && not c && d) ≡ 0
no_put true c d e = ap (λ z. one_if (not z && d)) e
no_put false c d e = refl

other_row : (b c d : Bool) → b ≡ false → one_if (b && not c && d) ≡ 0
other_row b c d e = ap (λ z. one_if (z && not c && d)) e

this_free : (b c d : Bool) → b ≡ true → c ≡ false → d ≡ true → one_if (b && not c && d) ≡ 1
this_free b c d e f g = ap (λ z. one_if (z && not c && d)) e ∙ (ap (λ z. one_if (not z && d)) f ∙ ap one_if g)

count_other : (x : At) (xs : List At) (row : ℕ) → (x.row == row) ≡ false → count (x ∷ xs) row ≡ count xs row
unfolding count
count_other x xs row e = ap (λ b. cond (b && x.puts) (count xs row + 1) (count xs row)) e

count_put : (x : At) (xs : List At) (row : ℕ) → (x.row == row) ≡ true → x.puts ≡ true → count (x ∷ xs) row ≡ count xs row + 1
unfolding count
count_put x xs row e f = ap (λ b. cond (b && x.puts) (count xs row + 1) (count xs row)) e ∙ ap (λ b. cond b (count xs row + 1) (count xs row)) f

count_free : (x : At) (xs : List At) (row : ℕ) → x.puts ≡ false → count (x ∷ xs) row ≡ count xs row
unfolding count
count_free x xs row e = ap (λ b. cond ((x.row == row) && b) (count xs row + 1) (count xs row)) e ∙ no_choice2 (x.row == row) (count xs row + 1) (count xs row) where
  no_choice2 : (b : Bool) (m n : ℕ) → cond (b && false) m n ≡ n
  no_choice2 true m n = refl
  no_choice2 false m n = refl

count_low : (x : At) (xs : List At) (row : ℕ) → count xs row ≤ count (x ∷ xs) row
unfolding count
count_low x xs row = counted_once_more (x.row == row) x.puts (count xs row)

-- a release is at the count of its row
freed_at : (x : At) (xs : List At) (row : ℕ) → IsCounted (x ∷ xs) → x.row ≡ row → x.puts ≡ false → x.version ≡ count xs row
freed_at x xs row c e f = c.0 ∙ (ap (λ b. cond b (count xs x.row + 1) (count xs x.row)) f ∙ ap (count xs) e)

both_none : (m n : ℕ) → m ≡ 0 → n ≡ 0 → m + n ≡ 0
both_none m n e f = omega (arith, e, f)

frees_above : (log : List At) (row k : ℕ) → IsCounted log → count log row < k → frees_in log row k ≡ 0
unfolding total
frees_above [] row k c up = refl
frees_above (x ∷ xs) row k c up = both_none (one_free x row k) (frees_in xs row k) (own x.puts refl) (frees_above xs row k c.1 (omega (arith, up, count_low x xs row))) where
  own : (p : Bool) → x.puts ≡ p → one_free x row k ≡ 0
  own true f = no_put (x.row == row) x.puts (x.version == k) f
  own false f = elim (cases_eq x.row row) [
    | inl e ↦ no_such (x.row == row) x.puts (x.version == k) (ne_eqb x.version k (λ z. absurd (omega (arith, z, freed_at x xs row c e f, up, count_low x xs row))))
    | inr e ↦ other_row (x.row == row) x.puts (x.version == k) (ne_eqb x.row row e)
  ]

frees_split : (x : At) (xs : List At) (row k : ℕ) → frees_at (x ∷ xs) row k ≡ one_free x row k + frees_at xs row k
unfolding total
frees_split x xs row k = regroup (one_free x row k) (frees_in xs row k) (one_if ((k == 0) && opens_free row)) where
  regroup : (a b c : ℕ) → (a + b) + c ≡ a + (b + c)
  regroup a b c = omega arith

frees_none : (log : List At) (row n : ℕ) → IsCounted log → count log row ≡ n → frees_at log row (n + 1) ≡ 0
frees_none log row n c e =
    both_none (frees_in log row (n + 1)) (one_if ((n + 1 == 0) && opens_free row)) (frees_above log row (n + 1) c (omega (arith, e)))
    (ap (λ b. one_if (b && opens_free row)) (ne_eqb (n + 1) 0 (λ z. absurd (omega (arith, z)))))

opens_is : (row : ℕ) → stands_free [] row ≡ nat_lt 0 (frees_at [] row (count [] row))
unfolding total count
opens_is row = at (opens_free row) where
  at : (b : Bool) → b ≡ nat_lt 0 (0 + one_if b)
  at true = refl
  at false = refl

pub free_is : (log : List At) (row : ℕ) → IsCounted log → stands_free log row ≡ nat_lt 0 (frees_at log row (count log row))
free_is [] row c = opens_is row
free_is (x ∷ xs) row c = elim (cases_eq x.row row) [
  | inl e ↦ by_put x.puts refl e
  | inr e ↦
      let off : (x.row == row) ≡ false = ne_eqb x.row row e in
      ap (λ b. cond b (not x.puts) (stands_free xs row)) off
      ∙ (free_is xs row c.1
      ∙ ap (nat_lt 0) (sym (ap (frees_at (x ∷ xs) row) (count_other x xs row off)
      ∙ (frees_split x xs row (count xs row)
      ∙ (ap (λ z. z + frees_at xs row (count xs row)) (other_row (x.row == row) x.puts (x.version == count xs row) off) ∙ none_first (frees_at xs row (count xs row)))))))
] where
  none_first : (n : ℕ) → 0 + n ≡ n
  none_first n = omega arith

  by_put : (p : Bool) → x.puts ≡ p → x.row ≡ row → stands_free (x ∷ xs) row ≡ nat_lt 0 (frees_at (x ∷ xs) row (count (x ∷ xs) row))
  by_put true f e =
      let on : (x.row == row) ≡ true = eq-eqb x.row row e in
      let n : ℕ = count xs row in
      let none : frees_at (x ∷ xs) row (n + 1) ≡ 0 =
      frees_split x xs row (n + 1) ∙ both_none (one_free x row (n + 1)) (frees_at xs row (n + 1)) (no_put (x.row == row) x.puts (x.version == n + 1) f) (frees_none xs row n c.1 refl) in
      ap (λ b. cond b (not x.puts) (stands_free xs row)) on
      ∙ (ap not f ∙ ap (nat_lt 0) (sym (ap (frees_at (x ∷ xs) row) (count_put x xs row on f) ∙ none)))
  by_put false f e =
      let on : (x.row == row) ≡ true = eq-eqb x.row row e in
      let n : ℕ = count xs row in
      let one : one_free x row n ≡ 1 = this_free (x.row == row) x.puts (x.version == n) on f (eq-eqb x.version n (freed_at x xs row c e f)) in
      let some : 0 < frees_at (x ∷ xs) row (count (x ∷ xs) row) =
      omega (arith, ap (frees_at (x ∷ xs) row) (count_free x xs row f), frees_split x xs row n, one) in
      ap (λ b. cond b (not x.puts) (stands_free xs row)) on ∙ (ap not f ∙ sym (lt-ltb 0 (frees_at (x ∷ xs) row (count (x ∷ xs) row)) some))
