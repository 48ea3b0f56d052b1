-- Whatever tells the changes of a counted log tells a chain.
use Rattle.std.proofs.Common.{ℕ, ◌≡◌, ◌+◌, ◌≤◌, ◌<◌, ◌==◌, Bool, true, false, ◌&&◌, List, [], ◌∷◌, map, refl, ap, sym, ◌∙◌, arith, zero-add, eqb-true, inl, inr}
use Rattle.std.specs.Prelude.{nat_lt, nat_le, if◌then◌else◌, ◌⊎◌}
use Rattle.std.proofs.lemmas.Bool.{cases_lt}
use Rattle.pfs_levels.specs.JointCalls.{total, one_if, At, IsCounted, count, Setting, AreWordsCounted, word_version}
use Rattle.pfs_levels.specs.CallOrder.{Mark, AreMarked, marked, published}
use Rattle.pfs_law_joint.specs.Versions.{makes, ChainLaw, at_mark, at_set}

next : (k n : ℕ) → one_if (n + 1 == k) + one_if (nat_lt 0 k && nat_le k n) ≡ one_if (nat_lt 0 k && nat_le k (n + 1))
next k n = grind arith

one : (b p : Bool) (v n k : ℕ) → (b ≡ true → p ≡ true → v ≡ n + 1)
    → one_if (b && (p && (v == k))) + one_if (nat_lt 0 k && nat_le k n) ≡ one_if (nat_lt 0 k && nat_le k (if b && p then n + 1 else n))
one true true v n k e = ap (λ z. one_if (z == k) + one_if (nat_lt 0 k && nat_le k n)) (e refl refl) ∙ next k n
one true false v n k e = zero-add (one_if (nat_lt 0 k && nat_le k n))
one false p v n k e = zero-add (one_if (nat_lt 0 k && nat_le k n))

none : (k : ℕ) → ◌≡◌ {A = ℕ} 0 (one_if (nat_lt 0 k && nat_le k 0))
none k = grind arith

version_of : (x : At) (xs : List At) (row : ℕ) → x.version ≡ (if x.puts then count xs x.row + 1 else count xs x.row) → (x.row == row) ≡ true → x.puts ≡ true → x.version ≡ count xs row + 1
version_of x xs row e here puts = e ∙ (ap (λ b. if b then count xs x.row + 1 else count xs x.row) puts ∙ ap (λ z. count xs z + 1) (eqb-true x.row row here))

pub log_chain : (log : List At) (row k : ℕ) → IsCounted log → total (λ x. one_if (makes row k x)) log ≡ one_if (nat_lt 0 k && nat_le k (count log row))
unfolding total count
log_chain [] row k c = none k
log_chain (x ∷ xs) row k c =
    ap (λ z. one_if (makes row k x) + z) (log_chain xs row k c.1)
    ∙ one (x.row == row) x.puts x.version (count xs row) k (version_of x xs row c.0)

abbrev pub puts_to : ℕ → At → ℕ
puts_to row x = one_if ((x.row == row) && x.puts)

pub log_count : (log : List At) (row : ℕ) → total (puts_to row) log ≡ count log row
unfolding total count
log_count [] row = refl
log_count (x ∷ xs) row = ap (λ z. puts_to row x + z) (log_count xs row) ∙ at ((x.row == row) && x.puts) (count xs row) where
  at : (b : Bool) (n : ℕ) → one_if b + n ≡ (if b then n + 1 else n)
  at true n = omega arith
  at false n = zero-add n

pub chained : ChainLaw
chained = λ row log some c same.
    (let n : count some row ≡ count log row = sym (log_count some row) ∙ (same (puts_to row) (λ x off. ap (λ b. one_if (b && x.puts)) off) ∙ log_count log row) in
    record {
      once = λ version. same (λ x. one_if (makes row version x)) (λ x off. ap (λ b. one_if (b && (x.puts && (x.version == version)))) off)
          ∙ (log_chain log row version c ∙ ap (λ z. one_if (nat_lt 0 version && nat_le version z)) (sym n));
      counted = n;
    })

-- marks and sets, as changes
marks_count : (log : List Mark) (row : ℕ) → count (map at_mark log) row ≡ marked log row
unfolding count marked
marks_count [] row = refl
marks_count (x ∷ xs) row = ap (λ n. if (x.row == row) && x.puts then n + 1 else n) (marks_count xs row)

pub marks_counted : (log : List Mark) → AreMarked log → IsCounted (map at_mark log)
marks_counted [] m = tt
marks_counted (x ∷ xs) m = (m.0 ∙ ap (λ n. if x.puts then n + 1 else n) (sym (marks_count xs x.row)), marks_counted xs m.1)

pub sets_count : (sets : List Setting) (word : ℕ) → count (map at_set sets) word ≡ word_version sets word
unfolding count word_version
sets_count [] word = refl
sets_count (s ∷ ss) word = at (s.word == word) (sets_count ss word) where
  at : (b : Bool) → count (map at_set ss) word ≡ word_version ss word
      → (if b && true then count (map at_set ss) word + 1 else count (map at_set ss) word) ≡ (if b then word_version ss word + 1 else word_version ss word)
  at true e = ap (λ n. n + 1) e
  at false e = e

pub sets_counted : (sets : List Setting) → AreWordsCounted sets → IsCounted (map at_set sets)
sets_counted [] w = tt
sets_counted (s ∷ ss) w = (w.0 ∙ ap (λ n. n + 1) (sym (sets_count ss s.word)), sets_counted ss w.1)

-- the same of marks as they are
pub mark_count : (log : List Mark) (row : ℕ) → total (λ m. puts_to row (at_mark m)) log ≡ marked log row
unfolding total marked
mark_count [] row = refl
mark_count (x ∷ xs) row = ap (λ z. puts_to row (at_mark x) + z) (mark_count xs row) ∙ at ((x.row == row) && x.puts) (marked xs row) where
  at : (b : Bool) (n : ℕ) → one_if b + n ≡ (if b then n + 1 else n)
  at true n = omega arith
  at false n = zero-add n

both : (b p : Bool) (v n k : ℕ) → (b ≡ true → p ≡ true → v ≡ n + 1)
    → one_if ((b && p) && (v == k)) + one_if (nat_lt 0 k && nat_le k n) ≡ one_if (nat_lt 0 k && nat_le k (if b && p then n + 1 else n))
both true true v n k e = one true true v n k e
both true false v n k e = one true false v n k e
both false p v n k e = one false p v n k e

mark_version : (x : Mark) (xs : List Mark) (row : ℕ) → x.version ≡ (if x.puts then marked xs x.row + 1 else marked xs x.row) → (x.row == row) ≡ true → x.puts ≡ true → x.version ≡ marked xs row + 1
mark_version x xs row e here puts = e ∙ (ap (λ b. if b then marked xs x.row + 1 else marked xs x.row) puts ∙ ap (λ z. marked xs z + 1) (eqb-true x.row row here))

pub mark_chain : (log : List Mark) (row k : ℕ) → AreMarked log → published log row k ≡ one_if (nat_lt 0 k && nat_le k (marked log row))
unfolding total marked
mark_chain [] row k c = none k
mark_chain (x ∷ xs) row k c =
    ap (λ z. one_if ((x.row == row) && x.puts && (x.version == k)) + z) (mark_chain xs row k c.1)
    ∙ both (x.row == row) x.puts x.version (marked xs row) k (mark_version x xs row c.0)

-- a version that a log has is one of these
pub there : (k n : ℕ) → 0 < k → k ≤ n → one_if (nat_lt 0 k && nat_le k n) ≡ 1
there k n up low = grind (arith, up, low)

pub not_there : (k n : ℕ) → n < k → one_if (nat_lt 0 k && nat_le k n) ≡ 0
not_there k n high = grind (arith, high)

pub had : (log : List At) (row k : ℕ) → IsCounted log → 0 < total (λ x. one_if (makes row k x)) log → k ≤ count log row
had log row k c some = at (cases_lt (count log row) k) where
  at : (count log row < k) ⊎ (k ≤ count log row) → k ≤ count log row
  at (inl high) = absurd (omega (arith, some, log_chain log row k c, not_there k (count log row) high))
  at (inr low) = low
