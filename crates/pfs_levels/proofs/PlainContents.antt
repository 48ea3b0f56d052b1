-- What the fold of a plain store's calls says of versions, contents and releases.
use Rattle.std.proofs.Common.{ℕ, inl, inr, ◌≡◌, ◌≤◌, ◌+◌, ◌==◌, nat_lt, false, true, Bool, cond, ◌&&◌, List, [], ◌∷◌, ◌++◌, refl, ap, sym, ◌∙◌, arith, eq-eqb, ne_eqb}
use Rattle.std.proofs.lemmas.Bool.{cases_eq, le-ltb, lt-ltb}
use Rattle.pfs_lemmas.proofs.Bools.{counted_once_more}
use Rattle.pfs_levels.specs.declared.plain.Slot.{Slot}
use Rattle.pfs_levels.specs.RowWords.{merged, opening_content}
use Rattle.pfs_levels.specs.JointCalls.{total, At, count, Setting, word_version, flags_at, AreWordsCounted, frees_at}
use Rattle.pfs_levels.specs.PlainStore.{Effect, Merges, Becomes, Renews, Holds, Releases, Op, op, slot_by, slot_after, word_after, is_put, puts_in, content_by, content_at}

-- versions
step_version : (b : Bool) (e : Effect) (s : Slot) (n : ℕ) → s.version ≡ n → (cond b (slot_by e s) s).version ≡ cond (b && is_put e) (n + 1) n
step_version false e s n h = h
step_version true (Merges amount) s n h = ap (λ z. z + 1) h
step_version true (Becomes content) s n h = ap (λ z. z + 1) h
step_version true Renews s n h = ap (λ z. z + 1) h
step_version true Holds s n h = h
step_version true Releases s n h = h

pub versions : (os : List Op) (row : ℕ) → (slot_after os row).version ≡ puts_in os row
unfolding slot_after puts_in
versions [] row = refl
versions (o ∷ os) row = step_version (o.row == row) o.effect (slot_after os row) (puts_in os row) (versions os row)

-- contents
step_content : (b : Bool) (e : Effect) (s : Slot) (n k : ℕ) (c : List ℕ) → s.content ≡ c → cond (b && is_put e) (n + 1) n ≤ k → (cond b (slot_by e s) s).content ≡ cond (b && (is_put e && nat_lt n k)) (content_by e c) c
step_content false e s n k c h up = h
step_content true (Merges amount) s n k c h up = rw (lt-ltb n k (omega arith)) (ap (λ z. merged z amount) h)
step_content true (Becomes content) s n k c h up = rw (lt-ltb n k (omega arith)) refl
step_content true Renews s n k c h up = rw (lt-ltb n k (omega arith)) h
step_content true Holds s n k c h up = h
step_content true Releases s n k c h up = h

pub contents : (os : List Op) (row k : ℕ) → puts_in os row ≤ k → (slot_after os row).content ≡ content_at os row k
unfolding slot_after puts_in content_at
contents [] row k up = refl
contents (o ∷ os) row k up = step_content (o.row == row) o.effect (slot_after os row) (puts_in os row) k (content_at os row k) (contents os row k (omega (arith, up, counted_once_more (o.row == row) (is_put o.effect) (puts_in os row)))) up

no_choice : {A : Type 0} (b p : Bool) (x y : A) → cond (b && (p && false)) x y ≡ y
no_choice true true x y = refl
no_choice true false x y = refl
no_choice false p x y = refl

pub content_kept : (o : Op) (os : List Op) (row k : ℕ) → k ≤ puts_in os row → content_at (o ∷ os) row k ≡ content_at os row k
unfolding content_at
content_kept o os row k low = ap (λ b. cond ((o.row == row) && (is_put o.effect && b)) (content_by o.effect (content_at os row k)) (content_at os row k)) (le-ltb (puts_in os row) k low) ∙ no_choice (o.row == row) (is_put o.effect) (content_by o.effect (content_at os row k)) (content_at os row k)

pub puts_more : (xs os : List Op) (row : ℕ) → puts_in os row ≤ puts_in (xs ++ os) row
unfolding puts_in
puts_more [] os row = omega arith
puts_more (x ∷ xs) os row = omega (arith, puts_more xs os row, counted_once_more (x.row == row) (is_put x.effect) (puts_in (xs ++ os) row))

pub contents_kept : (xs os : List Op) (row k : ℕ) → k ≤ puts_in os row → content_at (xs ++ os) row k ≡ content_at os row k
contents_kept [] os row k low = refl
contents_kept (x ∷ xs) os row k low = content_kept x (xs ++ os) row k (omega (arith, low, puts_more xs os row)) ∙ contents_kept xs os row k low

pub content_opens : (os : List Op) (row : ℕ) → content_at os row 0 ≡ opening_content row
unfolding content_at
content_opens [] row = refl
content_opens (o ∷ os) row = content_kept o os row 0 (omega arith) ∙ content_opens os row

-- the newest publication
pub put_new : (os : List Op) (row : ℕ) (e : Effect) (v : ℕ) → is_put e ≡ true → v ≡ puts_in os row + 1 → content_at (op row e ∷ os) row v ≡ content_by e (slot_after os row).content
unfolding content_at
put_new os row e v put next = rw (eq-eqb row row refl, put, lt-ltb (puts_in os row) v (omega arith)) (ap (content_by e) (sym (contents os row v (omega arith))))

-- words
pub word_versions : (flags : List ℕ) (ss : List Setting) (at : ℕ) → AreWordsCounted ss → (word_after flags ss at).version ≡ word_version ss at
unfolding word_after word_version
word_versions flags [] at a = refl
word_versions flags (s ∷ ss) at a = elim (cases_eq s.word at) [
  | inl e ↦ rw (eq-eqb s.word at e) (a.0 ∙ ap (λ z. word_version ss z + 1) e)
  | inr e ↦ rw (ne_eqb s.word at e) (word_versions flags ss at a.1)
]

pub word_more : (x : Setting) (ss : List Setting) (at : ℕ) → word_version ss at ≤ word_version (x ∷ ss) at
unfolding word_version
word_more x ss at = elim (cases_eq x.word at) [
  | inl e ↦ rw (eq-eqb x.word at e) (omega arith)
  | inr e ↦ rw (ne_eqb x.word at e) (omega arith)
]

pub words_more : (xs ss : List Setting) (at : ℕ) → word_version ss at ≤ word_version (xs ++ ss) at
words_more [] ss at = omega arith
words_more (x ∷ xs) ss at = omega (arith, words_more xs ss at, word_more x (xs ++ ss) at)

-- no set has a version above its word's
flags_kept : (flags : List ℕ) (x : Setting) (ss : List Setting) (at k : ℕ) → x.version ≡ word_version ss x.word + 1 → k ≤ word_version ss at → flags_at flags (x ∷ ss) at k ≡ flags_at flags ss at k
unfolding flags_at
flags_kept flags x ss at k next low = elim (cases_eq x.word at) [
  | inl e ↦ ap (λ b. cond ((x.word == at) && b) x.flags (flags_at flags ss at k)) (ne_eqb x.version k (λ z. absurd (omega (arith, ap (λ r. word_version ss r) e)))) ∙ ap (λ b. cond (b && false) x.flags (flags_at flags ss at k)) (eq-eqb x.word at e)
  | inr e ↦ ap (λ b. cond (b && (x.version == k)) x.flags (flags_at flags ss at k)) (ne_eqb x.word at e)
]

pub all_flags_kept : (flags : List ℕ) (xs ss : List Setting) (at k : ℕ) → AreWordsCounted (xs ++ ss) → k ≤ word_version ss at → flags_at flags (xs ++ ss) at k ≡ flags_at flags ss at k
all_flags_kept flags [] ss at k a low = refl
all_flags_kept flags (x ∷ xs) ss at k a low = flags_kept flags x (xs ++ ss) at k a.0 (omega (arith, low, words_more xs ss at)) ∙ all_flags_kept flags xs ss at k a.1 low

pub word_flags : (flags : List ℕ) (ss : List Setting) (at : ℕ) → AreWordsCounted ss → (word_after flags ss at).flags ≡ flags_at flags ss at (word_version ss at)
unfolding word_after word_version flags_at
word_flags flags [] at a = refl
word_flags flags (s ∷ ss) at a = elim (cases_eq s.word at) [
  | inl e ↦ rw (eq-eqb s.word at e, eq-eqb s.version (word_version ss at + 1) (a.0 ∙ ap (λ z. word_version ss z + 1) e)) refl
  | inr e ↦ rw (ne_eqb s.word at e) (word_flags flags ss at a.1)
]

pub count_more : (xs cs : List At) (row : ℕ) → count cs row ≤ count (xs ++ cs) row
unfolding count
count_more [] cs row = omega arith
count_more (x ∷ xs) cs row = omega (arith, count_more xs cs row, counted_once_more (x.row == row) x.puts (count (xs ++ cs) row))

pub frees_more : (xs cs : List At) (row k : ℕ) → frees_at cs row k ≤ frees_at (xs ++ cs) row k
unfolding total
frees_more [] cs row k = omega arith
frees_more (x ∷ xs) cs row k = omega (arith, frees_more xs cs row k)
