-- No call of a plain store is below what actions gave that had ended: each names what stands there, and later actions have greater numbers.
use Rattle.std.proofs.Common.{ℕ, ◌⊎◌, inl, inr, ◌≡◌, ◌<◌, ◌≤◌, ◌+◌, ◌/◌, ◌==◌, nat_lt, nat_le, false, true, Bool, cond, not, ◌&&◌, List, [], ◌∷◌, ◌++◌, slice_index, refl, ap, sym, ◌∙◌, subst, arith, eq-eqb, ne_eqb, zero-add}
use Rattle.std.proofs.lemmas.Bool.{cases_eq, le-ltb}
use Rattle.std.proofs.lemmas.Bool.Decides.{nat_tests}
use Rattle.pfs_lemmas.proofs.Bools.{and_false, counted_once_more}
use Rattle.pfs_rows.specs.declared.table.Seen.TheVariants.{Whole, Free}
use Rattle.pfs_rows.specs.declared.table.Seen.TheVariants as sees
use Rattle.pfs_levels.specs.declared.answers.Added.TheVariants.{Counted, Held}
use Rattle.pfs_levels.specs.declared.answers.RingPut.TheVariants.{Done, Busy, Late}
use Rattle.pfs_levels.specs.declared.plain.Slot.{Slot}
use Rattle.pfs_levels.specs.Calls.{Call, Adds, Rings, Reads, Loads, Draws, Takes, Puts, Frees, Sets, Enters, Leaves, Meets, after_in}
use Rattle.pfs_levels.specs.JointCalls.{total, one_if}
use Rattle.pfs_levels.specs.CallOrder.{Mark, marks_by, word_marks_by, marked, AreMarked, is_past, above, reaching, freed, IsFloored, AreFloored, AllCalls}
use Rattle.pfs_levels.specs.PlainStore.{Holds, Releases, slot_by}

not_le : (a b : ℕ) → b < a → nat_le a b ≡ false
not_le a b h = grind (arith, nat_tests)

yes_pos : (a : ℕ) → nat_lt 0 a ≡ false → a ≡ 0
yes_pos a h = grind (arith, nat_tests)

-- a change that no call up to now knows as one of an ended action
abbrev pub IsLater : ℕ → Mark → Type 0
IsLater ended p = (p.action ≡ 0) ⊎ (ended < p.action)

pub not_past : (row after ended : ℕ) (p : Mark) → after ≤ ended → IsLater ended p → is_past row after p ≡ false
not_past row after ended p low (inl e) = ap (λ b. (p.row == row) && b && nat_le p.action after) (le-ltb 0 p.action (omega (arith, e))) ∙ ap (λ b. b && nat_le p.action after) (and_false (p.row == row))
not_past row after ended p low (inr e) = ap (λ b. (p.row == row) && nat_lt 0 p.action && b) (not_le p.action after (omega (arith, e, low))) ∙ and_false ((p.row == row) && nat_lt 0 p.action)

-- one such change more
pub above_more : (p : Mark) (log : List Mark) (row k after : ℕ) → is_past row after p ≡ false → above log row k after ≡ 0 → above (p ∷ log) row k after ≡ 0
unfolding total
above_more p log row k after e h = rw e (zero-add (above log row k after) ∙ h)

pub reaching_more : (p : Mark) (log : List Mark) (row k after : ℕ) → is_past row after p ≡ false → reaching log row k after ≡ 0 → reaching (p ∷ log) row k after ≡ 0
unfolding total
reaching_more p log row k after e h = rw e (zero-add (reaching log row k after) ∙ h)

pub freed_more : (p : Mark) (log : List Mark) (row k after : ℕ) → is_past row after p ≡ false → freed log row k after ≡ 0 → freed (p ∷ log) row k after ≡ 0
unfolding total
freed_more p log row k after e h = rw e (zero-add (freed log row k after) ∙ h)

marked_at : (p : Bool) (v n : ℕ) → v ≡ cond p (n + 1) n → v ≤ cond p (n + 1) n
marked_at p v n e = omega (arith, e)

mark_low : (x : Mark) (xs : List Mark) (row : ℕ) → x.version ≡ cond x.puts (marked xs x.row + 1) (marked xs x.row) → x.row ≡ row → x.version ≤ marked (x ∷ xs) row
unfolding marked
mark_low x xs row e f = rw (eq-eqb x.row row f) (marked_at x.puts x.version (marked xs row) (e ∙ ap (λ r. cond x.puts (marked xs r + 1) (marked xs r)) f))

pub marked_more : (x : Mark) (xs : List Mark) (row : ℕ) → marked xs row ≤ marked (x ∷ xs) row
unfolding marked
marked_more x xs row = counted_once_more (x.row == row) x.puts (marked xs row)

other_row : (row after : ℕ) (p : Mark) → (p.row ≡ row → ⊥) → is_past row after p ≡ false
other_row row after p e = ap (λ b. b && nat_lt 0 p.action && nat_le p.action after) (ne_eqb p.row row e)

no_above : (b : Bool) (k v : ℕ) → v ≤ k → one_if (b && nat_lt k v) ≡ 0
no_above b k v low = ap (λ z. one_if (b && z)) (le-ltb k v low) ∙ ap one_if (and_false b)

no_reach : (b : Bool) (k v : ℕ) → v < k → one_if (b && nat_le k v) ≡ 0
no_reach b k v low = ap (λ z. one_if (b && z)) (not_le k v low) ∙ ap one_if (and_false b)

pub none_above : (log : List Mark) (row k after : ℕ) → AreMarked log → marked log row ≤ k → above log row k after ≡ 0
unfolding total
none_above [] row k after m low = refl
none_above (x ∷ xs) row k after m low =
    let rest : above xs row k after ≡ 0 = none_above xs row k after m.1 (omega (arith, low, marked_more x xs row)) in
    elim (cases_eq x.row row) [
      | inl e ↦ ap (λ z. z + above xs row k after) (no_above (is_past row after x) k x.version (omega (arith, low, mark_low x xs row m.0 e))) ∙ zero-add (above xs row k after) ∙ rest
      | inr e ↦ above_more x xs row k after (other_row row after x e) rest
    ]

pub none_reaching : (log : List Mark) (row k after : ℕ) → AreMarked log → marked log row < k → reaching log row k after ≡ 0
unfolding total
none_reaching [] row k after m low = refl
none_reaching (x ∷ xs) row k after m low =
    let rest : reaching xs row k after ≡ 0 = none_reaching xs row k after m.1 (omega (arith, low, marked_more x xs row)) in
    elim (cases_eq x.row row) [
      | inl e ↦ ap (λ z. z + reaching xs row k after) (no_reach (is_past row after x) k x.version (omega (arith, low, mark_low x xs row m.0 e))) ∙ zero-add (reaching xs row k after) ∙ rest
      | inr e ↦ reaching_more x xs row k after (other_row row after x e) rest
    ]

freed_step : (b p : Bool) (c : Bool) → one_if (b && not p && c) ≤ one_if (b && c)
freed_step true true c = omega arith
freed_step true false c = omega arith
freed_step false p c = omega arith

pub freed_low : (log : List Mark) (row k after : ℕ) → freed log row k after ≤ reaching log row k after
unfolding total
freed_low [] row k after = omega arith
freed_low (x ∷ xs) row k after = omega (arith, freed_step (is_past row after x) x.puts (nat_le k x.version), freed_low xs row k after)

abbrev pub AllLater : ℕ → List Mark → Type 0
AllLater ended [] = Unit {0}
AllLater ended (p ∷ ps) = IsLater ended p × AllLater ended ps

floor_more : (p : Mark) (log words : List Mark) (after ended : ℕ) (call : Call) → after ≤ ended → IsLater ended p → IsFloored log words after call → IsFloored (p ∷ log) words after call
floor_more p log words after ended (Adds row amount (Counted r k)) low later h = reaching_more p log r k after (not_past r after ended p low later) h
floor_more p log words after ended (Adds row amount (Held r v w)) low later h = h
floor_more p log words after ended (Rings row content (Done k)) low later h = reaching_more p log row k after (not_past row after ended p low later) h
floor_more p log words after ended (Rings row content (Busy v w)) low later h = h
floor_more p log words after ended (Rings row content (Late t v)) low later h = above_more p log row v after (not_past row after ended p low later) h
floor_more p log words after ended (Reads row (Whole k found)) low later h = (above_more p log row k after (not_past row after ended p low later) h.0, freed_more p log row k after (not_past row after ended p low later) h.1)
floor_more p log words after ended (Reads row (Free w)) low later h = above_more p log row (w / 4) after (not_past row after ended p low later) h
floor_more p log words after ended (Reads row (sees.Busy v w)) low later h = h
floor_more p log words after ended (Loads at k flags) low later h = h
floor_more p log words after ended (Draws kind ticket) low later h = h
floor_more p log words after ended (Meets versions) low later h = h
floor_more p log words after ended (Takes row k found) low later h = above_more p log row k after (not_past row after ended p low later) h
floor_more p log words after ended (Puts row content k) low later h = reaching_more p log row k after (not_past row after ended p low later) h
floor_more p log words after ended (Frees row k) low later h = above_more p log row k after (not_past row after ended p low later) h
floor_more p log words after ended (Sets at flags k) low later h = h
floor_more p log words after ended (Enters label labels) low later h = h
floor_more p log words after ended Leaves low later h = h

word_floor_more : (p : Mark) (log words : List Mark) (after ended : ℕ) (call : Call) → after ≤ ended → IsLater ended p → IsFloored log words after call → IsFloored log (p ∷ words) after call
word_floor_more p log words after ended (Adds row amount (Counted r k)) low later h = h
word_floor_more p log words after ended (Adds row amount (Held r v w)) low later h = h
word_floor_more p log words after ended (Rings row content (Done k)) low later h = h
word_floor_more p log words after ended (Rings row content (Busy v w)) low later h = h
word_floor_more p log words after ended (Rings row content (Late t v)) low later h = h
word_floor_more p log words after ended (Reads row (Whole k found)) low later h = h
word_floor_more p log words after ended (Reads row (Free w)) low later h = h
word_floor_more p log words after ended (Reads row (sees.Busy v w)) low later h = h
word_floor_more p log words after ended (Loads at k flags) low later h = above_more p words at k after (not_past at after ended p low later) h
word_floor_more p log words after ended (Draws kind ticket) low later h = h
word_floor_more p log words after ended (Meets versions) low later h = λ at up. above_more p words at (slice_index versions at) after (not_past at after ended p low later) (h at up)
word_floor_more p log words after ended (Takes row k found) low later h = h
word_floor_more p log words after ended (Puts row content k) low later h = h
word_floor_more p log words after ended (Frees row k) low later h = h
word_floor_more p log words after ended (Sets at flags k) low later h = reaching_more p words at k after (not_past at after ended p low later) h
word_floor_more p log words after ended (Enters label labels) low later h = h
word_floor_more p log words after ended Leaves low later h = h

-- no call knew an action above this as ended
abbrev pub KnowUpTo : ℕ → List Call → Type 0
KnowUpTo ended [] = Unit {0}
KnowUpTo ended (call ∷ calls) = (after_in calls ≤ ended) × KnowUpTo ended calls

pub know_more : (ended more : ℕ) (calls : List Call) → ended ≤ more → KnowUpTo ended calls → KnowUpTo more calls
know_more ended more [] up k = tt
know_more ended more (call ∷ calls) up k = (omega (arith, up, k.0), know_more ended more calls up k.1)

pub all_know_more : (ended more : ℕ) (actors : List (List Call)) → ended ≤ more → AllCalls (KnowUpTo ended) actors → AllCalls (KnowUpTo more) actors
all_know_more ended more [] up k = tt
all_know_more ended more (calls ∷ actors) up k = (know_more ended more calls up k.0, all_know_more ended more actors up k.1)

floors_more : (p : Mark) (log words : List Mark) (ended : ℕ) (calls : List Call) → KnowUpTo ended calls → IsLater ended p → AreFloored log words calls → AreFloored (p ∷ log) words calls
floors_more p log words ended [] k later h = tt
floors_more p log words ended (call ∷ calls) k later h = (floor_more p log words (after_in calls) ended call k.0 later h.0, floors_more p log words ended calls k.1 later h.1)

word_floors_more : (p : Mark) (log words : List Mark) (ended : ℕ) (calls : List Call) → KnowUpTo ended calls → IsLater ended p → AreFloored log words calls → AreFloored log (p ∷ words) calls
word_floors_more p log words ended [] k later h = tt
word_floors_more p log words ended (call ∷ calls) k later h = (word_floor_more p log words (after_in calls) ended call k.0 later h.0, word_floors_more p log words ended calls k.1 later h.1)

-- later changes and sets leave the floors of an actor's calls
pub floors_kept : (ps qs log words : List Mark) (ended : ℕ) (calls : List Call) → KnowUpTo ended calls → AllLater ended ps → AllLater ended qs → AreFloored log words calls → AreFloored (ps ++ log) (qs ++ words) calls
floors_kept [] [] log words ended calls k l m h = h
floors_kept [] (q ∷ qs) log words ended calls k l m h = word_floors_more q log (qs ++ words) ended calls k m.0 (floors_kept [] qs log words ended calls k l m.1 h)
floors_kept (p ∷ ps) qs log words ended calls k l m h = floors_more p (ps ++ log) (qs ++ words) ended calls k l.0 (floors_kept ps qs log words ended calls k l.1 m h)

pub all_floors_kept : (ps qs log words : List Mark) (ended : ℕ) (actors : List (List Call)) → AllCalls (KnowUpTo ended) actors → AllLater ended ps → AllLater ended qs → AllCalls (AreFloored log words) actors → AllCalls (AreFloored (ps ++ log) (qs ++ words)) actors
all_floors_kept ps qs log words ended [] k l m h = tt
all_floors_kept ps qs log words ended (calls ∷ actors) k l m h = (floors_kept ps qs log words ended calls k.0 l m h.0, all_floors_kept ps qs log words ended actors k.1 l m h.1)

pub marks_later : (action after ended : ℕ) (call : Call) → (action ≡ 0) ⊎ (ended < action) → AllLater ended (marks_by action after call)
marks_later action after ended (Adds row amount (Counted r k)) h = (h, tt)
marks_later action after ended (Adds row amount (Held r v w)) h = tt
marks_later action after ended (Rings row content (Done k)) h = (h, tt)
marks_later action after ended (Rings row content (Busy v w)) h = tt
marks_later action after ended (Rings row content (Late t v)) h = tt
marks_later action after ended (Reads row (Whole k found)) h = tt
marks_later action after ended (Reads row (Free w)) h = tt
marks_later action after ended (Reads row (sees.Busy v w)) h = tt
marks_later action after ended (Loads at k flags) h = tt
marks_later action after ended (Draws kind ticket) h = tt
marks_later action after ended (Meets versions) h = tt
marks_later action after ended (Takes row k found) h = tt
marks_later action after ended (Puts row content k) h = (h, tt)
marks_later action after ended (Frees row k) h = (h, tt)
marks_later action after ended (Sets at flags k) h = tt
marks_later action after ended (Enters label labels) h = tt
marks_later action after ended Leaves h = (h, tt)

pub word_marks_later : (action after ended : ℕ) (call : Call) → (action ≡ 0) ⊎ (ended < action) → AllLater ended (word_marks_by action after call)
word_marks_later action after ended (Adds row amount answer) h = tt
word_marks_later action after ended (Rings row content answer) h = tt
word_marks_later action after ended (Reads row seen) h = tt
word_marks_later action after ended (Loads at version flags) h = tt
word_marks_later action after ended (Draws kind ticket) h = tt
word_marks_later action after ended (Meets versions) h = tt
word_marks_later action after ended (Takes row version found) h = tt
word_marks_later action after ended (Puts row content version) h = tt
word_marks_later action after ended (Frees row version) h = tt
word_marks_later action after ended (Sets at flags version) h = (h, tt)
word_marks_later action after ended (Enters label labels) h = tt
word_marks_later action after ended Leaves h = tt

-- a row that is allocated wasn't released at its version
past_not : (b c : Bool) → one_if (b && false && c) ≡ 0
past_not true c = refl
past_not false c = refl

freed_put : (p : Mark) (log : List Mark) (row k after : ℕ) → p.puts ≡ true → AreMarked log → marked log row < k → freed (p ∷ log) row k after ≡ 0
unfolding total
freed_put p log row k after e m low =
    let old : freed log row k after ≡ 0 = omega (arith, freed_low log row k after, none_reaching log row k after m low) in
    ap (λ z. one_if (is_past row after p && not z && nat_le k p.version) + freed log row k after) e ∙ ap (λ z. z + freed log row k after) (past_not (is_past row after p) (nat_le k p.version)) ∙ zero-add (freed log row k after) ∙ old

pub unfreed_put : (row r n after : ℕ) (p : Mark) (log : List Mark) (s t : Slot) → p.row ≡ r → p.puts ≡ true → AreMarked log → marked log row ≡ n → (s.allocated ≡ true → freed log row n after ≡ 0)
    → (cond (r == row) t s).allocated ≡ true → freed (p ∷ log) row (cond ((r == row) && true) (n + 1) n) after ≡ 0
unfreed_put row r n after p log s t at puts m here old whole = elim (cases_eq r row) [
  | inl e ↦ (let F : ℕ → Type 0 = λ k. freed (p ∷ log) row k after ≡ 0 in subst F (sym (ap (λ b. cond (b && true) (n + 1) n) (eq-eqb r row e))) (freed_put p log row (n + 1) after puts m (omega (arith, here))))
  | inr e ↦ (let F : ℕ → Type 0 = λ k. freed (p ∷ log) row k after ≡ 0 in
      let G : Bool → Type 0 = λ b. (cond b t s).allocated ≡ true in
      subst F (sym (ap (λ b. cond (b && true) (n + 1) n) (ne_eqb r row e))) (freed_more p log row n after (other_row row after p (λ z. e (sym at ∙ z))) (old (subst G (ne_eqb r row e) whole))))
]

pub unfreed_hold : (b : Bool) (n row after : ℕ) (log : List Mark) (s : Slot) → (s.allocated ≡ true → freed log row n after ≡ 0) → (cond b (slot_by Holds s) s).allocated ≡ true → freed log row (cond (b && false) (n + 1) n) after ≡ 0
unfreed_hold true n row after log s old whole = old whole
unfreed_hold false n row after log s old whole = old whole

pub unfreed_free : (row r n after : ℕ) (p : Mark) (log : List Mark) (s : Slot) → p.row ≡ r → (s.allocated ≡ true → freed log row n after ≡ 0) → (cond (r == row) (slot_by Releases s) s).allocated ≡ true → freed (p ∷ log) row (cond ((r == row) && false) (n + 1) n) after ≡ 0
unfreed_free row r n after p log s at old whole = elim (cases_eq r row) [
  | inl e ↦ (let G : Bool → Type 0 = λ b. (cond b (slot_by Releases s) s).allocated ≡ true in let no : false ≡ true = subst G (eq-eqb r row e) whole in cc)
  | inr e ↦ (let F : ℕ → Type 0 = λ k. freed (p ∷ log) row k after ≡ 0 in
      let G : Bool → Type 0 = λ b. (cond b (slot_by Releases s) s).allocated ≡ true in
      subst F (sym (ap (λ b. cond (b && false) (n + 1) n) (ne_eqb r row e))) (freed_more p log row n after (other_row row after p (λ z. e (sym at ∙ z))) (old (subst G (ne_eqb r row e) whole))))
]
