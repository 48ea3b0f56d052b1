-- Two sessions at once, worked: a wait of the one draws the first ticket, and is put to the long history behind the
-- 1,000th wait of the other, which has the greater ticket of the same place: it comes late. All that the laws ask of
-- them holds, by the other's waits one after another.
use Rattle.std.proofs.Common.{ℕ, ◌≡◌, ◌+◌, ◌-◌, ◌/◌, ◌%◌, ◌<◌, ◌≤◌, ◌==◌, ◌&&◌, ◌||◌, Bool, zero, suc, true, false, cond, not, nat_lt, nat_le, List, [], ◌∷◌, ◌++◌, inl, inr, replicate, refl, ap, sym, ◌∙◌, subst, arith, lit<, lit≤, lt-ltb, le-ltb, ltb-true, ltb-false, le-leb, leb-true, eq-eqb, ne_eqb, eqb-true}
use Rattle.std.proofs.lemmas.Bool.{false≢true}
use Rattle.pfs_admin.specs.OpeningState.{opening_flags}
use Rattle.pfs_board.specs.declared.view.Label.{Label}
use Rattle.pfs_levels.specs.Calls.{Call, Adds, Rings, Reads, Loads, Draws, Takes, Puts, Frees, Sets, Enters, Leaves, Meets, action_in, after_in}
use Rattle.pfs_levels.specs.CallOrder.{Mark, mark, marked, marks_of, all_marks, word_marks_of, all_word_marks, falls, is_past, above, reaching, freed, AreMarked, AreOrdered, IsFloored, AreFloored, AreRising, AreThere, AreCaused, AreNamed, AllCalls, top_in, top_word, top_ticket, Order}
use Rattle.pfs_levels.specs.JointCalls.{total, one_if, At, count, changes_of, Setting, sets_of, word_version, flags_at, drawn, draws_of, frees_at, opens_free, IsCounted, AreDrawn, AllAgree, AreWordsCounted, all_calls, Joint}
use Rattle.pfs_levels.specs.PhaseFloors.{AreSince}
use Rattle.pfs_levels.specs.RowWords.{merged, zero_words, opening_content}
use Rattle.pfs_levels.specs.declared.answers.Added.TheVariants.{Counted, Held}
use Rattle.pfs_levels.specs.declared.answers.RingPut.TheVariants.{Done, Busy, Late}
use Rattle.pfs_rows.specs.declared.table.Seen.TheVariants.{Whole, Free}
use Rattle.pfs_rows.specs.declared.table.Seen.TheVariants as sees
use Rattle.pfs_matching.specs.ObjectRules.{opening_objects}
use Rattle.pfs_model.specs.Causes.{long_row}
use Rattle.pfs_model.specs.Chains.{Each}
use Rattle.pfs_model.specs.Contents.{Facts}
use Rattle.pfs_law_joint.proofs.MarkSums.{marked_is}
use Rattle.pfs_law_joint.specs.Phases.{IsShared}
use Rattle.pfs_law_plain.specs.Spells.{doings_calls, stints_of}
use Rattle.pfs_law_session.proofs.StepFacts.{given}
use Rattle.pfs_law_session.specs.Amounts.{AllFacts, at_first}
use Rattle.pfs_law_session.specs.Stints.{parts_by}
use Rattle.pfs_law_shared.proofs.Examples.{label, stands, IsAnew, opens}
use Rattle.pfs_law_shared.proofs.LateSessions.{setting, flags, flags_are, change, begun_words, ended_words, long_words, amount, first, second, third, fourth, spells, double, called, calls_are, are_spells, are_folded, connect_first, are_single, later_before, later_at}
use Rattle.pfs_law_shared.specs.Joined.{AreJoined, JoinedLaw}
use Rattle.pfs_law_shared.specs.Rules.{of_rows}
use Rattle.pfs_law_shared.specs.Shares.{actors_of, spells_at, AreShared}
use Rattle.pfs_law_shared.specs.Tickets.{IsPlaced, AllPlaced}

-- the actors but for the one that waits so often
abbrev before : List (List Call)
before = doings_calls second.doings ∷ doings_calls first.doings ∷ []

abbrev others : List (List Call)
others = doings_calls third.doings ∷ before

abbrev begun : List Call
begun = doings_calls second.doings ++ doings_calls first.doings

abbrev base : List Call
base = doings_calls third.doings ++ (doings_calls second.doings ++ (doings_calls first.doings ++ []))

-- a row that is none, and one that isn't there
skip : (b p : Bool) (n : ℕ) → b ≡ false → cond (b && p) (n + 1) n ≡ n
skip false p n e = refl
skip true p n e = absurd (false≢true (sym e))

pass : {A : Type 0} (b : Bool) (m n : A) → b ≡ false → cond b m n ≡ n
pass false m n e = refl
pass true m n e = absurd (false≢true (sym e))

below : (n : ℕ) → n ≡ 0 → n < 1
below n e = omega (arith, e)

next : (m n : ℕ) → m ≡ n → m < n + 1
next m n e = omega (arith, e)

higher : (m n : ℕ) → m ≡ n → m < suc n
higher m n e = omega (arith, e)

up : (n : ℕ) → 0 < suc n
up n = omega arith

more_than_none : (n : ℕ) → 0 < n + 1
more_than_none n = omega arith

least : (n : ℕ) → 0 ≤ n
least n = omega arith

plus_one : (n : ℕ) → n + 1 ≡ suc n
plus_one n = omega arith

raised : (m n : ℕ) → m ≡ n → suc n ≡ m + 1
raised m n e = omega (arith, e)

raised_twice : (m n : ℕ) → m ≡ n → suc (suc n) ≡ (m + 1) + 1
raised_twice m n e = omega (arith, e)

keep : (b : Bool) (m n : ℕ) → b ≡ true → cond b m n ≡ m
keep true m n e = refl
keep false m n e = absurd (false≢true e)

zero_sum : (m n : ℕ) → m ≡ 0 → n ≡ 0 → m + n ≡ 0
zero_sum m n e f = omega (arith, e, f)

-- long places are no others, and two tickets up to the 1,000th behind them have two places
off_low : (row t : ℕ) → row < 10242 → (row == long_row 0 t) ≡ false
off_low row t low = ne_eqb row (long_row 0 t) (λ e. omega (arith, low, e))

off_long : (row t : ℕ) → row < 10242 → (long_row 0 t == row) ≡ false
off_long row t low = ne_eqb (long_row 0 t) row (λ e. omega (arith, low, e))

off_other : (n t : ℕ) → suc n < t → t ≤ 1000 → (long_row 0 (n + 1) == long_row 0 t) ≡ false
off_other n t less high = ne_eqb (long_row 0 (n + 1)) (long_row 0 t) (λ e. omega (arith, less, high, e))

low_count : (xs : List At) (t : ℕ) → Each (λ x. x.row < 10242) xs → count xs (long_row 0 t) ≡ 0
unfolding count
low_count [] t low = refl
low_count (x ∷ xs) t low = skip (x.row == long_row 0 t) x.puts (count xs (long_row 0 t)) (off_low x.row t low.0) ∙ low_count xs t low.1

begun_low : Each (λ x. x.row < 10242) (changes_of (all_calls before))
unfolding changes_of all_calls
begun_low = (lit< tt, (lit< tt, (lit< tt, (lit< tt, (lit< tt, tt)))))

base_low : Each (λ x. x.row < 10242) (changes_of base)
unfolding changes_of all_calls
base_low = (lit< tt, (lit< tt, (lit< tt, (lit< tt, (lit< tt, (lit< tt, (lit< tt, (lit< tt, tt))))))))

-- how often rows were published behind so many waits
count_current : (n : ℕ) → count (changes_of (called n ++ base)) 8506 ≡ double n
unfolding count changes_of all_calls called
count_current zero = refl
count_current (suc n) = skip (long_row 0 (n + 1) == 8506) true _ (off_long 8506 (n + 1) (lit< tt)) ∙ sym (raised_twice _ _ (count_current n))

count_cell : (n : ℕ) → count (changes_of (called n ++ base)) 193 ≡ n
unfolding count changes_of all_calls called
count_cell zero = refl
count_cell (suc n) = skip (long_row 0 (n + 1) == 193) true _ (off_long 193 (n + 1) (lit< tt)) ∙ sym (raised _ _ (count_cell n))

count_long : (n t : ℕ) → n < t → t ≤ 1000 → count (changes_of (called n ++ base)) (long_row 0 t) ≡ 0
unfolding count changes_of called
count_long zero t less high = low_count (changes_of base) t base_low
count_long (suc n) t less high =
    skip (long_row 0 (n + 1) == long_row 0 t) true _ (off_other n t less high)
    ∙ (skip (8506 == long_row 0 t) true _ (off_low 8506 t (lit< tt))
    ∙ (skip (193 == long_row 0 t) true _ (off_low 193 t (lit< tt))
    ∙ (skip (8506 == long_row 0 t) true _ (off_low 8506 t (lit< tt)) ∙ count_long n t (omega (arith, less)) high)))

counted : (n : ℕ) → n ≤ 1000 → IsCounted (changes_of (called n ++ base))
unfolding count changes_of all_calls called
counted zero high = (refl, (refl, (refl, (refl, (refl, (refl, (refl, (refl, tt))))))))
counted (suc n) high = (
  raised _ 0 (skip (8506 == long_row 0 (n + 1)) true _ (off_low 8506 (n + 1) (lit< tt))
      ∙ (skip (193 == long_row 0 (n + 1)) true _ (off_low 193 (n + 1) (lit< tt))
      ∙ (skip (8506 == long_row 0 (n + 1)) true _ (off_low 8506 (n + 1) (lit< tt)) ∙ count_long n (n + 1) (omega arith) (omega (arith, high))))),
  (
    raised_twice _ _ (count_current n),
    (ap (λ z. z + 1) (sym (count_cell n)), (raised _ _ (count_current n), counted n (omega (arith, high)))),
  ),
)

-- their marks are in no action, and behind none
unfoldable marks : ℕ → List Mark
marks zero = []
marks (suc n) =
    mark (long_row 0 (n + 1)) 1 true 0 0 ∷ mark 8506 (suc (suc (double n))) true 0 0 ∷ mark 193 (n + 1) true 0 0 ∷ mark 8506 (suc (double n)) true 0 0 ∷ marks n

no_action : (n : ℕ) → action_in (called n) ≡ 0
unfolding called
no_action zero = refl
no_action (suc n) = no_action n

no_after : (n : ℕ) → after_in (called n) ≡ 0
unfolding called
no_after zero = refl
no_after (suc n) = no_after n

abbrev marks_with : ℕ → ℕ → ℕ → List Mark → List Mark
marks_with n a b xs =
    mark (long_row 0 (n + 1)) 1 true a b ∷ mark 8506 (suc (suc (double n))) true a b ∷ mark 193 (n + 1) true a b ∷ mark 8506 (suc (double n)) true a b ∷ xs

marks_are : (n : ℕ) → marks_of (called n) ≡ marks n
unfolding marks_of marks called
marks_are zero = refl
marks_are (suc n) =
    ap (λ z. marks_with n z (after_in (called n)) (marks_of (called n))) (no_action n)
    ∙ (ap (λ z. marks_with n 0 z (marks_of (called n))) (no_after n) ∙ ap (λ z. marks_with n 0 0 z) (marks_are n))

abbrev marked_all : ℕ → List Mark
marked_all n = marks n ++ all_marks others

marks_once : (n : ℕ) (h : Mark → ℕ) → total h (all_marks (called n ∷ others)) ≡ total h (marked_all n)
unfolding all_marks
marks_once n h = ap (λ z. total h (z ++ all_marks others)) (marks_are n)

marked_same : (n row : ℕ) → 0 < row → marked (marked_all n) row ≡ count (changes_of (called n ++ base)) row
unfolding all_calls
marked_same n row some = marked_is (marked_all n) (called n ∷ others) row some (marks_once n)

marked_zero : (n : ℕ) → marked (marked_all n) 0 ≡ 2
unfolding marked marks all_marks marks_of
marked_zero zero = refl
marked_zero (suc n) = skip (long_row 0 (n + 1) == 0) true _ (off_long 0 (n + 1) (lit< tt)) ∙ marked_zero n

are_marked : (n : ℕ) → n ≤ 1000 → AreMarked (marked_all n)
unfolding marked marks all_marks marks_of
are_marked zero high = (refl, (refl, (refl, (refl, (refl, (refl, (refl, (refl, (refl, (refl, tt))))))))))
are_marked (suc n) high = (
  raised _ 0 (skip (8506 == long_row 0 (n + 1)) true _ (off_low 8506 (n + 1) (lit< tt))
      ∙ (skip (193 == long_row 0 (n + 1)) true _ (off_low 193 (n + 1) (lit< tt))
      ∙ (skip (8506 == long_row 0 (n + 1)) true _ (off_low 8506 (n + 1) (lit< tt))
      ∙ (marked_same n (long_row 0 (n + 1)) (omega arith) ∙ count_long n (n + 1) (omega arith) (omega (arith, high)))))),
  (
    raised_twice _ _ (marked_same n 8506 (lit< tt) ∙ count_current n),
    (
      ap (λ z. z + 1) (sym (marked_same n 193 (lit< tt) ∙ count_cell n)),
      (raised _ _ (marked_same n 8506 (lit< tt) ∙ count_current n), are_marked n (omega (arith, high))),
    ),
  ),
)

-- a change in no action falls behind none
no_fall : (b c : Bool) → one_if (b && false && c) ≡ 0
no_fall false c = refl
no_fall true c = refl

none_falls : (row version : ℕ) (xs : List Mark) → total (λ p. one_if (falls (mark row version true 0 0) p)) xs ≡ 0
unfolding total
none_falls row version [] = refl
none_falls row version (p ∷ xs) = zero_sum _ _ (no_fall (p.row == row) (nat_lt 0 p.action)) (none_falls row version xs)

are_ordered : (n : ℕ) → AreOrdered (marked_all n)
unfolding marks total all_marks marks_of
are_ordered zero = (refl, (refl, (refl, (refl, (refl, (refl, (refl, (refl, (refl, (refl, tt))))))))))
are_ordered (suc n) = (
  none_falls (long_row 0 (n + 1)) 1 (mark 8506 (suc (suc (double n))) true 0 0 ∷ mark 193 (n + 1) true 0 0 ∷ mark 8506 (suc (double n)) true 0 0 ∷ (marks n ++ all_marks others)),
  (
    none_falls 8506 (suc (suc (double n))) (mark 193 (n + 1) true 0 0 ∷ mark 8506 (suc (double n)) true 0 0 ∷ (marks n ++ all_marks others)),
    (
      none_falls 193 (n + 1) (mark 8506 (suc (double n)) true 0 0 ∷ (marks n ++ all_marks others)),
      (none_falls 8506 (suc (double n)) (marks n ++ all_marks others), are_ordered n),
    ),
  ),
)

-- who knows no action as ended has no floor
not_yet : (b c : Bool) (a : ℕ) → one_if ((b && nat_lt 0 a && nat_le a 0) && c) ≡ 0
not_yet false c a = refl
not_yet true c zero = refl
not_yet true c (suc a) = at (nat_lt 0 (suc a)) (nat_le (suc a) 0) refl where
  at : (x y : Bool) → nat_le (suc a) 0 ≡ y → one_if ((x && y) && c) ≡ 0
  at false y e = refl
  at true false e = refl
  at true true e = absurd (omega (arith, leb-true (suc a) 0 e))

none_past : (row : ℕ) (test : Mark → Bool) (xs : List Mark) → total (λ p. one_if (is_past row 0 p && test p)) xs ≡ 0
unfolding total
none_past row test [] = refl
none_past row test (p ∷ xs) = zero_sum _ _ (not_yet (p.row == row) (test p) p.action) (none_past row test xs)

past : (row after : ℕ) → after ≡ 0 → (test : Mark → Bool) (xs : List Mark) → total (λ p. one_if (is_past row after p && test p)) xs ≡ 0
past row after e test xs = subst (λ z. total (λ p. one_if (is_past row z p && test p)) xs ≡ 0) (sym e) (none_past row test xs)

row_floored : (n row k : ℕ) (log : List Mark) → reaching log row k (after_in (called n)) ≡ 0
row_floored n row k log = past row (after_in (called n)) (no_after n) (λ p. nat_le k p.version) log

word_floored : (n at k : ℕ) (words : List Mark) → above words at k (after_in (called n)) ≡ 0
word_floored n at k words = past at (after_in (called n)) (no_after n) (λ p. nat_lt k p.version) words

are_floored : (n : ℕ) (log words : List Mark) → AreFloored log words (called n)
unfolding called
are_floored zero log words = tt
are_floored (suc n) log words = (
  row_floored n (long_row 0 (n + 1)) 1 log,
  (
    tt,
    (
      row_floored n 8506 (suc (suc (double n))) log,
      (
        row_floored n 193 (n + 1) log,
        (
          word_floored n 2 1 words,
          (word_floored n 0 0 words, (row_floored n 8506 (suc (double n)) log, (word_floored n 33 0 words, (word_floored n 2 1 words, (word_floored n 0 0 words, are_floored n log words))))),
        ),
      ),
    ),
  ),
)

-- nor do the waits' changes lift one
no_part : (b c d : Bool) → one_if ((b && false && c) && d) ≡ 0
no_part false c d = refl
no_part true c d = refl

more : (n row after : ℕ) (test : Mark → Bool) (log : List Mark) → total (λ p. one_if (is_past row after p && test p)) log ≡ 0
    → total (λ p. one_if (is_past row after p && test p)) (marks n ++ log) ≡ 0
unfolding total marks
more zero row after test log h = h
more (suc n) row after test log h =
    zero_sum _ _ (no_part (long_row 0 (n + 1) == row) _ _)
    (zero_sum _ _ (no_part (8506 == row) _ _)
    (zero_sum _ _ (no_part (193 == row) _ _)
    (zero_sum _ _ (no_part (8506 == row) _ _) (more n row after test log h))))

no_release : (b c d e : Bool) → one_if ((b && false && c) && d && e) ≡ 0
no_release false c d e = refl
no_release true c d e = refl

freed_more : (n row after k : ℕ) (log : List Mark) → freed log row k after ≡ 0 → freed (marks n ++ log) row k after ≡ 0
unfolding total marks
freed_more zero row after k log h = h
freed_more (suc n) row after k log h =
    zero_sum _ _ (no_release (long_row 0 (n + 1) == row) _ _ _)
    (zero_sum _ _ (no_release (8506 == row) _ _ _)
    (zero_sum _ _ (no_release (193 == row) _ _ _)
    (zero_sum _ _ (no_release (8506 == row) _ _ _) (freed_more n row after k log h))))

floor_more : (n : ℕ) (log words : List Mark) (after : ℕ) (call : Call) → IsFloored log words after call → IsFloored (marks n ++ log) words after call
floor_more n log words after (Adds row value (Counted r k)) h = more n r after (λ p. nat_le k p.version) log h
floor_more n log words after (Adds row value (Held r v w)) h = tt
floor_more n log words after (Rings row content (Done k)) h = more n row after (λ p. nat_le k p.version) log h
floor_more n log words after (Rings row content (Busy v w)) h = tt
floor_more n log words after (Rings row content (Late t k)) h = more n row after (λ p. nat_lt k p.version) log h
floor_more n log words after (Reads row (Whole k found)) h = (more n row after (λ p. nat_lt k p.version) log h.0, freed_more n row after k log h.1)
floor_more n log words after (Reads row (Free w)) h = more n row after (λ p. nat_lt (w / 4) p.version) log h
floor_more n log words after (Reads row (sees.Busy v w)) h = tt
floor_more n log words after (Loads at k found) h = h
floor_more n log words after (Draws kind ticket) h = tt
floor_more n log words after (Meets versions) h = h
floor_more n log words after (Takes row k found) h = more n row after (λ p. nat_lt k p.version) log h
floor_more n log words after (Puts row content k) h = more n row after (λ p. nat_le k p.version) log h
floor_more n log words after (Frees row k) h = more n row after (λ p. nat_lt k p.version) log h
floor_more n log words after (Sets at to k) h = h
floor_more n log words after (Enters label labels) h = tt
floor_more n log words after Leaves h = tt

floors_more : (n : ℕ) (log words : List Mark) (calls : List Call) → AreFloored log words calls → AreFloored (marks n ++ log) words calls
floors_more n log words [] h = tt
floors_more n log words (call ∷ calls) h = (floor_more n log words (after_in calls) call h.0, floors_more n log words calls h.1)

all_floors_more : (n : ℕ) (log words : List Mark) (actors : List (List Call)) → AllCalls (AreFloored log words) actors → AllCalls (AreFloored (marks n ++ log) words) actors
all_floors_more n log words [] h = tt
all_floors_more n log words (calls ∷ actors) h = (floors_more n log words calls h.0, all_floors_more n log words actors h.1)

others_floored : AllCalls (AreFloored (all_marks others) (all_word_marks others)) others
unfolding total marked marks_of all_marks word_marks_of all_word_marks
others_floored = (
  (refl, (tt, (refl, (refl, (refl, (refl, (refl, (refl, (refl, (refl, tt)))))))))),
  ((tt, (refl, (refl, (refl, (tt, tt))))), ((tt, (refl, (refl, (refl, (refl, (refl, (refl, (refl, (refl, (refl, (tt, tt))))))))))), tt)),
)

-- what each wait named is above all that the ones before it did
top_current : (n : ℕ) → top_in (called n) 8506 ≡ double n
unfolding called
top_current zero = refl
top_current (suc n) = pass (long_row 0 (n + 1) == 8506) _ _ (off_long 8506 (n + 1) (lit< tt))

top_cell : (n : ℕ) → top_in (called n) 193 ≡ n
unfolding called
top_cell zero = refl
top_cell (suc n) = pass (long_row 0 (n + 1) == 193) _ _ (off_long 193 (n + 1) (lit< tt)) ∙ plus_one n

top_long : (n t : ℕ) → n < t → t ≤ 1000 → top_in (called n) (long_row 0 t) ≡ 0
unfolding called
top_long zero t less high = refl
top_long (suc n) t less high =
    pass (long_row 0 (n + 1) == long_row 0 t) _ _ (off_other n t less high)
    ∙ (pass (8506 == long_row 0 t) _ _ (off_low 8506 t (lit< tt))
    ∙ (pass (193 == long_row 0 t) _ _ (off_low 193 t (lit< tt))
    ∙ (pass (8506 == long_row 0 t) _ _ (off_low 8506 t (lit< tt)) ∙ top_long n t (omega (arith, less)) high)))

top_consumers : (n : ℕ) → top_word (called n) 0 ≤ 0
unfolding called
top_consumers zero = lit≤ tt
top_consumers (suc n) = lit≤ tt

top_class : (n : ℕ) → top_word (called n) 33 ≤ 0
unfolding called
top_class zero = lit≤ tt
top_class (suc n) = lit≤ tt

top_thread : (n : ℕ) → top_word (called n) 2 ≤ 1
unfolding called
top_thread zero = lit≤ tt
top_thread (suc n) = lit≤ tt

ticket_up : (n : ℕ) → (n + 1) + 1 ≤ suc n + 1
ticket_up n = omega arith

drawn_up : (n : ℕ) → top_ticket (called n) 0 ≤ n + 1
unfolding called
drawn_up zero = lit≤ tt
drawn_up (suc n) = ticket_up n

are_rising : (n : ℕ) → n ≤ 1000 → AreRising (called n)
unfolding called
are_rising zero high = tt
are_rising (suc n) high = (
  below _ (pass (8506 == long_row 0 (n + 1)) _ _ (off_low 8506 (n + 1) (lit< tt))
      ∙ (pass (193 == long_row 0 (n + 1)) _ _ (off_low 193 (n + 1) (lit< tt))
      ∙ (pass (8506 == long_row 0 (n + 1)) _ _ (off_low 8506 (n + 1) (lit< tt)) ∙ top_long n (n + 1) (omega arith) (omega (arith, high))))),
  (
    drawn_up n,
    (
      higher _ _ refl,
      (
        next _ _ (top_cell n),
        (lit≤ tt, (lit≤ tt, (higher _ _ (top_current n), (top_class n, (top_thread n, (top_consumers n, are_rising n (omega (arith, high)))))))),
      ),
    ),
  ),
)

-- the rows, words and tickets are there
long_there : (t : ℕ) → long_row 0 t < 14242
long_there t = omega arith

are_there : (n : ℕ) → AreThere (called n)
unfolding called
are_there zero = tt
are_there (suc n) =
    (long_there (n + 1), (lit< tt, (lit< tt, (lit< tt, (lit< tt, (lit< tt, (lit< tt, (lit< tt, (lit< tt, (lit< tt, are_there n))))))))))

have_causes : (n : ℕ) (log own : List Mark) → AreCaused log own (called n)
unfolding called
have_causes zero log own = tt
have_causes (suc n) log own = (tt, (tt, (tt, (tt, (tt, (tt, (tt, (tt, (tt, (tt, have_causes n log own))))))))))

are_named : (n : ℕ) (labels : List Label) → AreNamed labels (called n)
unfolding called
are_named zero labels = tt
are_named (suc n) labels = (tt, (tt, (tt, (tt, (tt, (tt, (tt, (tt, (tt, (tt, are_named n labels))))))))))

-- tickets are drawn one by one
drawn_are : (n : ℕ) → drawn (draws_of (called n ++ base)) 0 ≡ suc n
unfolding drawn draws_of all_calls called
drawn_are zero = refl
drawn_are (suc n) = sym (raised _ _ (drawn_are n))

are_drawn : (n : ℕ) → AreDrawn (draws_of (called n ++ base))
unfolding drawn draws_of all_calls called
are_drawn zero = (refl, tt)
are_drawn (suc n) = (plus_one n ∙ sym (drawn_are n), are_drawn n)

-- no word is set
no_sets : (n : ℕ) (calls : List Call) → sets_of (called n ++ calls) ≡ sets_of calls
unfolding sets_of called
no_sets zero calls = refl
no_sets (suc n) calls = no_sets n calls

no_words : (n : ℕ) → word_marks_of (called n) ≡ []
unfolding word_marks_of called
no_words zero = refl
no_words (suc n) = no_words n

-- what stands in each row at each version
abbrev cell_words : ℕ → List ℕ
cell_words zero = zero_words
cell_words (suc k) = merged (cell_words k) amount

abbrev words_from : ℕ → ℕ → List ℕ
words_from k zero = begun_words 1 k
words_from k (suc zero) = ended_words 1 k
words_from k (suc (suc v)) = words_from (suc k) v

abbrev current_words : ℕ → List ℕ
current_words zero = replicate 16 0
current_words (suc v) = words_from 1 v

abbrev first_words : ℕ → List ℕ
first_words zero = replicate 16 0
first_words (suc zero) = begun_words 0 1
first_words (suc (suc v)) = ended_words 0 1

abbrev ticket_at : ℕ → ℕ
ticket_at row = cond (row == 10242) 1000 (row - 10242)

abbrev words_at : ℕ → ℕ → List ℕ
words_at row zero = opening_content row
words_at row (suc v) = long_words 1 (ticket_at row) (ticket_at row)

abbrev content : ℕ → ℕ → List ℕ
content row version =
    cond (row == 193) (cell_words version)
    (cond (row == 8506) (current_words version)
    (cond (row == 8450) (first_words version) (cond (nat_le 10242 row) (words_at row version) (stands base row version))))

none_before : (k : ℕ) → k ≡ 0 + k
none_before k = omega arith

all_behind : (n k : ℕ) → n + suc k ≡ suc n + k
all_behind n k = omega arith

begun_from : (n k : ℕ) → words_from k (double n) ≡ begun_words 1 (n + k)
begun_from zero k = ap (λ z. begun_words 1 z) (none_before k)
begun_from (suc n) k = begun_from n (suc k) ∙ ap (λ z. begun_words 1 z) (all_behind n k)

ended_from : (n k : ℕ) → words_from k (suc (double n)) ≡ ended_words 1 (n + k)
ended_from zero k = ap (λ z. ended_words 1 z) (none_before k)
ended_from (suc n) k = ended_from n (suc k) ∙ ap (λ z. ended_words 1 z) (all_behind n k)

ticket_back : (t : ℕ) → t < 1000 → long_row 0 t - 10242 ≡ t
ticket_back t less = omega (arith, less)

ticket_is : (t : ℕ) → 0 < t → t ≤ 1000 → ticket_at (long_row 0 t) ≡ t
ticket_is t some high = by (nat_lt t 1000) refl where
  by : (b : Bool) → nat_lt t 1000 ≡ b → ticket_at (long_row 0 t) ≡ t
  by true e =
      let less : t < 1000 = ltb-true t 1000 e in
      pass (long_row 0 t == 10242) 1000 (long_row 0 t - 10242) (ne_eqb (long_row 0 t) 10242 (λ f. omega (arith, some, less, f))) ∙ ticket_back t less
  by false e =
      let is : t ≡ 1000 = omega (arith, high, ltb-false t 1000 e) in
      keep (long_row 0 t == 10242) 1000 (long_row 0 t - 10242) (eq-eqb (long_row 0 t) 10242 (omega (arith, is))) ∙ sym is

stands_long : (t : ℕ) → 0 < t → t ≤ 1000 → content (long_row 0 t) 1 ≡ long_words 1 t t
stands_long t some high =
    pass (long_row 0 t == 193) _ _ (off_long 193 t (lit< tt))
    ∙ (pass (long_row 0 t == 8506) _ _ (off_long 8506 t (lit< tt))
    ∙ (pass (long_row 0 t == 8450) _ _ (off_long 8450 t (lit< tt))
    ∙ (ap (λ b. cond b (words_at (long_row 0 t) 1) (stands base (long_row 0 t) 1)) (le-leb 10242 (long_row 0 t) (omega arith))
    ∙ ap (λ z. long_words 1 z z) (ticket_is t some high))))

opens_words : (row : ℕ) → stands base row 0 ≡ opening_content row → content row 0 ≡ opening_content row
opens_words row h = one (row == 193) (row == 8506) (row == 8450) (nat_le 10242 row) refl refl refl where
  one : (a b c d : Bool) → (row == 193) ≡ a → (row == 8506) ≡ b → (row == 8450) ≡ c
      → cond a zero_words (cond b (replicate 16 0) (cond c (replicate 16 0) (cond d (opening_content row) (stands base row 0)))) ≡ opening_content row
  one true b c d e f g = sym (ap opening_content (eqb-true row 193 e))
  one false true c d e f g = sym (ap opening_content (eqb-true row 8506 f))
  one false false true d e f g = sym (ap opening_content (eqb-true row 8450 g))
  one false false false true e f g = refl
  one false false false false e f g = h

base_anew : Each IsAnew base
base_anew = (tt, (tt, (tt, (lit< tt, (tt, (tt, (tt, (tt, (tt, (tt, (tt, (tt, (lit< tt, (tt, (tt, (tt, (tt, (lit< tt, (tt, (lit< tt, (tt, (lit< tt, (tt, (lit< tt, (tt, (tt, tt))))))))))))))))))))))))))

begun_anew : Each IsAnew begun
begun_anew = (tt, (tt, (lit< tt, (tt, (tt, (tt, (tt, (lit< tt, (tt, (lit< tt, (tt, (lit< tt, (tt, (lit< tt, (tt, (tt, tt))))))))))))))))

-- a long place stood free at first
is_free : (b c d : Bool) → b ≡ false → d ≡ false → not (b || (c && d)) ≡ true
is_free false false false e f = refl
is_free false true false e f = refl
is_free false c true e f = absurd (false≢true (sym f))
is_free true c d e f = absurd (false≢true (sym e))

some_free : (n : ℕ) (b : Bool) → b ≡ true → 0 < n + one_if b
some_free n true e = omega arith
some_free n false e = absurd (false≢true e)

free_there : (log : List At) (t : ℕ) → 0 < frees_at log (long_row 0 t) 0
free_there log t = some_free _ (opens_free (long_row 0 t)) (is_free (long_row 0 t == 0) (nat_le 129 (long_row 0 t)) (nat_lt (long_row 0 t) 8450) (off_long 0 t (lit< tt)) (le-ltb (long_row 0 t) 8450 (omega arith)))

abbrev sets : List Setting
sets = sets_of (all_calls others)

all_agree : (n : ℕ) → n ≤ 1000 → (log : List At) → AllAgree flags content log sets (called n)
unfolding called sets_of all_calls word_version flags_at
all_agree zero high log = tt
all_agree (suc n) high log = (
  (0, (refl, stands_long (n + 1) (more_than_none n) (omega (arith, high)), λ long. inl (free_there log (n + 1)))),
  (
    tt,
    (
      (suc (double n), (sym (plus_one (suc (double n))), ended_from n 1, λ long. absurd (omega (arith, long)))),
      (
        (n, (refl, ap cell_words (plus_one n))),
        (
          (refl, lit≤ tt),
          (
            (refl, lit≤ tt),
            (
              (double n, (sym (plus_one (double n)), begun_from n 1, λ long. absurd (omega (arith, long)))),
              ((refl, lit≤ tt), ((refl, lit≤ tt), ((refl, lit≤ tt), all_agree n (omega (arith, high)) log))),
            ),
          ),
        ),
      ),
    ),
  ),
)

-- at the 1,000th wait the first place is taken
is_taken : (b : Bool) (n : ℕ) → b ≡ true → 1 ≤ cond (b && true) (n + 1) n
is_taken true n e = omega arith
is_taken false n e = absurd (false≢true e)

taken : (m : ℕ) → suc m ≡ 1000 → 1 ≤ count (changes_of (called (suc m) ++ base)) 10242
unfolding count changes_of called
taken m e = is_taken (long_row 0 (m + 1) == 10242) _ (eq-eqb (long_row 0 (m + 1)) 10242 (omega (arith, e)))

others_agree : (log : List At) → 1 ≤ count log 10242 → AllAgree flags content log sets base
unfolding sets_of all_calls word_version flags_at
others_agree log some = (
  (refl, some),
  (
    tt,
    (
      (1, (refl, refl, λ long. absurd (omega (arith, long)))),
      (
        (0, (refl, refl)),
        (
          (refl, lit≤ tt),
          (
            (refl, lit≤ tt),
            (
              (0, (refl, refl, λ long. absurd (omega (arith, long)))),
              ((refl, lit≤ tt), ((refl, lit≤ tt), ((refl, lit≤ tt), (tt, (refl, (refl, ((refl, least _), (tt, (tt, (refl, (refl, ((refl, least _), (refl, ((refl, least _), (refl, ((refl, least _), (refl, ((refl, least _), (tt, tt))))))))))))))))))),
            ),
          ),
        ),
      ),
    ),
  ),
)

agree_then : (content : ℕ → ℕ → List ℕ) (log : List At) (words : List Setting) (xs ys : List Call) → AllAgree flags content log words xs → AllAgree flags content log words ys
    → AllAgree flags content log words (xs ++ ys)
agree_then content log words [] ys f g = g
agree_then content log words (x ∷ xs) ys f g = (f.0, agree_then content log words xs ys f.1 g)

-- both connect
first_joint : Joint flags before (stands begun) (changes_of (all_calls before)) (sets_of (all_calls before)) []
unfolding total count changes_of sets_of word_version flags_at draws_of all_calls
first_joint = record {
  chain = (refl, (refl, (refl, (refl, (refl, tt)))));
  words = (refl, (refl, tt));
  tickets = tt;
  opens = λ row up low. opens begun begun_anew row;
  once = λ h. refl;
  sets_once = λ h. refl;
  draws_once = λ h. refl;
  agrees = (tt, (refl, (refl, ((refl, lit≤ tt), (tt, (tt, (refl, (refl, ((refl, lit≤ tt), (refl, ((refl, lit≤ tt), (refl, ((refl, lit≤ tt), (refl, ((refl, lit≤ tt), (tt, tt))))))))))))))));
}

first_order : Order before (all_marks before) (all_word_marks before) (label 1 1 ∷ label 2 1 ∷ [])
unfolding total marked marks_of all_marks word_marks_of all_word_marks
first_order = record {
  chain = (refl, (refl, (refl, (refl, (refl, (refl, (refl, tt)))))));
  word_chain = (refl, (refl, tt));
  ordered = (refl, (refl, (refl, (refl, (refl, (refl, (refl, tt)))))));
  once = λ h. refl;
  words_once = λ h. refl;
  ended = refl;
  floored = ((tt, (refl, (refl, (refl, (tt, tt))))), ((tt, (refl, (refl, (refl, (refl, (refl, (refl, (refl, (refl, (refl, (tt, tt))))))))))), tt));
  rising = ((lit< tt, (lit< tt, (lit< tt, (lit≤ tt, (lit≤ tt, tt))))), ((lit< tt, (lit< tt, (lit< tt, (lit≤ tt, (lit< tt, (lit≤ tt, (lit< tt, (lit≤ tt, (lit< tt, (lit≤ tt, (lit≤ tt, tt))))))))))), tt));
  there = ((tt, (lit< tt, (lit< tt, (lit< tt, (tt, tt))))), ((tt, (lit< tt, (lit< tt, (lit< tt, (lit< tt, (lit< tt, (lit< tt, (lit< tt, (lit< tt, (lit< tt, (tt, tt))))))))))), tt));
  caused = ((tt, (tt, (tt, (tt, (tt, tt))))), ((tt, (tt, (tt, (tt, (tt, (tt, (tt, (tt, (tt, (tt, (tt, tt))))))))))), tt));
  named = ((refl, (tt, (tt, (tt, ((label 2 1 ∷ [], refl), tt))))), ((refl, (tt, (tt, (tt, (tt, (tt, (tt, (tt, (tt, (tt, ((label 1 1 ∷ label 2 1 ∷ [], refl), tt))))))))))), tt));
}

first_shared : IsShared flags [] before
unfolding count changes_of sets_of word_version all_calls
first_shared = record {
  content = stands begun;
  log = changes_of (all_calls before);
  sets = sets_of (all_calls before);
  draws = [];
  marks = all_marks before;
  words = all_word_marks before;
  labels = label 1 1 ∷ label 2 1 ∷ [];
  joint = first_joint;
  order = first_order;
  since = ((tt, (lit< tt, (lit< tt, (lit≤ tt, (tt, tt))))), ((tt, (lit< tt, (lit< tt, (lit≤ tt, (lit< tt, (lit≤ tt, (lit< tt, (lit≤ tt, (lit< tt, (lit≤ tt, (tt, tt))))))))))), tt));
}

-- then they are at once
abbrev actors : ℕ → List (List Call)
actors n = called n ∷ others

abbrev log : ℕ → List At
log n = changes_of (called n ++ base)

sets_counted : AreWordsCounted sets
unfolding sets_of all_calls word_version
sets_counted = (refl, (refl, tt))

joint : (m : ℕ) → suc m ≡ 1000 → Joint flags (actors (suc m)) content (log (suc m)) sets (draws_of (called (suc m) ++ base))
unfolding all_calls
joint m e = record {
  chain = counted (suc m) (omega (arith, e));
  words = sets_counted;
  tickets = are_drawn (suc m);
  opens = λ row up low. opens_words row (opens base base_anew row);
  once = λ h. refl;
  sets_once = λ h. ap (total h) (no_sets (suc m) base);
  draws_once = λ h. refl;
  agrees = agree_then content (log (suc m)) sets (called (suc m)) base (all_agree (suc m) (omega (arith, e)) (log (suc m))) (others_agree (log (suc m)) (taken m e));
}

abbrev labels : List Label
labels = label 1 1 ∷ label 2 1 ∷ []

word_chain : AreMarked (all_word_marks others)
unfolding marked word_marks_of all_word_marks
word_chain = (refl, (refl, tt))

words_once : (n : ℕ) (h : Mark → ℕ) → total h (all_word_marks (actors n)) ≡ total h (all_word_marks others)
unfolding all_word_marks
words_once n h = ap (λ z. total h (z ++ all_word_marks others)) (no_words n)

order : (n : ℕ) → n ≤ 1000 → Order (actors n) (marked_all n) (all_word_marks others) labels
order n high = record {
  chain = are_marked n high;
  word_chain = word_chain;
  ordered = are_ordered n;
  once = marks_once n;
  words_once = words_once n;
  ended = sym (marked_zero n);
  floored = (are_floored n (marked_all n) (all_word_marks others), all_floors_more n (all_marks others) (all_word_marks others) others others_floored);
  rising = (are_rising n high, ((lit≤ tt, (lit≤ tt, (lit< tt, (lit< tt, (lit≤ tt, (lit≤ tt, (lit< tt, (lit≤ tt, (lit≤ tt, (lit≤ tt, tt)))))))))), first_order.rising));
  there = (are_there n, ((lit< tt, (lit< tt, (lit< tt, (lit< tt, (lit< tt, (lit< tt, (lit< tt, (lit< tt, (lit< tt, (lit< tt, tt)))))))))), first_order.there));
  caused = (
    have_causes n (marked_all n) (marks_of (called n)),
    (
      (tt, (tt, (tt, (tt, (tt, (tt, (tt, (tt, (tt, (tt, tt)))))))))),
      ((tt, (tt, (tt, (tt, (tt, tt))))), ((tt, (tt, (tt, (tt, (tt, (tt, (tt, (tt, (tt, (tt, (tt, tt))))))))))), tt)),
    ),
  );
  named = (are_named n labels, ((tt, (tt, (tt, (tt, (tt, (tt, (tt, (tt, (tt, (tt, tt)))))))))), first_order.named));
}

-- none is below what they left when they had connected
are_since : (n : ℕ) → AreSince (changes_of (all_calls before)) (sets_of (all_calls before)) (called n)
unfolding called count changes_of sets_of word_version all_calls
are_since zero = tt
are_since (suc n) =
    (below _ (low_count (changes_of (all_calls before)) (n + 1) begun_low), (tt, (up (suc (double n)), (more_than_none n, (lit≤ tt, (lit≤ tt, (up (double n), (lit≤ tt, (lit≤ tt, (lit≤ tt, are_since n))))))))))

late_since : AreSince (changes_of (all_calls before)) (sets_of (all_calls before)) (doings_calls third.doings)
unfolding count changes_of sets_of word_version all_calls
late_since = (lit≤ tt, (tt, (lit< tt, (lit< tt, (lit≤ tt, (lit≤ tt, (lit< tt, (lit≤ tt, (lit≤ tt, (lit≤ tt, tt))))))))))

shared : (m : ℕ) → suc m ≡ 1000 → IsShared flags before (called (suc m) ∷ doings_calls third.doings ∷ [])
shared m e = record {
  content = content;
  log = log (suc m);
  sets = sets;
  draws = draws_of (called (suc m) ++ base);
  marks = marked_all (suc m);
  words = all_word_marks others;
  labels = labels;
  joint = joint m e;
  order = order (suc m) (omega (arith, e));
  since = (are_since (suc m), (late_since, tt));
}

-- in later phases nothing is done
later : (m : ℕ) → suc m ≡ 1000 → IsShared flags (actors (suc m)) []
later m e = record {
  content = content;
  log = log (suc m);
  sets = sets;
  draws = draws_of (called (suc m) ++ base);
  marks = marked_all (suc m);
  words = all_word_marks others;
  labels = labels;
  joint = joint m e;
  order = order (suc m) (omega (arith, e));
  since = tt;
}

are_shared : (m : ℕ) → suc m ≡ 1000 → AreShared flags (spells (suc m))
are_shared m e zero = first_shared
are_shared m e (suc zero) = subst (λ z. IsShared flags before (z ∷ doings_calls third.doings ∷ [])) (sym (calls_are (suc m))) (shared m e)
are_shared m e (suc (suc n)) =
    subst (λ z. IsShared flags (actors_of z) (actors_of (spells_at (suc (suc n)) (spells (suc m))))) (sym (later_before (suc m) n))
    (subst (λ z. IsShared flags (actors_of (spells (suc m))) (actors_of z)) (sym (later_at (suc m) n))
    (subst (λ z. IsShared flags (z ∷ others) []) (sym (calls_are (suc m))) (later m e)))

pub all_shared : (m : ℕ) → suc m ≡ 1000 → AreShared (opening_flags setting opening_objects) (spells (suc m))
all_shared m e = subst (λ z. AreShared z (spells (suc m))) (sym flags_are) (are_shared m e)

long_is : (t : ℕ) → 10242 ≤ long_row 0 t
long_is t = omega arith

place_is : (t : ℕ) → (long_row 0 t - 10242) % 1000 ≡ (t + 1 - 1) % 1000
place_is t = omega arith

are_placed : (n : ℕ) → Each IsPlaced (called n)
unfolding called
are_placed zero = tt
are_placed (suc n) = (
  inr (long_is (n + 1), long_there (n + 1), more_than_none (n + 1), place_is (n + 1)),
  (tt, (inl (lit≤ tt, lit< tt), (tt, (tt, (tt, (inl (lit≤ tt, lit< tt), (tt, (tt, (tt, are_placed n))))))))),
)

pub all_placed : (n : ℕ) → AllPlaced (spells n)
all_placed n = (
  subst (λ z. Each IsPlaced z) (sym (calls_are n)) (are_placed n),
  (
    (inr (lit≤ tt, lit< tt, lit< tt, refl), (tt, (inl (lit≤ tt, lit< tt), (tt, (tt, (tt, (inl (lit≤ tt, lit< tt), (tt, (tt, (tt, tt)))))))))),
    ((tt, (tt, (tt, (tt, (tt, tt))))), ((tt, (tt, (tt, (tt, (tt, (tt, (tt, (tt, (tt, (tt, (tt, tt))))))))))), tt)),
  ),
)

-- their facts are those of their steps
abbrev facts : ℕ → ℕ → ℕ → Facts
facts n session = (given (parts_by session (stints_of (spells n)))).0

have_facts : (n session : ℕ) → AllFacts (facts n session) at_first (parts_by session (stints_of (spells n)))
have_facts n session = (given (parts_by session (stints_of (spells n)))).1

-- so they keep all rules of a run
worked_by : (m : ℕ) (e : suc m ≡ 1000) → JoinedLaw → AreJoined setting change (facts (suc m)) (all_shared m e 1).labels (of_rows (all_shared m e 1).content) (spells (suc m))
unfolding setting
worked_by m e joined =
    joined setting change (facts (suc m)) (λ session. 5) (spells (suc m)) 1 (are_spells (suc m)) (all_shared m e) (all_placed (suc m)) (are_single (suc m))
    (lit≤ tt, (lit≤ tt, (lit≤ tt, (lit≤ tt, tt)))) (are_folded (suc m)) (connect_first (suc m)) (have_facts (suc m))

pub worked : JoinedLaw → AreJoined setting change (facts 1000) (all_shared 999 refl 1).labels (of_rows (all_shared 999 refl 1).content) (spells 1000)
worked = worked_by 999 refl
