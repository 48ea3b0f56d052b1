-- Sums of marks and of changes: of several actors, and of one among others.
use Rattle.std.proofs.Common.{ℕ, ◌≡◌, ◌+◌, ◌<◌, ◌==◌, true, false, ◌&&◌, List, [], ◌∷◌, ◌++◌, map, refl, ap, sym, ◌∙◌, arith, append_assoc, eqb-true, ne_eqb}
use Rattle.pfs_levels.specs.declared.answers.Added.TheVariants.{Counted, Held}
use Rattle.pfs_levels.specs.declared.answers.RingPut.TheVariants.{Done, Busy, Late}
use Rattle.pfs_levels.specs.Calls.{Call, Adds, Rings, Reads, Loads, Draws, Takes, Puts, Frees, Sets, Enters, Leaves, Meets, action_in}
use Rattle.pfs_levels.specs.JointCalls.{total, one_if, At, at_put, at_free, changes_by, changes_of, count, sets_by, sets_of, word_version, all_calls}
use Rattle.pfs_levels.specs.CallOrder.{Mark, marks_of, all_marks, word_marks_of, all_word_marks, marked}
use Rattle.pfs_law_joint.specs.Versions.{at_mark, at_set}
use Rattle.pfs_law_joint.proofs.Sums.{total_then, total_map}
use Rattle.pfs_law_joint.proofs.VersionChains.{puts_to, log_count, mark_count, sets_count}

-- of actors one after another
pub marks_then : (h : Mark → ℕ) (xs ys : List (List Call)) → total h (all_marks (xs ++ ys)) ≡ total h (all_marks xs) + total h (all_marks ys)
unfolding total all_marks
marks_then h [] ys = omega arith
marks_then h (x ∷ xs) ys =
    let a = total_then h (marks_of x) (all_marks (xs ++ ys)) in
    let b = total_then h (marks_of x) (all_marks xs) in
    omega (arith, a, b, marks_then h xs ys)

pub word_marks_then : (h : Mark → ℕ) (xs ys : List (List Call)) → total h (all_word_marks (xs ++ ys)) ≡ total h (all_word_marks xs) + total h (all_word_marks ys)
unfolding total all_word_marks
word_marks_then h [] ys = omega arith
word_marks_then h (x ∷ xs) ys =
    let a = total_then h (word_marks_of x) (all_word_marks (xs ++ ys)) in
    let b = total_then h (word_marks_of x) (all_word_marks xs) in
    omega (arith, a, b, word_marks_then h xs ys)

-- of one among others
pub marks_apart : (h : Mark → ℕ) (front : List (List Call)) (own : List Call) (behind before : List (List Call))
    → total h (all_marks ((front ++ own ∷ behind) ++ before)) ≡ (total h (all_marks (front ++ behind)) + total h (marks_of own)) + total h (all_marks before)
unfolding all_marks
marks_apart h front own behind before =
    let a = marks_then h (front ++ own ∷ behind) before in
    let b = marks_then h front (own ∷ behind) in
    let c = marks_then h front behind in
    let d = total_then h (marks_of own) (all_marks behind) in
    omega (arith, a, b, c, d)

pub changes_then : (xs ys : List Call) → changes_of (xs ++ ys) ≡ changes_of xs ++ changes_of ys
unfolding changes_of
changes_then [] ys = refl
changes_then (x ∷ xs) ys = ap (λ z. changes_by x ++ z) (changes_then xs ys) ∙ sym (append_assoc (changes_by x) (changes_of xs) (changes_of ys))

pub sets_then : (xs ys : List Call) → sets_of (xs ++ ys) ≡ sets_of xs ++ sets_of ys
unfolding sets_of
sets_then [] ys = refl
sets_then (x ∷ xs) ys = ap (λ z. sets_by x ++ z) (sets_then xs ys) ∙ sym (append_assoc (sets_by x) (sets_of xs) (sets_of ys))

-- where row 0 weighs nothing, marks weigh as changes
row_sums : (h : At → ℕ) → ((x : At) → (x.row == 0) ≡ true → h x ≡ 0) → (calls : List Call) → total (λ m. h (at_mark m)) (marks_of calls) ≡ total h (changes_of calls)
unfolding total marks_of changes_of
row_sums h none [] = refl
row_sums h none (Adds at amount (Counted r v) ∷ calls) = ap (λ n. h (at_put r v) + n) (row_sums h none calls)
row_sums h none (Adds at amount (Held r v w) ∷ calls) = row_sums h none calls
row_sums h none (Rings at content (Done v) ∷ calls) = ap (λ n. h (at_put at v) + n) (row_sums h none calls)
row_sums h none (Rings at content (Busy v w) ∷ calls) = row_sums h none calls
row_sums h none (Rings at content (Late t v) ∷ calls) = row_sums h none calls
row_sums h none (Reads at seen ∷ calls) = row_sums h none calls
row_sums h none (Loads at v found ∷ calls) = row_sums h none calls
row_sums h none (Draws kind ticket ∷ calls) = row_sums h none calls
row_sums h none (Meets versions ∷ calls) = row_sums h none calls
row_sums h none (Takes at v found ∷ calls) = row_sums h none calls
row_sums h none (Puts at content v ∷ calls) = ap (λ n. h (at_put at v) + n) (row_sums h none calls)
row_sums h none (Frees at v ∷ calls) = ap (λ n. h (at_free at v) + n) (row_sums h none calls)
row_sums h none (Sets at to v ∷ calls) = row_sums h none calls
row_sums h none (Enters label labels ∷ calls) = row_sums h none calls
row_sums h none (Leaves ∷ calls) = omega (arith, none (at_put 0 (action_in calls)) refl, row_sums h none calls)

pub all_row_sums : (h : At → ℕ) → ((x : At) → (x.row == 0) ≡ true → h x ≡ 0) → (actors : List (List Call))
    → total (λ m. h (at_mark m)) (all_marks actors) ≡ total h (changes_of (all_calls actors))
unfolding total all_marks all_calls changes_of
all_row_sums h none [] = refl
all_row_sums h none (calls ∷ actors) =
    let a = total_then (λ m. h (at_mark m)) (marks_of calls) (all_marks actors) in
    let b = ap (total h) (changes_then calls (all_calls actors)) ∙ total_then h (changes_of calls) (changes_of (all_calls actors)) in
    omega (arith, a, b, row_sums h none calls, all_row_sums h none actors)

word_sums : (h : At → ℕ) (calls : List Call) → total (λ m. h (at_mark m)) (word_marks_of calls) ≡ total (λ s. h (at_set s)) (sets_of calls)
unfolding total word_marks_of sets_of
word_sums h [] = refl
word_sums h (Sets at to v ∷ calls) = ap (λ n. h (at_put at v) + n) (word_sums h calls)
word_sums h (Adds at amount answer ∷ calls) = word_sums h calls
word_sums h (Rings at content answer ∷ calls) = word_sums h calls
word_sums h (Reads at seen ∷ calls) = word_sums h calls
word_sums h (Loads at v found ∷ calls) = word_sums h calls
word_sums h (Draws kind ticket ∷ calls) = word_sums h calls
word_sums h (Meets versions ∷ calls) = word_sums h calls
word_sums h (Takes at v found ∷ calls) = word_sums h calls
word_sums h (Puts at content v ∷ calls) = word_sums h calls
word_sums h (Frees at v ∷ calls) = word_sums h calls
word_sums h (Enters label labels ∷ calls) = word_sums h calls
word_sums h (Leaves ∷ calls) = word_sums h calls

pub all_word_sums : (h : At → ℕ) (actors : List (List Call)) → total (λ m. h (at_mark m)) (all_word_marks actors) ≡ total (λ s. h (at_set s)) (sets_of (all_calls actors))
unfolding total all_word_marks all_calls sets_of
all_word_sums h [] = refl
all_word_sums h (calls ∷ actors) =
    let a = total_then (λ m. h (at_mark m)) (word_marks_of calls) (all_word_marks actors) in
    let b = ap (total (λ s. h (at_set s))) (sets_then calls (all_calls actors)) ∙ total_then (λ s. h (at_set s)) (sets_of calls) (sets_of (all_calls actors)) in
    omega (arith, a, b, word_sums h calls, all_word_sums h actors)

-- so a row has as many versions by either
pub off_zero : (row : ℕ) → 0 < row → (x : At) → (x.row == 0) ≡ true → (x.row == row) ≡ false
off_zero row up x zero = ne_eqb x.row row (λ e. omega (arith, up, e, eqb-true x.row 0 zero))

pub marked_is : (log : List Mark) (actors : List (List Call)) (row : ℕ) → 0 < row → ((h : Mark → ℕ) → total h (all_marks actors) ≡ total h log)
    → marked log row ≡ count (changes_of (all_calls actors)) row
marked_is log actors row up once =
    sym (mark_count log row) ∙ (sym (once (λ m. puts_to row (at_mark m)))
    ∙ (all_row_sums (puts_to row) (λ x zero. ap (λ b. one_if (b && x.puts)) (off_zero row up x zero)) actors
    ∙ log_count (changes_of (all_calls actors)) row))

pub words_marked_is : (log : List Mark) (actors : List (List Call)) (word : ℕ) → ((h : Mark → ℕ) → total h (all_word_marks actors) ≡ total h log)
    → marked log word ≡ word_version (sets_of (all_calls actors)) word
words_marked_is log actors word once =
    let sets = sets_of (all_calls actors) in
    sym (mark_count log word) ∙ (sym (once (λ m. puts_to word (at_mark m)))
    ∙ (all_word_sums (puts_to word) actors ∙ (sym (total_map at_set (puts_to word) sets)
    ∙ (log_count (map at_set sets) word ∙ sets_count sets word))))

-- and lists that weigh the same have as many
pub marked_same : (some log : List Mark) (row : ℕ) → ((h : Mark → ℕ) → total h some ≡ total h log) → marked some row ≡ marked log row
marked_same some log row same = sym (mark_count some row) ∙ (same (λ m. puts_to row (at_mark m)) ∙ mark_count log row)

pub count_is : (log : List At) (some : List At) (row : ℕ) → ((h : At → ℕ) → total h some ≡ total h log) → count some row ≡ count log row
count_is log some row same = sym (log_count some row) ∙ (same (puts_to row) ∙ log_count log row)
