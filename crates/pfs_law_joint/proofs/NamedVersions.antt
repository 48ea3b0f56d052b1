-- What calls named of a row, or a word, is not above what is said of them in the end, since they rise.
use Rattle.std.proofs.Common.{ℕ, ◌≡◌, ◌<◌, ◌≤◌, ◌==◌, ◌/◌, true, false, Bool, cond, List, [], ◌∷◌, ◌++◌, length, inl, inr, refl, ap, sym, subst, arith, eqb-true, eq-eqb}
use Rattle.std.specs.Prelude.{◌⊎◌}
use Rattle.pfs_rows.specs.declared.table.Seen.TheVariants.{Whole, Free}
use Rattle.pfs_rows.specs.declared.table.Seen.TheVariants as sees
use Rattle.pfs_levels.specs.declared.answers.Added.TheVariants.{Counted, Held}
use Rattle.pfs_levels.specs.declared.answers.RingPut.TheVariants.{Done, Busy, Late}
use Rattle.pfs_levels.specs.Calls.{Call, Adds, Rings, Reads, Loads, Draws, Takes, Puts, Frees, Sets, Enters, Leaves, Meets, action_in}
use Rattle.pfs_levels.specs.CallOrder.{top_in, top_word, IsRising, AreRising}
use Rattle.pfs_law_joint.specs.Phases.{Names, NamesWord, NamedLaw, WordNamedLaw}

step_named : (b : Bool) (v t u : ℕ) → (b ≡ true → t ≤ v) → u ≤ t → u ≤ cond b v t
step_named true v t u h low = omega (arith, h refl, low)
step_named false v t u h low = low

at_named : (at row v t k : ℕ) → at ≡ row → k ≤ v → k ≤ cond (at == row) v t
at_named at row v t k e low = subst (λ b. k ≤ cond b v t) (sym (eq-eqb at row e)) low

of_two : (first second k : ℕ) → first / 4 ≤ second / 4 → (first / 4 ≡ k) ⊎ (second / 4 ≡ k) → k ≤ second / 4
of_two first second k up (inl e) = omega (arith, up, e)
of_two first second k up (inr e) = omega (arith, e)

row_here : (call : Call) (calls : List Call) (row k : ℕ) → IsRising calls call → Names call row k → k ≤ top_in (call ∷ calls) row
row_here (Adds at amount (Counted r v)) calls row k rise names = at_named r row v (top_in calls row) k names.0 (omega (arith, names.1))
row_here (Adds at amount (Held r first second)) calls row k rise names = at_named r row (second / 4) (top_in calls row) k names.0 (of_two first second k rise.1 names.1)
row_here (Rings at content (Done v)) calls row k rise names = at_named at row v (top_in calls row) k names.0 (omega (arith, names.1))
row_here (Rings at content (Busy first second)) calls row k rise names = at_named at row (second / 4) (top_in calls row) k names.0 (of_two first second k rise.1 names.1)
row_here (Rings at content (Late ticket v)) calls row k rise names = at_named at row v (top_in calls row) k names.0 (omega (arith, names.1))
row_here (Reads at (Whole v found)) calls row k rise names = at_named at row v (top_in calls row) k names.0 (omega (arith, names.1))
row_here (Reads at (Free w)) calls row k rise names = at_named at row (w / 4) (top_in calls row) k names.0 (omega (arith, names.1))
row_here (Reads at (sees.Busy first second)) calls row k rise names = at_named at row (second / 4) (top_in calls row) k names.0 (of_two first second k rise.1 names.1)
row_here (Loads at v flags) calls row k rise names = absurd names
row_here (Draws kind ticket) calls row k rise names = absurd names
row_here (Meets versions) calls row k rise names = absurd names
row_here (Takes at v found) calls row k rise names = at_named at row v (top_in calls row) k names.0 (omega (arith, names.1))
row_here (Puts at content v) calls row k rise names = at_named at row v (top_in calls row) k names.0 (omega (arith, names.1))
row_here (Frees at v) calls row k rise names = at_named at row v (top_in calls row) k names.0 (omega (arith, names.1))
row_here (Sets at flags v) calls row k rise names = absurd names
row_here (Enters label labels) calls row k rise names = absurd names
row_here Leaves calls row k rise names = absurd names

pub row_grows : (more calls : List Call) (row : ℕ) → AreRising (more ++ calls) → top_in calls row ≤ top_in (more ++ calls) row
row_grows [] calls row r = omega arith
row_grows (Adds at amount (Counted a v) ∷ more) calls row r =
    step_named (a == row) v (top_in (more ++ calls) row) (top_in calls row) (λ b. omega (arith, r.0, ap (top_in (more ++ calls)) (eqb-true a row b))) (row_grows more calls row r.1)
row_grows (Adds at amount (Held a first second) ∷ more) calls row r =
    step_named (a == row) (second / 4) (top_in (more ++ calls) row) (top_in calls row) (λ b. omega (arith, r.0.0, r.0.1, ap (top_in (more ++ calls)) (eqb-true a row b))) (row_grows more calls row r.1)
row_grows (Rings at content (Done v) ∷ more) calls row r =
    step_named (at == row) v (top_in (more ++ calls) row) (top_in calls row) (λ b. omega (arith, r.0, ap (top_in (more ++ calls)) (eqb-true at row b))) (row_grows more calls row r.1)
row_grows (Rings at content (Busy first second) ∷ more) calls row r =
    step_named (at == row) (second / 4) (top_in (more ++ calls) row) (top_in calls row) (λ b. omega (arith, r.0.0, r.0.1, ap (top_in (more ++ calls)) (eqb-true at row b))) (row_grows more calls row r.1)
row_grows (Rings at content (Late ticket v) ∷ more) calls row r =
    step_named (at == row) v (top_in (more ++ calls) row) (top_in calls row) (λ b. omega (arith, r.0, ap (top_in (more ++ calls)) (eqb-true at row b))) (row_grows more calls row r.1)
row_grows (Reads at (Whole v found) ∷ more) calls row r =
    step_named (at == row) v (top_in (more ++ calls) row) (top_in calls row) (λ b. omega (arith, r.0, ap (top_in (more ++ calls)) (eqb-true at row b))) (row_grows more calls row r.1)
row_grows (Reads at (Free w) ∷ more) calls row r =
    step_named (at == row) (w / 4) (top_in (more ++ calls) row) (top_in calls row) (λ b. omega (arith, r.0, ap (top_in (more ++ calls)) (eqb-true at row b))) (row_grows more calls row r.1)
row_grows (Reads at (sees.Busy first second) ∷ more) calls row r =
    step_named (at == row) (second / 4) (top_in (more ++ calls) row) (top_in calls row) (λ b. omega (arith, r.0.0, r.0.1, ap (top_in (more ++ calls)) (eqb-true at row b))) (row_grows more calls row r.1)
row_grows (Takes at v found ∷ more) calls row r =
    step_named (at == row) v (top_in (more ++ calls) row) (top_in calls row) (λ b. omega (arith, r.0, ap (top_in (more ++ calls)) (eqb-true at row b))) (row_grows more calls row r.1)
row_grows (Puts at content v ∷ more) calls row r =
    step_named (at == row) v (top_in (more ++ calls) row) (top_in calls row) (λ b. omega (arith, r.0, ap (top_in (more ++ calls)) (eqb-true at row b))) (row_grows more calls row r.1)
row_grows (Frees at v ∷ more) calls row r =
    step_named (at == row) v (top_in (more ++ calls) row) (top_in calls row) (λ b. omega (arith, r.0, ap (top_in (more ++ calls)) (eqb-true at row b))) (row_grows more calls row r.1)
row_grows (Enters label labels ∷ more) calls row r =
    step_named (0 == row) (length labels) (top_in (more ++ calls) row) (top_in calls row) (λ b. omega (arith, r.0, ap (top_in (more ++ calls)) (eqb-true 0 row b))) (row_grows more calls row r.1)
row_grows (Leaves ∷ more) calls row r =
    step_named (0 == row) (action_in (more ++ calls)) (top_in (more ++ calls) row) (top_in calls row) (λ b. omega (arith, r.0, ap (top_in (more ++ calls)) (eqb-true 0 row b))) (row_grows more calls row r.1)
row_grows (Loads at v flags ∷ more) calls row r = row_grows more calls row r.1
row_grows (Draws kind ticket ∷ more) calls row r = row_grows more calls row r.1
row_grows (Meets versions ∷ more) calls row r = row_grows more calls row r.1
row_grows (Sets at flags v ∷ more) calls row r = row_grows more calls row r.1

pub rises_back : (more calls : List Call) → AreRising (more ++ calls) → AreRising calls
rises_back [] calls r = r
rises_back (x ∷ more) calls r = rises_back more calls r.1

pub rows_named : NamedLaw
rows_named = λ later earlier call row k r names.
    (let own = rises_back later (call ∷ earlier) r in
    omega (arith, row_here call earlier row k own.0 names, row_grows later (call ∷ earlier) row r))

-- of words
word_here : (call : Call) (calls : List Call) (word k : ℕ) → NamesWord call word k → k ≤ top_word (call ∷ calls) word
word_here (Loads at v flags) calls word k names = at_named at word v (top_word calls word) k names.0 (omega (arith, names.1))
word_here (Sets at flags v) calls word k names = at_named at word v (top_word calls word) k names.0 (omega (arith, names.1))
word_here (Meets versions) calls word k names = omega (arith, names)
word_here (Adds at amount answer) calls word k names = absurd names
word_here (Rings at content answer) calls word k names = absurd names
word_here (Reads at seen) calls word k names = absurd names
word_here (Draws kind ticket) calls word k names = absurd names
word_here (Takes at v found) calls word k names = absurd names
word_here (Puts at content v) calls word k names = absurd names
word_here (Frees at v) calls word k names = absurd names
word_here (Enters label labels) calls word k names = absurd names
word_here Leaves calls word k names = absurd names

word_grows : (more calls : List Call) (word : ℕ) → word < 160 → AreRising (more ++ calls) → top_word calls word ≤ top_word (more ++ calls) word
word_grows [] calls word up r = omega arith
word_grows (Loads w v flags ∷ more) calls word up r =
    step_named (w == word) v (top_word (more ++ calls) word) (top_word calls word) (λ b. omega (arith, r.0, ap (top_word (more ++ calls)) (eqb-true w word b))) (word_grows more calls word up r.1)
word_grows (Sets w flags v ∷ more) calls word up r =
    step_named (w == word) v (top_word (more ++ calls) word) (top_word calls word) (λ b. omega (arith, r.0, ap (top_word (more ++ calls)) (eqb-true w word b))) (word_grows more calls word up r.1)
word_grows (Meets versions ∷ more) calls word up r = omega (arith, r.0 word up, word_grows more calls word up r.1)
word_grows (Adds row amount answer ∷ more) calls word up r = word_grows more calls word up r.1
word_grows (Rings row content answer ∷ more) calls word up r = word_grows more calls word up r.1
word_grows (Reads row seen ∷ more) calls word up r = word_grows more calls word up r.1
word_grows (Draws kind ticket ∷ more) calls word up r = word_grows more calls word up r.1
word_grows (Takes row version found ∷ more) calls word up r = word_grows more calls word up r.1
word_grows (Puts row content version ∷ more) calls word up r = word_grows more calls word up r.1
word_grows (Frees row version ∷ more) calls word up r = word_grows more calls word up r.1
word_grows (Enters label labels ∷ more) calls word up r = word_grows more calls word up r.1
word_grows (Leaves ∷ more) calls word up r = word_grows more calls word up r.1

pub words_named : WordNamedLaw
words_named = λ later earlier call word k up r names. omega (arith, word_here call earlier word k names, word_grows later (call ∷ earlier) word up r)
