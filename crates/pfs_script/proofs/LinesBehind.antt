-- The lines of the phase and of the block, and what all lines come to, with one line more.
use Rattle.std.proofs.Common.{ℕ, ◌≡◌, ◌+◌, ◌≤◌, Bool, true, false, ◌||◌, ◌&&◌, cond, List, [], ◌∷◌, ◌++◌, Option, Some, None, refl, sym, arith}
use Rattle.std.specs.Prelude.{if◌then◌else◌, count_by, option_map, unwrap_or, ◌-◌, ◌*◌}
use Rattle.std.specs.List.{list_any, sum_by}
use Rattle.std.proofs.lemmas.List.Folds.{list_any-append}
use Rattle.std.proofs.lemmas.List.Sums.{sum_by-append}
use Rattle.pfs_lemmas.proofs.Bools.{and_false, or_false as or_no, or_true}
use Rattle.pfs_script.specs.declared.forms.Form.{Form}
use Rattle.pfs_script.specs.declared.forms.Form.TheVariants as form
use Rattle.pfs_script.specs.LineCounts.{behind_last, ahead_of_last, is_repeat, is_done, is_in_repeat, until_done, again, counted, once_more, more_times, pending}

choose : (any last first : Bool) (rest before : List Form) (one line : Form) → cond (any || (last || false)) (cond last [] (rest ++ line ∷ [])) (cond first (before ++ line ∷ []) (one ∷ (before ++ line ∷ []))) ≡ cond last [] (cond any rest (cond first before (one ∷ before)) ++ line ∷ [])
choose true last first rest before one line = refl
choose false true first rest before one line = refl
choose false false true rest before one line = refl
choose false false false rest before one line = refl

-- a line that passes leaves nothing behind it, and another one stands behind the last that did
pub behind_more : (test : Form → Bool) (before : List Form) (line : Form) → behind_last test (before ++ line ∷ []) ≡ (if test line then [] else behind_last test before ++ line ∷ [])
unfolding behind_last
behind_more test [] line = refl
behind_more test (one ∷ before) line =
    rw (list_any-append test before (line ∷ []), behind_more test before line) (choose (list_any test before) (test line) (test one) (behind_last test before) before one line)

pub behind_none : (test : Form → Bool) → behind_last test [] ≡ []
unfolding behind_last
behind_none test = refl

until_more : (before : List Form) (line : Form) → is_done line ≡ false → until_done (before ++ line ∷ []) ≡ until_done before
until_more [] line h = rw h refl
until_more (one ∷ before) line h = rw (until_more before line h) refl

again_none : (measure : Form → ℕ) (line : Form) → again measure line [] ≡ 0
again_none measure (form.Repeat (Some times)) = refl
again_none measure (form.Repeat None) = refl
again_none measure _ = refl

again_more : (measure : Form → ℕ) (one : Form) (before : List Form) (line : Form) → is_done line ≡ false → again measure one (before ++ line ∷ []) ≡ again measure one before
again_more measure (form.Repeat (Some times)) before line h = rw (until_more before line h) refl
again_more measure (form.Repeat None) before line h = refl
again_more measure _ before line h = refl

-- a line that is no `done` comes to its own measure
pub counted_more : (measure : Form → ℕ) (before : List Form) (line : Form) → is_done line ≡ false → counted measure (before ++ line ∷ []) ≡ counted measure before + measure line
unfolding counted
counted_more measure [] line h = omega (arith, again_none measure line)
counted_more measure (one ∷ before) line h = omega (arith, again_more measure one before line h, counted_more measure before line h)

pub counted_none : (measure : Form → ℕ) → counted measure [] ≡ 0
unfolding counted
counted_none measure = refl

pub count_more : (test : Form → Bool) (before : List Form) (line : Form) → count_by test (before ++ line ∷ []) ≡ count_by test before + (if test line then 1 else 0)
count_more test before line = omega (arith, sum_by-append (λ x. cond (test x) 1 0) before (line ∷ []))

or_false : (a b : Bool) → (a || (b || false)) ≡ (a || b)
or_false true b = refl
or_false false true = refl
or_false false false = refl

pub any_more : (test : Form → Bool) (before : List Form) (line : Form) → list_any test (before ++ line ∷ []) ≡ (list_any test before || test line)
any_more test before line = rw (list_any-append test before (line ∷ [])) (or_false (list_any test before) (test line))

-- the lines before the last that passes

ahead_choose : (any last : Bool) (rest before : List Form) (one : Form) → cond (any || (last || false)) (one ∷ cond last before rest) [] ≡ cond last (one ∷ before) (cond any (one ∷ rest) [])
ahead_choose true true rest before one = refl
ahead_choose true false rest before one = refl
ahead_choose false true rest before one = refl
ahead_choose false false rest before one = refl

ahead_first : (last : Bool) → cond {A = List Form} last [] [] ≡ []
ahead_first true = refl
ahead_first false = refl

pub ahead_more : (test : Form → Bool) (before : List Form) (line : Form) → ahead_of_last test (before ++ line ∷ []) ≡ (if test line then before else ahead_of_last test before)
unfolding ahead_of_last
ahead_more test [] line = sym (ahead_first (test line))
ahead_more test (one ∷ before) line =
    rw (list_any-append test before (line ∷ []), ahead_more test before line) (ahead_choose (list_any test before) (test line) (ahead_of_last test before) before one)

pub in_repeat-begun : (before : List Form) (line : Form) → is_repeat line ≡ true → is_in_repeat (before ++ line ∷ []) ≡ true
in_repeat-begun before line h = rw (any_more is_repeat before line, behind_more is_repeat before line, h, or_true (list_any is_repeat before)) refl

pub in_repeat-done : (before : List Form) → is_in_repeat (before ++ form.Done ∷ []) ≡ false
in_repeat-done before =
    rw (behind_more is_repeat before form.Done, any_more is_done (behind_last is_repeat before) form.Done, or_true (list_any is_done (behind_last is_repeat before))) (and_false (list_any is_repeat (before ++ form.Done ∷ [])))

pub in_repeat-same : (before : List Form) (line : Form) → is_repeat line ≡ false → is_done line ≡ false → is_in_repeat (before ++ line ∷ []) ≡ is_in_repeat before
in_repeat-same before line r d =
    rw (any_more is_repeat before line, behind_more is_repeat before line, r, any_more is_done (behind_last is_repeat before) line, d, or_no (list_any is_repeat before), or_no (list_any is_done (behind_last is_repeat before))) refl

-- what a `done` adds

until_choose : (here later : Bool) (one : Form) (before : List Form) (found : Option (List Form))
    → cond here (Some []) (option_map (λ more. one ∷ more) (cond later found (Some before))) ≡ cond (here || later) (cond here (Some []) (option_map (λ more. one ∷ more) found)) (Some (one ∷ before))
until_choose true later one before found = refl
until_choose false true one before found = refl
until_choose false false one before found = refl

until_at_done : (before : List Form) → until_done (before ++ form.Done ∷ []) ≡ (if list_any is_done before then until_done before else Some before)
until_at_done [] = refl
until_at_done (one ∷ before) = rw (until_at_done before) (until_choose (is_done one) (list_any is_done before) one before (until_done before))

until_none_by : (here later : Bool) (one : Form) (found : Option (List Form)) → (here || later) ≡ false → (later ≡ false → found ≡ None) → cond here (Some []) (option_map (λ more. one ∷ more) found) ≡ None
until_none_by true later one found none h = cc
until_none_by false later one found none h = rw (h none) refl

until_none : (before : List Form) → list_any is_done before ≡ false → until_done before ≡ None
until_none [] none = refl
until_none (one ∷ before) none = until_none_by (is_done one) (list_any is_done before) one (until_done before) none (until_none before)

again_by : (measure : Form → ℕ) (before : List Form) (times : ℕ) (b : Bool) → list_any is_done before ≡ b
    → unwrap_or (option_map (λ body. (times - 1) * sum_by measure body) (cond b (until_done before) (Some before))) 0
    ≡ unwrap_or (option_map (λ body. (times - 1) * sum_by measure body) (until_done before)) 0 + cond b 0 ((times - 1) * sum_by measure before)
again_by measure before times true e = omega arith
again_by measure before times false e = rw (until_none before e) (omega arith)

no_more : (b : Bool) (n : ℕ) → 0 + cond b 0 (0 * n) ≡ 0
no_more true n = omega arith
no_more false n = omega arith

again_done : (measure : Form → ℕ) (one : Form) (before : List Form) → again measure one (before ++ form.Done ∷ []) ≡ again measure one before + (if list_any is_done before then 0 else once_more one * sum_by measure before)
again_done measure (form.Repeat (Some times)) before = rw (until_at_done before) (again_by measure before times (list_any is_done before) refl)
again_done measure (form.Repeat None) before = sym (no_more (list_any is_done before) (sum_by measure before))
again_done measure _ before = sym (no_more (list_any is_done before) (sum_by measure before))

pub counted_done : (measure : Form → ℕ) (before : List Form) → counted measure (before ++ form.Done ∷ []) ≡ counted measure before + pending measure before + measure form.Done
unfolding counted pending
counted_done measure [] = omega arith
counted_done measure (one ∷ before) = omega (arith, again_done measure one before, counted_done measure before)

done_is : (line : Form) → is_done line ≡ true → line ≡ form.Done
done_is form.Done h = refl
done_is _ h = cc

counted_by : (measure : Form → ℕ) (before : List Form) (line : Form) (more : ℕ) (b : Bool) → is_done line ≡ b → pending measure before ≡ more → counted measure (before ++ line ∷ []) ≡ counted measure before + (measure line + cond b more 0)
counted_by measure before line more true d e = let same = done_is line d in rw same (omega (arith, counted_done measure before, e))
counted_by measure before line more false d e = omega (arith, counted_more measure before line d)

-- what one more line adds, with what a `done` would add
pub counted_with : (measure : Form → ℕ) (before : List Form) (line : Form) (more : ℕ) → pending measure before ≡ more → counted measure (before ++ line ∷ []) ≡ counted measure before + (measure line + (if is_done line then more else 0))
counted_with measure before line more e = counted_by measure before line more (is_done line) refl e

pub sum_more : (measure : Form → ℕ) (before : List Form) (line : Form) → sum_by measure (before ++ line ∷ []) ≡ sum_by measure before + measure line
sum_more measure before line = omega (arith, sum_by-append measure before (line ∷ []))

once_by : (times sum more added : ℕ) (rest later : ℕ) → later ≡ rest + more * added → times * (sum + added) + later ≡ times * sum + rest + (times + more) * added
once_by times sum more added rest later e = grind (arith, e)

pending_by : (b : Bool) (times sum more added rest later : ℕ) → later ≡ rest + more * added → cond b 0 (times * (sum + added)) + later ≡ cond b 0 (times * sum) + rest + (cond b 0 times + more) * added
pending_by true times sum more added rest later e = omega (arith, e)
pending_by false times sum more added rest later e = once_by times sum more added rest later e

pub pending_more : (measure : Form → ℕ) (before : List Form) (line : Form) → is_done line ≡ false → pending measure (before ++ line ∷ []) ≡ pending measure before + more_times before * measure line
unfolding pending more_times
pending_more measure [] line d = omega arith
pending_more measure (one ∷ before) line d =
    rw (any_more is_done before line, d, or_no (list_any is_done before), sum_more measure before line)
    (pending_by (list_any is_done before) (once_more one) (sum_by measure before) (more_times before) (measure line) (pending measure before) (pending measure (before ++ line ∷ [])) (pending_more measure before line d))

pub more_more : (before : List Form) (line : Form) → is_done line ≡ false → more_times (before ++ line ∷ []) ≡ more_times before + once_more line
unfolding more_times
more_more [] line d = omega arith
more_more (one ∷ before) line d = rw (any_more is_done before line, d, or_no (list_any is_done before), more_more before line d) (omega arith)

pub more_done : (before : List Form) → more_times (before ++ form.Done ∷ []) ≡ 0
unfolding more_times
more_done [] = refl
more_done (one ∷ before) = rw (any_more is_done before form.Done, or_true (list_any is_done before)) (omega (arith, more_done before))

pub pending_done : (measure : Form → ℕ) (before : List Form) → pending measure (before ++ form.Done ∷ []) ≡ 0
unfolding pending
pending_done measure [] = omega arith
pending_done measure (one ∷ before) = rw (any_more is_done before form.Done, or_true (list_any is_done before)) (omega (arith, pending_done measure before))

pub more_none : more_times [] ≡ 0
unfolding more_times
more_none = refl

pub pending_none : (measure : Form → ℕ) → pending measure [] ≡ 0
unfolding pending
pending_none measure = refl
