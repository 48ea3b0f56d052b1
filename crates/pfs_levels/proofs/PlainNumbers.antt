-- Along a row of a plain store the numbers of the actions never fall.
use Rattle.std.proofs.Common.{ℕ, ◌⊎◌, inl, inr, ◌≡◌, ◌≤◌, ◌+◌, ◌==◌, nat_lt, false, true, ◌&&◌, List, [], ◌∷◌, ◌++◌, length, refl, ap, sym, ◌∙◌, subst, arith, append_assoc, zero-add}
use Rattle.std.proofs.lemmas.Bool.{le-ltb}
use Rattle.pfs_lemmas.proofs.Bools.{and_false}
use Rattle.pfs_levels.specs.declared.answers.Added.TheVariants.{Counted, Held}
use Rattle.pfs_levels.specs.declared.answers.RingPut.TheVariants.{Done, Busy, Late}
use Rattle.pfs_levels.specs.declared.plain.Slot.{Slot}
use Rattle.pfs_levels.specs.Calls.{Call, Adds, Rings, Reads, Loads, Draws, Takes, Puts, Frees, Sets, Enters, Leaves, Meets, action_in, after_in}
use Rattle.pfs_levels.specs.JointCalls.{total, one_if, all_calls}
use Rattle.pfs_levels.specs.CallOrder.{Mark, mark, marks_by, marks_of, all_marks, falls, AreOrdered}
use Rattle.pfs_levels.specs.PlainStore.{ops_of, slot_after, AllAnswer, labels_after}
use Rattle.pfs_levels.specs.PlainCalls.{AllOutside}
use Rattle.pfs_levels.proofs.ActorFloors.{labels_grow, answers_rest, stood}
use Rattle.pfs_levels.proofs.PlainOrder.{IsInside, inside}

abbrev UpTo : ℕ → List Mark → Type 0
UpTo n [] = Unit {0}
UpTo n (p ∷ ps) = (p.action ≤ n) × UpTo n ps

up_more : (m n : ℕ) (log : List Mark) → m ≤ n → UpTo m log → UpTo n log
up_more m n [] low u = tt
up_more m n (p ∷ ps) low u = (omega (arith, low, u.0), up_more m n ps low u.1)

no_fall : (x p : Mark) (n : ℕ) → p.action ≤ n → (x.action ≡ 0) ⊎ (n ≤ x.action) → falls x p ≡ false
no_fall x p n low (inl e) = ap (λ b. (p.row == x.row) && b && nat_lt x.action p.action) (le-ltb 0 x.action (omega (arith, e))) ∙ ap (λ b. b && nat_lt x.action p.action) (and_false (p.row == x.row))
no_fall x p n low (inr e) = ap (λ b. (p.row == x.row) && nat_lt 0 x.action && b) (le-ltb x.action p.action (omega (arith, low, e))) ∙ and_false ((p.row == x.row) && nat_lt 0 x.action)

none_falls : (x : Mark) (log : List Mark) (n : ℕ) → UpTo n log → (x.action ≡ 0) ⊎ (n ≤ x.action) → total (λ p. one_if (falls x p)) log ≡ 0
unfolding total
none_falls x [] n u h = refl
none_falls x (p ∷ ps) n u h = ap (λ b. one_if b + total (λ p. one_if (falls x p)) ps) (no_fall x p n u.0 h) ∙ zero-add (total (λ p. one_if (falls x p)) ps) ∙ none_falls x ps n u.1 h

-- a change by the action under way, or by none
one_more : (x : Mark) (log : List Mark) (n : ℕ) → (x.action ≡ 0) ⊎ (x.action ≡ n) → UpTo n log → AreOrdered log → UpTo n (x ∷ log) × AreOrdered (x ∷ log)
one_more x log n (inl e) u o = ((omega (arith, e), u), (none_falls x log n u (inl e), o))
one_more x log n (inr e) u o = ((omega (arith, e), u), (none_falls x log n u (inr (omega (arith, e))), o))

marks_more : (action after n : ℕ) (call : Call) (log : List Mark) → (action ≡ 0) ⊎ (action ≡ n) → UpTo n log → AreOrdered log → UpTo n (marks_by action after call ++ log) × AreOrdered (marks_by action after call ++ log)
marks_more action after n (Adds at amount (Counted r v)) log h u o = one_more (mark r v true action after) log n h u o
marks_more action after n (Adds at amount (Held r v w)) log h u o = (u, o)
marks_more action after n (Rings at content (Done v)) log h u o = one_more (mark at v true action after) log n h u o
marks_more action after n (Rings at content (Busy v w)) log h u o = (u, o)
marks_more action after n (Rings at content (Late t v)) log h u o = (u, o)
marks_more action after n (Reads at seen) log h u o = (u, o)
marks_more action after n (Loads at v found) log h u o = (u, o)
marks_more action after n (Draws kind ticket) log h u o = (u, o)
marks_more action after n (Meets versions) log h u o = (u, o)
marks_more action after n (Takes at v found) log h u o = (u, o)
marks_more action after n (Puts at content v) log h u o = one_more (mark at v true action after) log n h u o
marks_more action after n (Frees at v) log h u o = one_more (mark at v false action after) log n h u o
marks_more action after n (Sets at to v) log h u o = (u, o)
marks_more action after n (Enters label labels) log h u o = (u, o)
marks_more action after n Leaves log h u o = one_more (mark 0 action true action after) log n h u o

number_is : (s : Slot) (action ended : ℕ) → IsInside s action ended → (action ≡ 0) ⊎ (action ≡ ended + 1)
number_is s action ended (inl h) = inl h.1
number_is s action ended (inr h) = inr h.1

ordered_of : (flags : List ℕ) (calls rest : List Call) (log : List Mark) → AllAnswer flags (calls ++ rest) → (slot_after (ops_of rest) 0).taken ≡ false → UpTo (length (labels_after rest) + 1) log → AreOrdered log
    → UpTo (length (labels_after (calls ++ rest)) + 1) (marks_of calls ++ log) × AreOrdered (marks_of calls ++ log)
unfolding marks_of
ordered_of flags [] rest log a idle u o = (u, o)
ordered_of flags (call ∷ calls) rest log a idle u o =
    let old = ordered_of flags calls rest log a.1 idle u o in
    let ended = length (labels_after (calls ++ rest)) in
    let ps = marks_by (action_in calls) (after_in calls) call in
    let new = marks_more (action_in calls) (after_in calls) (ended + 1) call (marks_of calls ++ log) (number_is (slot_after (ops_of (calls ++ rest)) 0) (action_in calls) ended (inside flags calls rest a.1 idle)) old.0 old.1 in
    let e = sym (append_assoc ps (marks_of calls) log) in
    let grown : ended + 1 ≤ length (labels_after (call ∷ (calls ++ rest))) + 1 = omega (arith, labels_grow call (calls ++ rest)) in
    let P : List Mark → Type 0 = λ z. UpTo (length (labels_after (call ∷ (calls ++ rest))) + 1) z in
    (subst P e (up_more (ended + 1) _ (ps ++ (marks_of calls ++ log)) grown new.0), subst AreOrdered e new.1)

ordered_all : (flags : List ℕ) (actors : List (List Call)) → AllAnswer flags (all_calls actors) → AllOutside actors → UpTo (length (labels_after (all_calls actors)) + 1) (all_marks actors) × AreOrdered (all_marks actors)
unfolding all_calls all_marks
ordered_all flags [] a out = (tt, tt)
ordered_all flags (calls ∷ actors) a out =
    let b = answers_rest flags calls (all_calls actors) a in
    let old = ordered_all flags actors b out.1 in
    ordered_of flags calls (all_calls actors) (all_marks actors) a (stood flags actors b out.1).left.idle old.0 old.1

pub ordered : (flags : List ℕ) (actors : List (List Call)) → AllAnswer flags (all_calls actors) → AllOutside actors → AreOrdered (all_marks actors)
ordered flags actors a out = (ordered_all flags actors a out).1
