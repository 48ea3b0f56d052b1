-- The order of the calls that led to a plain store, by any number of actors one after another: numbers, floors, causes and labels.
use Rattle.std.proofs.Common.{ℕ, ◌⊎◌, inl, inr, ◌≡◌, ◌<◌, ◌≤◌, ◌+◌, ◌==◌, false, true, Bool, cond, ◌&&◌, List, [], ◌∷◌, ◌++◌, length, refl, ap, sym, ◌∙◌, subst, arith, length-append}
use Rattle.pfs_board.specs.declared.view.Label.{Label}
use Rattle.pfs_levels.specs.declared.answers.Added.TheVariants.{Counted, Held}
use Rattle.pfs_levels.specs.declared.answers.RingPut.TheVariants.{Done, Busy, Late}
use Rattle.pfs_levels.specs.declared.plain.Slot.{Slot}
use Rattle.pfs_levels.specs.Calls.{Call, Adds, Rings, Reads, Loads, Draws, Takes, Puts, Frees, Sets, Enters, Leaves, Meets, action_in, after_in, label_in}
use Rattle.pfs_levels.specs.JointCalls.{sets_of, word_version}
use Rattle.pfs_levels.specs.CallOrder.{Mark, marks_of, word_marks_of, marked, AreMarked}
use Rattle.pfs_levels.specs.PlainStore.{Merges, Becomes, Holds, Releases, Op, op, ops_of, slot_after, AllAnswer, puts_in, labels_after}
use Rattle.pfs_levels.proofs.PlainContents.{versions, word_versions}
use Rattle.pfs_levels.proofs.PlainChanges.{plain_words}
use Rattle.pfs_levels.proofs.PlainActions.{elsewhere, labels_count}
use Rattle.pfs_levels.proofs.PlainCalls.{ring_high}

no_put : (b : Bool) (n : ℕ) → cond (b && false) (n + 1) n ≡ n
no_put true n = refl
no_put false n = refl

-- marks are publications and releases, row 0 too
pub marks_count : (calls rest : List Call) (log : List Mark) (row : ℕ) → marked log row ≡ puts_in (ops_of rest) row → marked (marks_of calls ++ log) row ≡ puts_in (ops_of (calls ++ rest)) row
unfolding marks_of ops_of marked puts_in
marks_count [] rest log row h = h
marks_count (Adds at amount (Counted r v) ∷ calls) rest log row h = ap (λ n. cond ((r == row) && true) (n + 1) n) (marks_count calls rest log row h)
marks_count (Adds at amount (Held r v w) ∷ calls) rest log row h = marks_count calls rest log row h
marks_count (Rings at content (Done v) ∷ calls) rest log row h = ap (λ n. cond ((at == row) && true) (n + 1) n) (marks_count calls rest log row h)
marks_count (Rings at content (Busy v w) ∷ calls) rest log row h = marks_count calls rest log row h
marks_count (Rings at content (Late t v) ∷ calls) rest log row h = marks_count calls rest log row h
marks_count (Reads at seen ∷ calls) rest log row h = marks_count calls rest log row h
marks_count (Loads at v found ∷ calls) rest log row h = marks_count calls rest log row h
marks_count (Draws kind ticket ∷ calls) rest log row h = marks_count calls rest log row h
marks_count (Meets versions ∷ calls) rest log row h = marks_count calls rest log row h
marks_count (Takes at v found ∷ calls) rest log row h = marks_count calls rest log row h ∙ sym (no_put (at == row) (puts_in (ops_of (calls ++ rest)) row))
marks_count (Puts at content v ∷ calls) rest log row h = ap (λ n. cond ((at == row) && true) (n + 1) n) (marks_count calls rest log row h)
marks_count (Frees at v ∷ calls) rest log row h = ap (λ n. cond ((at == row) && false) (n + 1) n) (marks_count calls rest log row h)
marks_count (Sets at to v ∷ calls) rest log row h = marks_count calls rest log row h
marks_count (Enters label labels ∷ calls) rest log row h = marks_count calls rest log row h ∙ sym (no_put (0 == row) (puts_in (ops_of (calls ++ rest)) row))
marks_count (Leaves ∷ calls) rest log row h = ap (λ n. cond ((0 == row) && true) (n + 1) n) (marks_count calls rest log row h)

and_yes : (b : Bool) → (b && true) ≡ b
and_yes true = refl
and_yes false = refl

pub word_marks_count : (calls rest : List Call) (log : List Mark) (w : ℕ) → marked log w ≡ word_version (sets_of rest) w → marked (word_marks_of calls ++ log) w ≡ word_version (sets_of (calls ++ rest)) w
unfolding word_marks_of sets_of marked word_version
word_marks_count [] rest log w h = h
word_marks_count (Sets at to v ∷ calls) rest log w h = ap (λ b. cond b (marked (word_marks_of calls ++ log) w + 1) (marked (word_marks_of calls ++ log) w)) (and_yes (at == w)) ∙ ap (λ n. cond (at == w) (n + 1) n) (word_marks_count calls rest log w h)
word_marks_count (Adds at amount answer ∷ calls) rest log w h = word_marks_count calls rest log w h
word_marks_count (Rings at content answer ∷ calls) rest log w h = word_marks_count calls rest log w h
word_marks_count (Reads at seen ∷ calls) rest log w h = word_marks_count calls rest log w h
word_marks_count (Loads at v found ∷ calls) rest log w h = word_marks_count calls rest log w h
word_marks_count (Draws kind ticket ∷ calls) rest log w h = word_marks_count calls rest log w h
word_marks_count (Meets versions ∷ calls) rest log w h = word_marks_count calls rest log w h
word_marks_count (Takes at v found ∷ calls) rest log w h = word_marks_count calls rest log w h
word_marks_count (Puts at content v ∷ calls) rest log w h = word_marks_count calls rest log w h
word_marks_count (Frees at v ∷ calls) rest log w h = word_marks_count calls rest log w h
word_marks_count (Enters label labels ∷ calls) rest log w h = word_marks_count calls rest log w h
word_marks_count (Leaves ∷ calls) rest log w h = word_marks_count calls rest log w h

-- an actor is in an action exactly where row 0 is in hand, and the action's number is one above those that ended
abbrev pub IsInside : Slot → ℕ → ℕ → Type 0
IsInside s action ended = ((s.taken ≡ false) × (action ≡ 0)) ⊎ ((s.taken ≡ true) × (action ≡ ended + 1))

zero_here : (calls rest : List Call) → Slot
zero_here calls rest = slot_after (ops_of (calls ++ rest)) 0

inside_kept : (o : Op) (os : List Op) (action ended : ℕ) → 0 < o.row → IsInside (slot_after os 0) action ended → IsInside (slot_after (o ∷ os) 0) action ended
inside_kept o os action ended up h = let P : Slot → Type 0 = λ s. IsInside s action ended in subst P (sym (elsewhere o os up)) h

pub inside : (flags : List ℕ) (calls rest : List Call) → AllAnswer flags (calls ++ rest) → (slot_after (ops_of rest) 0).taken ≡ false → IsInside (slot_after (ops_of (calls ++ rest)) 0) (action_in calls) (length (labels_after (calls ++ rest)))
unfolding ops_of labels_after slot_after
inside flags [] rest a idle = inl (idle, refl)
inside flags (Adds at amount (Counted r v) ∷ calls) rest a idle = inside_kept (op r (Merges amount)) (ops_of (calls ++ rest)) _ _ (omega (arith, a.0.0.0, a.0.1)) (inside flags calls rest a.1 idle)
inside flags (Adds at amount (Held r v w) ∷ calls) rest a idle = absurd a.0
inside flags (Rings at content (Done v) ∷ calls) rest a idle = inside_kept (op at (Becomes content)) (ops_of (calls ++ rest)) _ _ (ring_high at content a.0.0) (inside flags calls rest a.1 idle)
inside flags (Rings at content (Busy v w) ∷ calls) rest a idle = absurd a.0
inside flags (Rings at content (Late t v) ∷ calls) rest a idle = inside flags calls rest a.1 idle
inside flags (Reads at seen ∷ calls) rest a idle = inside flags calls rest a.1 idle
inside flags (Loads at v found ∷ calls) rest a idle = inside flags calls rest a.1 idle
inside flags (Draws kind ticket ∷ calls) rest a idle = inside flags calls rest a.1 idle
inside flags (Meets versions ∷ calls) rest a idle = inside flags calls rest a.1 idle
inside flags (Takes at v found ∷ calls) rest a idle = inside_kept (op at Holds) (ops_of (calls ++ rest)) _ _ a.0.0.0 (inside flags calls rest a.1 idle)
inside flags (Puts at content v ∷ calls) rest a idle = inside_kept (op at (Becomes content)) (ops_of (calls ++ rest)) _ _ a.0.0.0 (inside flags calls rest a.1 idle)
inside flags (Frees at v ∷ calls) rest a idle = inside_kept (op at Releases) (ops_of (calls ++ rest)) _ _ a.0.0.0 (inside flags calls rest a.1 idle)
inside flags (Sets at to v ∷ calls) rest a idle = inside flags calls rest a.1 idle
inside flags (Enters label labels ∷ calls) rest a idle = inr (refl, ap (λ ls. length ls + 1) a.0.1)
inside flags (Leaves ∷ calls) rest a idle = inl (refl, refl)

-- what the actor knew as ended had ended
pub ended_more : (ls : List Label) (l : Label) → length (ls ++ l ∷ []) ≡ length ls + 1
ended_more ls l = length-append ls (l ∷ [])

-- at the end of an action, its number
pub leaving : (s : Slot) (action ended : ℕ) → s.taken ≡ true → IsInside s action ended → action ≡ ended + 1
leaving s action ended taken (inl h) = let no : true ≡ false = sym taken ∙ h.0 in cc
leaving s action ended taken (inr h) = h.1

pub after_low : (flags : List ℕ) (calls rest : List Call) → AllAnswer flags (calls ++ rest) → (slot_after (ops_of rest) 0).taken ≡ false → after_in calls ≤ length (labels_after (calls ++ rest))
unfolding labels_after
after_low flags [] rest a idle = omega arith
after_low flags (Adds at amount answer ∷ calls) rest a idle = after_low flags calls rest a.1 idle
after_low flags (Rings at content answer ∷ calls) rest a idle = after_low flags calls rest a.1 idle
after_low flags (Reads at seen ∷ calls) rest a idle = after_low flags calls rest a.1 idle
after_low flags (Loads at v found ∷ calls) rest a idle = after_low flags calls rest a.1 idle
after_low flags (Draws kind ticket ∷ calls) rest a idle = after_low flags calls rest a.1 idle
after_low flags (Meets versions ∷ calls) rest a idle = after_low flags calls rest a.1 idle
after_low flags (Takes at v found ∷ calls) rest a idle = after_low flags calls rest a.1 idle
after_low flags (Puts at content v ∷ calls) rest a idle = after_low flags calls rest a.1 idle
after_low flags (Frees at v ∷ calls) rest a idle = after_low flags calls rest a.1 idle
after_low flags (Sets at to v ∷ calls) rest a idle = after_low flags calls rest a.1 idle
after_low flags (Enters label labels ∷ calls) rest a idle = omega (arith, ap (λ ls. length ls) a.0.1)
after_low flags (Leaves ∷ calls) rest a idle = omega (arith, ended_more (labels_after (calls ++ rest)) (label_in (calls ++ rest)), leaving (slot_after (ops_of (calls ++ rest)) 0) (action_in calls) (length (labels_after (calls ++ rest))) a.0 (inside flags calls rest a.1 idle))

-- chains
pub at_count : (calls rest : List Call) (log : List Mark) (row : ℕ) → ((r : ℕ) → marked log r ≡ puts_in (ops_of rest) r) → (slot_after (ops_of (calls ++ rest)) row).version ≡ marked (marks_of calls ++ log) row
at_count calls rest log row h = versions (ops_of (calls ++ rest)) row ∙ sym (marks_count calls rest log row (h row))

pub marks_chain : (flags : List ℕ) (calls rest : List Call) (log : List Mark) → AllAnswer flags (calls ++ rest) → (slot_after (ops_of rest) 0).taken ≡ false → ((r : ℕ) → marked log r ≡ puts_in (ops_of rest) r) → AreMarked log → AreMarked (marks_of calls ++ log)
unfolding marks_of
marks_chain flags [] rest log a idle h m = m
marks_chain flags (Adds at amount (Counted r v) ∷ calls) rest log a idle h m =
    let P : ℕ → Type 0 = λ z. v ≡ marked (marks_of calls ++ log) z + 1 in
    (subst P (sym a.0.1) (a.0.3 ∙ ap (λ z. z + 1) (at_count calls rest log at h)), marks_chain flags calls rest log a.1 idle h m)
marks_chain flags (Adds at amount (Held r v w) ∷ calls) rest log a idle h m = absurd a.0
marks_chain flags (Rings at content (Done v) ∷ calls) rest log a idle h m = (a.0.2 ∙ ap (λ z. z + 1) (at_count calls rest log at h), marks_chain flags calls rest log a.1 idle h m)
marks_chain flags (Rings at content (Busy v w) ∷ calls) rest log a idle h m = absurd a.0
marks_chain flags (Rings at content (Late t v) ∷ calls) rest log a idle h m = marks_chain flags calls rest log a.1 idle h m
marks_chain flags (Reads at seen ∷ calls) rest log a idle h m = marks_chain flags calls rest log a.1 idle h m
marks_chain flags (Loads at v found ∷ calls) rest log a idle h m = marks_chain flags calls rest log a.1 idle h m
marks_chain flags (Draws kind ticket ∷ calls) rest log a idle h m = marks_chain flags calls rest log a.1 idle h m
marks_chain flags (Meets versions ∷ calls) rest log a idle h m = marks_chain flags calls rest log a.1 idle h m
marks_chain flags (Takes at v found ∷ calls) rest log a idle h m = marks_chain flags calls rest log a.1 idle h m
marks_chain flags (Puts at content v ∷ calls) rest log a idle h m = (a.0.2 ∙ ap (λ z. z + 1) (at_count calls rest log at h), marks_chain flags calls rest log a.1 idle h m)
marks_chain flags (Frees at v ∷ calls) rest log a idle h m = (a.0.2 ∙ at_count calls rest log at h, marks_chain flags calls rest log a.1 idle h m)
marks_chain flags (Sets at to v ∷ calls) rest log a idle h m = marks_chain flags calls rest log a.1 idle h m
marks_chain flags (Enters label labels ∷ calls) rest log a idle h m = marks_chain flags calls rest log a.1 idle h m
marks_chain flags (Leaves ∷ calls) rest log a idle h m =
    (leaving (slot_after (ops_of (calls ++ rest)) 0) (action_in calls) (length (labels_after (calls ++ rest))) a.0 (inside flags calls rest a.1 idle) ∙ ap (λ z. z + 1) (labels_count flags (calls ++ rest) a.1 ∙ at_count calls rest log 0 h), marks_chain flags calls rest log a.1 idle h m)

pub word_marks_chain : (flags : List ℕ) (calls rest : List Call) (log : List Mark) → AllAnswer flags (calls ++ rest) → ((w : ℕ) → marked log w ≡ word_version (sets_of rest) w) → AreMarked log → AreMarked (word_marks_of calls ++ log)
unfolding word_marks_of
word_marks_chain flags [] rest log a h m = m
word_marks_chain flags (Sets at to v ∷ calls) rest log a h m =
    (a.0.1 ∙ ap (λ z. z + 1) (word_versions flags (sets_of (calls ++ rest)) at (plain_words flags (calls ++ rest) a.1) ∙ sym (word_marks_count calls rest log at (h at))), word_marks_chain flags calls rest log a.1 h m)
word_marks_chain flags (Adds at amount answer ∷ calls) rest log a h m = word_marks_chain flags calls rest log a.1 h m
word_marks_chain flags (Rings at content answer ∷ calls) rest log a h m = word_marks_chain flags calls rest log a.1 h m
word_marks_chain flags (Reads at seen ∷ calls) rest log a h m = word_marks_chain flags calls rest log a.1 h m
word_marks_chain flags (Loads at v found ∷ calls) rest log a h m = word_marks_chain flags calls rest log a.1 h m
word_marks_chain flags (Draws kind ticket ∷ calls) rest log a h m = word_marks_chain flags calls rest log a.1 h m
word_marks_chain flags (Meets versions ∷ calls) rest log a h m = word_marks_chain flags calls rest log a.1 h m
word_marks_chain flags (Takes at v found ∷ calls) rest log a h m = word_marks_chain flags calls rest log a.1 h m
word_marks_chain flags (Puts at content v ∷ calls) rest log a h m = word_marks_chain flags calls rest log a.1 h m
word_marks_chain flags (Frees at v ∷ calls) rest log a h m = word_marks_chain flags calls rest log a.1 h m
word_marks_chain flags (Enters label labels ∷ calls) rest log a h m = word_marks_chain flags calls rest log a.1 h m
word_marks_chain flags (Leaves ∷ calls) rest log a h m = word_marks_chain flags calls rest log a.1 h m
