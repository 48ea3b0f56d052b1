-- No call of a plain store is below an earlier one of its actor.
use Rattle.std.proofs.Common.{ℕ, ◌≡◌, ◌<◌, ◌≤◌, ◌+◌, ◌/◌, ◌==◌, false, true, Bool, cond, List, [], ◌∷◌, ◌++◌, length, refl, ap, sym, ◌∙◌, subst, arith}
use Rattle.std.proofs.lemmas.Bool.{eqb-true}
use Rattle.pfs_rows.specs.declared.table.Seen.TheVariants.{Whole, Free}
use Rattle.pfs_rows.specs.declared.table.Seen.TheVariants as sees
use Rattle.pfs_levels.specs.declared.answers.Added.TheVariants.{Counted, Held}
use Rattle.pfs_levels.specs.declared.answers.RingPut.TheVariants.{Done, Busy, Late}
use Rattle.pfs_levels.specs.declared.plain.Slot.{Slot}
use Rattle.pfs_levels.specs.declared.answers.Word.{Word}
use Rattle.pfs_levels.specs.Calls.{Call, Adds, Rings, Reads, Loads, Draws, Takes, Puts, Frees, Sets, Enters, Leaves, Meets, action_in}
use Rattle.pfs_levels.specs.JointCalls.{sets_of, draws_of, drawn}
use Rattle.pfs_levels.specs.CallOrder.{top_in, top_word, top_ticket, IsRising, AreRising}
use Rattle.pfs_levels.specs.PlainStore.{Effect, Merges, Becomes, Renews, Holds, Releases, Op, ops_of, slot_by, slot_after, word, word_after, AllAnswer, labels_after}
use Rattle.pfs_levels.proofs.PlainActions.{labels_count}
use Rattle.pfs_levels.proofs.PlainOrder.{inside, leaving}

step_top : (b : Bool) (v t : ℕ) (e : Effect) (s : Slot) → (b ≡ true → v ≤ (slot_by e s).version) → t ≤ s.version → cond b v t ≤ (cond b (slot_by e s) s).version
step_top true v t e s h low = h refl
step_top false v t e s h low = low

step_look : (b : Bool) (v t n : ℕ) → (b ≡ true → v ≤ n) → t ≤ n → cond b v t ≤ n
step_look true v t n h low = h refl
step_look false v t n h low = low

-- at the row itself
here_is : (os : List Op) (at row k : ℕ) → (at == row) ≡ true → k ≡ (slot_after os at).version → k ≡ (slot_after os row).version
here_is os at row k b e = e ∙ ap (λ r. (slot_after os r).version) (eqb-true at row b)

pub top_low : (flags : List ℕ) (calls rest : List Call) (row : ℕ) → AllAnswer flags (calls ++ rest) → (slot_after (ops_of rest) 0).taken ≡ false → top_in calls row ≤ (slot_after (ops_of (calls ++ rest)) row).version
unfolding ops_of slot_after
top_low flags [] rest row a idle = omega arith
top_low flags (Adds at amount (Counted r v) ∷ calls) rest row a idle =
    step_top (r == row) v (top_in calls row) (Merges amount) (slot_after (ops_of (calls ++ rest)) row) (λ b. omega (arith, a.0.3, ap (λ z. (slot_after (ops_of (calls ++ rest)) z).version) (sym a.0.1 ∙ eqb-true r row b))) (top_low flags calls rest row a.1 idle)
top_low flags (Adds at amount (Held r v w) ∷ calls) rest row a idle = absurd a.0
top_low flags (Rings at content (Done v) ∷ calls) rest row a idle =
    step_top (at == row) v (top_in calls row) (Becomes content) (slot_after (ops_of (calls ++ rest)) row) (λ b. omega (arith, a.0.2, ap (λ z. (slot_after (ops_of (calls ++ rest)) z).version) (eqb-true at row b))) (top_low flags calls rest row a.1 idle)
top_low flags (Rings at content (Busy v w) ∷ calls) rest row a idle = absurd a.0
top_low flags (Rings at content (Late t v) ∷ calls) rest row a idle =
    step_look (at == row) v (top_in calls row) (slot_after (ops_of (calls ++ rest)) row).version (λ b. omega (arith, here_is (ops_of (calls ++ rest)) at row v b a.0.5)) (top_low flags calls rest row a.1 idle)
top_low flags (Reads at (Whole v found) ∷ calls) rest row a idle =
    step_look (at == row) v (top_in calls row) (slot_after (ops_of (calls ++ rest)) row).version (λ b. omega (arith, here_is (ops_of (calls ++ rest)) at row v b a.0.2)) (top_low flags calls rest row a.1 idle)
top_low flags (Reads at (Free w) ∷ calls) rest row a idle =
    step_look (at == row) (w / 4) (top_in calls row) (slot_after (ops_of (calls ++ rest)) row).version (λ b. omega (arith, a.0.2, ap (λ z. (slot_after (ops_of (calls ++ rest)) z).version) (eqb-true at row b))) (top_low flags calls rest row a.1 idle)
top_low flags (Reads at (sees.Busy v w) ∷ calls) rest row a idle = absurd a.0
top_low flags (Loads at v found ∷ calls) rest row a idle = top_low flags calls rest row a.1 idle
top_low flags (Draws kind ticket ∷ calls) rest row a idle = top_low flags calls rest row a.1 idle
top_low flags (Meets versions ∷ calls) rest row a idle = top_low flags calls rest row a.1 idle
top_low flags (Takes at v found ∷ calls) rest row a idle =
    step_top (at == row) v (top_in calls row) Holds (slot_after (ops_of (calls ++ rest)) row) (λ b. omega (arith, here_is (ops_of (calls ++ rest)) at row v b a.0.2)) (top_low flags calls rest row a.1 idle)
top_low flags (Puts at content v ∷ calls) rest row a idle =
    step_top (at == row) v (top_in calls row) (Becomes content) (slot_after (ops_of (calls ++ rest)) row) (λ b. omega (arith, a.0.2, ap (λ z. (slot_after (ops_of (calls ++ rest)) z).version) (eqb-true at row b))) (top_low flags calls rest row a.1 idle)
top_low flags (Frees at v ∷ calls) rest row a idle =
    step_top (at == row) v (top_in calls row) Releases (slot_after (ops_of (calls ++ rest)) row) (λ b. omega (arith, here_is (ops_of (calls ++ rest)) at row v b a.0.2)) (top_low flags calls rest row a.1 idle)
top_low flags (Sets at to v ∷ calls) rest row a idle = top_low flags calls rest row a.1 idle
top_low flags (Enters label labels ∷ calls) rest row a idle =
    step_top (0 == row) (length labels) (top_in calls row) Holds (slot_after (ops_of (calls ++ rest)) row) (λ b. omega (arith, ap (λ ls. length ls) a.0.1, labels_count flags (calls ++ rest) a.1, ap (λ z. (slot_after (ops_of (calls ++ rest)) z).version) (eqb-true 0 row b))) (top_low flags calls rest row a.1 idle)
top_low flags (Leaves ∷ calls) rest row a idle =
    step_top (0 == row) (action_in calls) (top_in calls row) Renews (slot_after (ops_of (calls ++ rest)) row) (λ b. omega (arith, leaving (slot_after (ops_of (calls ++ rest)) 0) (action_in calls) (length (labels_after (calls ++ rest))) a.0 (inside flags calls rest a.1 idle), labels_count flags (calls ++ rest) a.1, ap (λ z. (slot_after (ops_of (calls ++ rest)) z).version) (eqb-true 0 row b))) (top_low flags calls rest row a.1 idle)

step_set : (b : Bool) (v to t : ℕ) (x : Word) → t ≤ x.version → cond b v t ≤ (cond b (word v to) x).version
step_set true v to t x low = omega arith
step_set false v to t x low = low

pub word_low : (flags : List ℕ) (calls rest : List Call) (w : ℕ) → AllAnswer flags (calls ++ rest) → top_word calls w ≤ (word_after flags (sets_of (calls ++ rest)) w).version
unfolding sets_of word_after
word_low flags [] rest w a = omega arith
word_low flags (Loads at v found ∷ calls) rest w a =
    step_look (at == w) v (top_word calls w) (word_after flags (sets_of (calls ++ rest)) w).version (λ b. omega (arith, ap (λ (y : Word). y.version) a.0.1, ap (λ z. (word_after flags (sets_of (calls ++ rest)) z).version) (eqb-true at w b))) (word_low flags calls rest w a.1)
word_low flags (Sets at to v ∷ calls) rest w a = step_set (at == w) v to (top_word calls w) (word_after flags (sets_of (calls ++ rest)) w) (word_low flags calls rest w a.1)
word_low flags (Adds at amount answer ∷ calls) rest w a = word_low flags calls rest w a.1
word_low flags (Rings at content answer ∷ calls) rest w a = word_low flags calls rest w a.1
word_low flags (Reads at seen ∷ calls) rest w a = word_low flags calls rest w a.1
word_low flags (Draws kind ticket ∷ calls) rest w a = word_low flags calls rest w a.1
word_low flags (Meets versions ∷ calls) rest w a = absurd a.0
word_low flags (Takes at v found ∷ calls) rest w a = word_low flags calls rest w a.1
word_low flags (Puts at content v ∷ calls) rest w a = word_low flags calls rest w a.1
word_low flags (Frees at v ∷ calls) rest w a = word_low flags calls rest w a.1
word_low flags (Enters label labels ∷ calls) rest w a = word_low flags calls rest w a.1
word_low flags (Leaves ∷ calls) rest w a = word_low flags calls rest w a.1

step_draw : (b : Bool) (v t n : ℕ) → (b ≡ true → v ≡ n) → t ≤ n → cond b (v + 1) t ≤ cond b (n + 1) n
step_draw true v t n h low = omega (arith, h refl)
step_draw false v t n h low = low

pub ticket_low : (flags : List ℕ) (calls rest : List Call) (kind : ℕ) → AllAnswer flags (calls ++ rest) → top_ticket calls kind ≤ drawn (draws_of (calls ++ rest)) kind
unfolding draws_of drawn
ticket_low flags [] rest kind a = omega arith
ticket_low flags (Draws k ticket ∷ calls) rest kind a = step_draw (k == kind) ticket (top_ticket calls kind) (drawn (draws_of (calls ++ rest)) kind) (λ b. a.0.1 ∙ ap (drawn (draws_of (calls ++ rest))) (eqb-true k kind b)) (ticket_low flags calls rest kind a.1)
ticket_low flags (Meets versions ∷ calls) rest kind a = ticket_low flags calls rest kind a.1
ticket_low flags (Loads at v found ∷ calls) rest kind a = ticket_low flags calls rest kind a.1
ticket_low flags (Sets at to v ∷ calls) rest kind a = ticket_low flags calls rest kind a.1
ticket_low flags (Adds at amount answer ∷ calls) rest kind a = ticket_low flags calls rest kind a.1
ticket_low flags (Rings at content answer ∷ calls) rest kind a = ticket_low flags calls rest kind a.1
ticket_low flags (Reads at seen ∷ calls) rest kind a = ticket_low flags calls rest kind a.1
ticket_low flags (Takes at v found ∷ calls) rest kind a = ticket_low flags calls rest kind a.1
ticket_low flags (Puts at content v ∷ calls) rest kind a = ticket_low flags calls rest kind a.1
ticket_low flags (Frees at v ∷ calls) rest kind a = ticket_low flags calls rest kind a.1
ticket_low flags (Enters label labels ∷ calls) rest kind a = ticket_low flags calls rest kind a.1
ticket_low flags (Leaves ∷ calls) rest kind a = ticket_low flags calls rest kind a.1

rises : (flags : List ℕ) (call : Call) (calls rest : List Call) → AllAnswer flags (call ∷ (calls ++ rest)) → (slot_after (ops_of rest) 0).taken ≡ false → IsRising calls call
rises flags (Adds at amount (Counted r v)) calls rest a idle = let P : ℕ → Type 0 = λ z. top_in calls z < v in subst P (sym a.0.1) (omega (arith, a.0.3, top_low flags calls rest at a.1 idle))
rises flags (Adds at amount (Held r v w)) calls rest a idle = absurd a.0
rises flags (Rings at content (Done v)) calls rest a idle = omega (arith, a.0.2, top_low flags calls rest at a.1 idle)
rises flags (Rings at content (Busy v w)) calls rest a idle = absurd a.0
rises flags (Rings at content (Late t v)) calls rest a idle = omega (arith, a.0.5, top_low flags calls rest at a.1 idle)
rises flags (Reads at (Whole v found)) calls rest a idle = omega (arith, a.0.2, top_low flags calls rest at a.1 idle)
rises flags (Reads at (Free w)) calls rest a idle = omega (arith, a.0.2, top_low flags calls rest at a.1 idle)
rises flags (Reads at (sees.Busy v w)) calls rest a idle = absurd a.0
rises flags (Loads at v found) calls rest a idle = omega (arith, ap (λ (y : Word). y.version) a.0.1, word_low flags calls rest at a.1)
rises flags (Draws kind ticket) calls rest a idle = omega (arith, a.0.1, ticket_low flags calls rest kind a.1)
rises flags (Meets versions) calls rest a idle = absurd a.0
rises flags (Takes at v found) calls rest a idle = omega (arith, a.0.2, top_low flags calls rest at a.1 idle)
rises flags (Puts at content v) calls rest a idle = omega (arith, a.0.2, top_low flags calls rest at a.1 idle)
rises flags (Frees at v) calls rest a idle = omega (arith, a.0.2, top_low flags calls rest at a.1 idle)
rises flags (Sets at to v) calls rest a idle = omega (arith, a.0.1, word_low flags calls rest at a.1)
rises flags (Enters label labels) calls rest a idle = omega (arith, ap (λ ls. length ls) a.0.1, labels_count flags (calls ++ rest) a.1, top_low flags calls rest 0 a.1 idle)
rises flags Leaves calls rest a idle =
    omega (arith, leaving (slot_after (ops_of (calls ++ rest)) 0) (action_in calls) (length (labels_after (calls ++ rest))) a.0 (inside flags calls rest a.1 idle), labels_count flags (calls ++ rest) a.1, top_low flags calls rest 0 a.1 idle)

pub rising : (flags : List ℕ) (calls rest : List Call) → AllAnswer flags (calls ++ rest) → (slot_after (ops_of rest) 0).taken ≡ false → AreRising calls
rising flags [] rest a idle = tt
rising flags (call ∷ calls) rest a idle = (rises flags call calls rest a idle, rising flags calls rest a.1 idle)
