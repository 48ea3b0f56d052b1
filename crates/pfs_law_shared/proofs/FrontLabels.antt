-- The labels of the first actions are a front of those of all: each stands at the number of its action.
use Rattle.std.proofs.Common.{ℕ, suc, ◌≡◌, ◌+◌, ◌-◌, ◌<◌, ◌≤◌, ◌==◌, Bool, true, false, ◌&&◌, List, [], ◌∷◌, length, take, slice_index_or, inl, inr, refl, ap, sym, ◌∙◌, subst, arith, eqb-true}
use Rattle.std.specs.Prelude.{nat_lt, nat_le}
use Rattle.std.proofs.lemmas.Bool.{cases_lt}
use Rattle.pfs_board.specs.Knowledge.{no_label}
use Rattle.pfs_board.specs.declared.view.Label.{Label}
use Rattle.pfs_levels.specs.declared.answers.Added.TheVariants.{Counted, Held}
use Rattle.pfs_levels.specs.declared.answers.RingPut.TheVariants.{Done, Busy, Late}
use Rattle.pfs_levels.specs.Calls.{Call, Adds, Rings, Reads, Loads, Draws, Takes, Puts, Frees, Sets, Enters, Leaves, Meets, action_in, label_in}
use Rattle.pfs_levels.specs.CallOrder.{Mark, AllCalls, AreNamed, AreMarked, marks_of, all_marks, marked}
use Rattle.pfs_levels.specs.JointCalls.{total, one_if}
use Rattle.pfs_model.proofs.EachLists.{each_join}
use Rattle.pfs_model.specs.Chains.{Each}
use Rattle.pfs_reader.specs.Readings.{call_of}
use Rattle.pfs_reader.specs.Readings.{calls_of as calls_of_readings}
use Rattle.pfs_rows.specs.declared.table.Reading.{Reading}
use Rattle.pfs_rows.specs.declared.table.Reading.TheVariants as readings
use Rattle.pfs_law_joint.proofs.Sums.{total_then}
use Rattle.pfs_law_joint.proofs.VersionChains.{mark_chain, there}
use Rattle.pfs_law_shared.specs.Order.{IsNear}
use Rattle.pfs_law_shared.proofs.EndReadings.{split_calls}

-- the end of an action by its number, which is a version of row 0
abbrev ends_at : ℕ → Mark → ℕ
ends_at number m = one_if ((m.row == 0) && m.puts && (m.version == number))

-- a change of another row is none
passed : (row v number : ℕ) (puts : Bool) (rest : ℕ) → 0 < row → 0 < one_if ((row == 0) && puts && (v == number)) + rest → 0 < rest
passed row v number puts rest up some = at (row == 0) refl some where
  at : (b : Bool) → (row == 0) ≡ b → 0 < one_if (b && puts && (v == number)) + rest → 0 < rest
  at true e some = absurd (omega (arith, up, eqb-true row 0 e))
  at false e some = omega (arith, some)

one_less : (n : ℕ) → (n + 1) - 1 ≡ n
one_less n = omega arith

-- where an action ends its label stands at its number, by whichever labels
module _ (some all : List Label) (k : ℕ) where
  abbrev Same : Type 0
  Same = slice_index_or some k no_label ≡ slice_index_or all k no_label

  named_here : (action : ℕ) (label : Label) → action ≡ k + 1 → slice_index_or some (action - 1) no_label ≡ label → slice_index_or all (action - 1) no_label ≡ label → Same
  named_here action label e in_some in_all =
      let less : action - 1 ≡ k = ap (λ n. n - 1) e ∙ one_less k in
      sym (ap (λ n. slice_index_or some n no_label) less) ∙ (in_some ∙ (sym in_all ∙ ap (λ n. slice_index_or all n no_label) less))

  named_in : (calls : List Call) → Each IsNear calls → AreNamed some calls → AreNamed all calls → 0 < total (ends_at (k + 1)) (marks_of calls) → Same
  unfolding total marks_of
  named_in [] near a b up = absurd (omega (arith, up))
  named_in (Leaves ∷ calls) near a b up = at (named_in calls near.1 a.1 b.1) (action_in calls == k + 1) refl up where
    at : (0 < total (ends_at (k + 1)) (marks_of calls) → Same) → (here : Bool) → (action_in calls == k + 1) ≡ here → 0 < one_if here + total (ends_at (k + 1)) (marks_of calls) → Same
    at behind true e up = named_here (action_in calls) (label_in calls) (eqb-true (action_in calls) (k + 1) e) a.0 b.0
    at behind false e up = behind (omega (arith, up))
  named_in (Adds at amount (Counted r v) ∷ calls) near a b up = named_in calls near.1 a.1 b.1 (passed r v (k + 1) true (total (ends_at (k + 1)) (marks_of calls)) near.0.0 up)
  named_in (Adds at amount (Held r v w) ∷ calls) near a b up = named_in calls near.1 a.1 b.1 up
  named_in (Rings at put (Done v) ∷ calls) near a b up = named_in calls near.1 a.1 b.1 (passed at v (k + 1) true (total (ends_at (k + 1)) (marks_of calls)) near.0.0 up)
  named_in (Rings at put (Busy v w) ∷ calls) near a b up = named_in calls near.1 a.1 b.1 up
  named_in (Rings at put (Late t v) ∷ calls) near a b up = named_in calls near.1 a.1 b.1 up
  named_in (Reads at seen ∷ calls) near a b up = named_in calls near.1 a.1 b.1 up
  named_in (Loads at v found ∷ calls) near a b up = named_in calls near.1 a.1 b.1 up
  named_in (Draws kind ticket ∷ calls) near a b up = named_in calls near.1 a.1 b.1 up
  named_in (Meets versions ∷ calls) near a b up = named_in calls near.1 a.1 b.1 up
  named_in (Takes at v found ∷ calls) near a b up = named_in calls near.1 a.1 b.1 up
  named_in (Puts at put v ∷ calls) near a b up = named_in calls near.1 a.1 b.1 (passed at v (k + 1) true (total (ends_at (k + 1)) (marks_of calls)) near.0.0 up)
  named_in (Frees at v ∷ calls) near a b up = named_in calls near.1 a.1 b.1 (passed at v (k + 1) false (total (ends_at (k + 1)) (marks_of calls)) near.0.0 up)
  named_in (Sets at to v ∷ calls) near a b up = named_in calls near.1 a.1 b.1 up
  named_in (Enters label labels ∷ calls) near a b up = named_in calls near.1 a.1 b.1 up

  named_among : (actors : List (List Call)) → AllCalls (Each IsNear) actors → AllCalls (AreNamed some) actors → AllCalls (AreNamed all) actors → 0 < total (ends_at (k + 1)) (all_marks actors) → Same
  unfolding total all_marks
  named_among [] near a b up = absurd (omega (arith, up))
  named_among (calls ∷ actors) near a b up = elim (cases_lt 0 (total (ends_at (k + 1)) (marks_of calls))) [
    | inl own ↦ named_in calls near.0 a.0 b.0 own
    | inr none ↦ named_among actors near.1 a.1 b.1 (omega (arith, up, none, total_then (ends_at (k + 1)) (marks_of calls) (all_marks actors)))
  ]

-- a list that another one goes on with
same_front : (some all : List Label) → length some ≤ length all → ((k : ℕ) → k < length some → slice_index_or some k no_label ≡ slice_index_or all k no_label) → some ≡ take (length some) all
same_front [] all low each = refl
same_front (x ∷ xs) [] low each = absurd (omega (arith, low))
same_front (x ∷ xs) (y ∷ ys) low each =
    ap (λ z. z ∷ xs) (each 0 (omega arith)) ∙ ap (λ z. y ∷ z) (same_front xs ys (omega (arith, low)) (λ k less. each (suc k) (omega (arith, less))))

-- so of actors whose actions have the numbers of these marks, each once
pub front_labels : (some all : List Label) (actors : List (List Call)) (marks : List Mark) → AreMarked marks → ((h : Mark → ℕ) → total h (all_marks actors) ≡ total h marks)
    → length some ≡ marked marks 0 → length some ≤ length all → AllCalls (Each IsNear) actors → AllCalls (AreNamed some) actors → AllCalls (AreNamed all) actors
    → some ≡ take (length some) all
front_labels some all actors marks chain once ended low near named others = same_front some all low each where
  each : (k : ℕ) → k < length some → slice_index_or some k no_label ≡ slice_index_or all k no_label
  each k less =
      let published : total (ends_at (k + 1)) marks ≡ one_if (nat_lt 0 (k + 1) && nat_le (k + 1) (marked marks 0)) = mark_chain marks 0 (k + 1) chain in
      let one = there (k + 1) (marked marks 0) (omega arith) (omega (arith, less, ended)) in
      named_among some all k actors near named others (omega (arith, once (ends_at (k + 1)), published, one))

-- ---- a reader ends no action

abbrev IsReader : Call → Type 0
IsReader (Reads row seen) = Unit {0}
IsReader (Loads at version found) = Unit {0}
IsReader _ = ⊥

no_marks : (calls : List Call) → Each IsReader calls → marks_of calls ≡ []
unfolding marks_of
no_marks [] reads = refl
no_marks (Reads row seen ∷ calls) reads = no_marks calls reads.1
no_marks (Loads at version found ∷ calls) reads = no_marks calls reads.1
no_marks (Adds at amount answer ∷ calls) reads = absurd reads.0
no_marks (Rings at put answer ∷ calls) reads = absurd reads.0
no_marks (Draws kind ticket ∷ calls) reads = absurd reads.0
no_marks (Meets versions ∷ calls) reads = absurd reads.0
no_marks (Takes at version found ∷ calls) reads = absurd reads.0
no_marks (Puts at put version ∷ calls) reads = absurd reads.0
no_marks (Frees at version ∷ calls) reads = absurd reads.0
no_marks (Sets at to version ∷ calls) reads = absurd reads.0
no_marks (Enters label labels ∷ calls) reads = absurd reads.0
no_marks (Leaves ∷ calls) reads = absurd reads.0

reader : (r : Reading) → IsReader (call_of r)
reader (readings.Slot row seen) = tt
reader (readings.Word word version flags) = tt

all_readers : (rs : List Reading) → Each IsReader (calls_of_readings rs)
all_readers [] = tt
all_readers (r ∷ rs) = subst (Each IsReader) (sym (split_calls r rs)) (each_join IsReader (calls_of_readings rs) (call_of r ∷ []) (all_readers rs) (reader r, tt))

pub unmarked : (rs : List Reading) → marks_of (calls_of_readings rs) ≡ []
unmarked rs = no_marks (calls_of_readings rs) (all_readers rs)
