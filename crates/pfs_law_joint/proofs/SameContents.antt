-- What stands in a row at a version is fixed by the change that made it.
use Rattle.std.proofs.Common.{ℕ, zero, suc, ◌≡◌, ◌+◌, ◌<◌, ◌≤◌, ◌==◌, Bool, true, false, ◌&&◌, List, [], ◌∷◌, ◌++◌, refl, ap, sym, ◌∙◌, subst, arith, eqb-true, append_assoc}
use Rattle.pfs_lemmas.proofs.Bools.{and_first, and_second}
use Rattle.pfs_levels.specs.declared.answers.Added.TheVariants.{Counted, Held}
use Rattle.pfs_levels.specs.declared.answers.RingPut.TheVariants.{Done, Busy, Late}
use Rattle.pfs_levels.specs.Calls.{Call, Adds, Rings, Reads, Loads, Draws, Takes, Puts, Frees, Sets, Enters, Leaves, Meets}
use Rattle.pfs_levels.specs.RowWords.{merged}
use Rattle.pfs_levels.specs.JointCalls.{total, one_if, At, at_put, at_free, changes_of, count, Setting, Draw, Joint, AllAgree, all_calls}
use Rattle.pfs_law_joint.specs.Contents.{SameLaw}
use Rattle.pfs_law_joint.specs.Versions.{makes}
use Rattle.pfs_law_joint.proofs.VersionChains.{log_chain, there}
use Rattle.pfs_law_joint.proofs.CallPlaces.{agree_back}

abbrev made_in : ℕ → ℕ → List At → ℕ
made_in row k log = total (λ x. one_if (makes row k x)) log

-- the change is here, or among those behind
step : (at v row k : ℕ) (rest : List At) (goal : Type 0) → 0 < made_in row k (at_put at v ∷ rest) → (at ≡ row → v ≡ k → goal) → (0 < made_in row k rest → goal) → goal
unfolding total
step at v row k rest goal up here there = on ((at == row) && (v == k)) refl up where
  on : (b : Bool) → ((at == row) && (v == k)) ≡ b → 0 < one_if b + made_in row k rest → goal
  on true e up = here (eqb-true at row (and_first (at == row) (v == k) e)) (eqb-true v k (and_second (at == row) (v == k) e))
  on false e up = there (omega (arith, up))

free_step : (at v row k : ℕ) (rest : List At) → 0 < made_in row k (at_free at v ∷ rest) → 0 < made_in row k rest
unfolding total
free_step at v row k rest up = on (at == row) up where
  on : (b : Bool) → 0 < one_if (b && false) + made_in row k rest → 0 < made_in row k rest
  on true up = omega (arith, up)
  on false up = omega (arith, up)

module _ (flags : List ℕ) (content after : ℕ → ℕ → List ℕ) (log grown : List At) (sets news : List Setting) (row k : ℕ) (e : content row k ≡ after row k) where
  made : (calls : List Call) → AllAgree flags content log sets calls → AllAgree flags after grown news calls → 0 < made_in row (k + 1) (changes_of calls) → content row (k + 1) ≡ after row (k + 1)
  unfolding total changes_of
  made [] a b up = absurd (omega (arith, up))
  made (Adds at amount (Counted r v) ∷ calls) a b up =
      step r v row (k + 1) (changes_of calls) (content row (k + 1) ≡ after row (k + 1)) up
      (λ here is. let n : a.0.0 ≡ k = omega (arith, a.0.1.0, is) in let m : b.0.0 ≡ k = omega (arith, b.0.1.0, is) in
      sym (ap (λ z. content z (k + 1)) here) ∙ (sym (ap (content r) is) ∙ (a.0.1.1 ∙ (ap (λ z. merged (content r z) amount) n ∙ (ap (λ z. merged (content z k) amount) here
      ∙ (ap (λ z. merged z amount) e ∙ (sym (ap (λ z. merged (after z k) amount) here) ∙ (sym (ap (λ z. merged (after r z) amount) m) ∙ (sym b.0.1.1 ∙ (ap (after r) is ∙ ap (λ z. after z (k + 1)) here))))))))))
      (made calls a.1 b.1)
  made (Rings at put (Done v) ∷ calls) a b up =
      step at v row (k + 1) (changes_of calls) (content row (k + 1) ≡ after row (k + 1)) up
      (λ here is. sym (ap (λ z. content z (k + 1)) here) ∙ (sym (ap (content at) is) ∙ (a.0.1.1 ∙ (sym b.0.1.1 ∙ (ap (after at) is ∙ ap (λ z. after z (k + 1)) here)))))
      (made calls a.1 b.1)
  made (Puts at put v ∷ calls) a b up =
      step at v row (k + 1) (changes_of calls) (content row (k + 1) ≡ after row (k + 1)) up
      (λ here is. sym (ap (λ z. content z (k + 1)) here) ∙ (sym (ap (content at) is) ∙ (a.0 ∙ (sym b.0 ∙ (ap (after at) is ∙ ap (λ z. after z (k + 1)) here)))))
      (made calls a.1 b.1)
  made (Frees at v ∷ calls) a b up = made calls a.1 b.1 (free_step at v row (k + 1) (changes_of calls) up)
  made (Adds at amount (Held r v w) ∷ calls) a b up = made calls a.1 b.1 up
  made (Rings at put (Busy v w) ∷ calls) a b up = made calls a.1 b.1 up
  made (Rings at put (Late t v) ∷ calls) a b up = made calls a.1 b.1 up
  made (Reads at seen ∷ calls) a b up = made calls a.1 b.1 up
  made (Loads at v found ∷ calls) a b up = made calls a.1 b.1 up
  made (Draws kind ticket ∷ calls) a b up = made calls a.1 b.1 up
  made (Meets versions ∷ calls) a b up = made calls a.1 b.1 up
  made (Takes at v found ∷ calls) a b up = made calls a.1 b.1 up
  made (Sets at to v ∷ calls) a b up = made calls a.1 b.1 up
  made (Enters label labels ∷ calls) a b up = made calls a.1 b.1 up
  made (Leaves ∷ calls) a b up = made calls a.1 b.1 up

calls_then : (xs ys : List (List Call)) → all_calls (xs ++ ys) ≡ all_calls xs ++ all_calls ys
unfolding all_calls
calls_then [] ys = refl
calls_then (x ∷ xs) ys = ap (λ z. x ++ z) (calls_then xs ys) ∙ sym (append_assoc x (all_calls xs) (all_calls ys))

module _ (flags : List ℕ) (actors later : List (List Call)) (content after : ℕ → ℕ → List ℕ) (log grown : List At) (sets more : List Setting) (draws drawn : List Draw)
    (j : Joint flags actors content log sets draws) (g : Joint flags (later ++ actors) after grown more drawn) (row : ℕ) (up : 0 < row) (low : row < 14242) where
  by : (k : ℕ) → k ≤ count log row → content row k ≡ after row k
  by zero few = j.opens row up low ∙ sym (g.opens row up low)
  by (suc k) few =
      let e : content row k ≡ after row k = by k (omega (arith, few)) in
      let b : AllAgree flags after grown more (all_calls actors) =
      agree_back flags after grown more (all_calls later) (all_calls actors) (subst (AllAgree flags after grown more) (calls_then later actors) g.agrees) in
      let w : made_in row (k + 1) (changes_of (all_calls actors)) ≡ 1 =
      j.once (λ x. one_if (makes row (k + 1) x)) ∙ (log_chain log row (k + 1) j.chain ∙ there (k + 1) (count log row) (omega arith) (omega (arith, few))) in
      let s : suc k ≡ k + 1 = omega arith in
      ap (content row) s ∙ (made flags content after log grown sets more row k e (all_calls actors) j.agrees b (omega (arith, w)) ∙ sym (ap (after row) s))

pub same_contents : SameLaw
same_contents = λ flags actors later content after log grown sets more draws drawn j g row k up low few.
    by flags actors later content after log grown sets more draws drawn j g row up low k few
