-- Events by their numbers: each ended once, and was added to a row just where it belongs.
use Rattle.std.proofs.Common.{◌≡◌, refl, ℕ, ◌+◌, ◌≤◌, ◌==◌, ◌&&◌, Bool, true, false, cond, List, [], ◌∷◌, map, filter, Some, count_by, sym, ap, subst, ◌∙◌, inl, inr, arith}
use Rattle.std.proofs.lemmas.List.Sums.{sum_by-cons}
use Rattle.std.proofs.lemmas.Bool.{eqb-true}
use Rattle.pfs_lemmas.proofs.Numbers.{eq_swap}
use Rattle.pfs_conservation.specs.PrintedChanges.{times_added}
use Rattle.pfs_model.specs.Actions.{IsAmong}
use Rattle.pfs_model.specs.Chains.{Each, times}
use Rattle.pfs_model.specs.Contexts.{Context, fresh}
use Rattle.pfs_model.specs.EntryPlaces.{Block, told_by, places, IsShaped}
use Rattle.pfs_model.specs.Puts.{AreBroughtBehind}
use Rattle.pfs_law_conservation.specs.RunEvents.{event_number, Ended, number_of, all_ended, of_number}
use Rattle.pfs_law_conservation.specs.Premises.{AreClosed}
use Rattle.pfs_law_conservation.specs.KindLines.{all_lines}
use Rattle.pfs_law_conservation.proofs.HeldAdditions.{times_waiting, added_offered}
use Rattle.pfs_law_conservation.proofs.BlockSettlements.{all_settled}
use Rattle.pfs_law_conservation.proofs.EntryWalk.{Comes, told_to, IsFollowed, all_followed}
use Rattle.pfs_law_conservation.proofs.EventNumbers.{is_number, times_ended, ends_once}
use Rattle.pfs_law_conservation.proofs.EventOffers.{comes_to, comes_beside, offered, all_near, all_fed, all_offered}
use Rattle.pfs_law_conservation.proofs.RowLines.{bit_no}

-- blocks with what is brought there
pub record AreWhole (flags : ℕ → ℕ → ℕ) (blocks : List Block) : Type 0 where
  pub shaped : IsShaped blocks
  pub closed : AreClosed blocks
  pub brought : AreBroughtBehind flags [] (places blocks)

-- a row is added just the events that come to it, by their cell or by their digest
pub counts_are : (flags : ℕ → ℕ → ℕ) (blocks : List Block) → AreWhole flags blocks → (session index row : ℕ)
    → times_added (event_number session index) (all_lines (places blocks)) row
    ≡ times (comes_to (event_number session index) row) (all_ended (places blocks)) + times (comes_beside flags (event_number session index) row) (all_ended (places blocks))
counts_are flags blocks w session index row =
    let f : IsFollowed session fresh (places blocks) (told_by session fresh blocks) = all_followed session blocks in
    let a : times_added (event_number session index) (all_lines (places blocks)) row + times_waiting index row (told_to session fresh (places blocks)).waiting ≡ offered session index row (places blocks) + 0
    = added_offered session index row fresh (places blocks) f.follow in
    let z : times_waiting index row (told_to session fresh (places blocks)).waiting ≡ 0 = ap (times_waiting index row) (empty (told_to session fresh (places blocks)) (told_by session fresh blocks) f.ends ∙ all_settled session blocks w.shaped w.closed) in
    let o : offered session index row (places blocks) ≡ times (comes_to (event_number session index) row) (all_ended (places blocks)) + times (comes_beside flags (event_number session index) row) (all_ended (places blocks))
    = all_offered flags session index row (places blocks) (all_near blocks w.shaped) (all_fed blocks w.shaped) w.brought in
    omega (arith, a, z, o) where
      empty : (c d : Context) → Comes c d → c.waiting ≡ d.waiting
      empty c d (inl e) = sym (ap (λ (z : Context). z.waiting) e)
      empty c d (inr e) = sym (ap (λ (z : Context). z.waiting) e)

pub ended_once : (blocks : List Block) (session index : ℕ) → times_ended (event_number session index) (all_ended (places blocks)) ≤ 1
ended_once blocks session index = (ends_once session index fresh (places blocks) (all_followed session blocks).follow (omega arith) (λ l. refl)).1

-- how often a number is among those of events that pass a test
abbrev pub numbers_on : (Ended → Bool) → List Ended → List ℕ
numbers_on test ends = map number_of (filter test ends)

count_cons : (n x : ℕ) (xs : List ℕ) → count_by (λ y. n == y) (x ∷ xs) ≡ cond (n == x) 1 0 + count_by (λ y. n == y) xs
count_cons n x xs = sum_by-cons (λ y. cond (n == y) 1 0) x xs

pub numbers_count : (n : ℕ) (test : Ended → Bool) (xs : List Ended) → count_by (λ y. n == y) (numbers_on test xs) ≡ times (λ o. is_number n o && test o) xs
numbers_count n test [] = refl
numbers_count n test (x ∷ xs) = at (test x) (numbers_count n test xs) where
  at : (b : Bool) → count_by (λ y. n == y) (numbers_on test xs) ≡ times (λ o. is_number n o && test o) xs
      → count_by (λ y. n == y) (map number_of (cond b (x ∷ filter test xs) (filter test xs))) ≡ cond {A = ℕ} ((number_of x == n) && b) 1 0 + times (λ o. is_number n o && test o) xs
  at true e =
      let c : count_by (λ y. n == y) (number_of x ∷ numbers_on test xs) ≡ cond (n == number_of x) 1 0 + count_by (λ y. n == y) (numbers_on test xs) = count_cons n (number_of x) (numbers_on test xs) in
      let s : cond {A = ℕ} (n == number_of x) 1 0 ≡ cond {A = ℕ} ((number_of x == n) && true) 1 0 = ap (λ b. cond {A = ℕ} b 1 0) (eq_swap n (number_of x) ∙ with_true (number_of x == n)) in
      omega (arith, c, s, e) where
        with_true : (b : Bool) → b ≡ (b && true)
        with_true true = refl
        with_true false = refl
  at false e = (let z : cond {A = ℕ} ((number_of x == n) && false) 1 0 ≡ 0 = bit_no ((number_of x == n) && false) (none (number_of x == n)) in omega (arith, z, e)) where
    none : (b : Bool) → b && false ≡ false
    none true = refl
    none false = refl

pub times_and : (n : ℕ) (test : Ended → Bool) (xs : List Ended) → times (λ o. is_number n o && test o) xs ≤ times_ended n xs
times_and n test [] = omega arith
times_and n test (x ∷ xs) = at (is_number n x) (test x) (times_and n test xs) where
  at : (a b : Bool) → times (λ o. is_number n o && test o) xs ≤ times_ended n xs → cond {A = ℕ} (a && b) 1 0 + times (λ o. is_number n o && test o) xs ≤ cond {A = ℕ} a 1 0 + times_ended n xs
  at true true l = omega (arith, l)
  at true false l = omega (arith, l)
  at false b l = omega (arith, l)

-- the one event of a number
pub record IsOne (n : ℕ) (test : Ended → Bool) (xs : List Ended) : Type 0 where
  pub one : Ended
  pub among : IsAmong one xs
  pub found : of_number n xs ≡ Some one
  pub number : number_of one ≡ n
  pub passes : test one ≡ true
  pub those : (other : Ended → Bool) → times (λ o. is_number n o && other o) xs ≡ cond (other one) 1 0

pub one_is : (n : ℕ) (test : Ended → Bool) (xs : List Ended) → times_ended n xs ≤ 1 → 1 ≤ times (λ o. is_number n o && test o) xs → IsOne n test xs
one_is n test [] few some = absurd (omega (arith, some))
one_is n test (x ∷ xs) few some = at (number_of x == n) refl (test x) refl few some (λ f s. one_is n test xs f s) where
  Go : Type 0
  Go = times_ended n xs ≤ 1 → 1 ≤ times (λ o. is_number n o && test o) xs → IsOne n test xs

  skip : (number_of x == n) ≡ false → IsOne n test xs → IsOne n test (x ∷ xs)
  skip q r = record {
    one = r.one;
    among = inr r.among;
    found = ap (λ b. cond b (Some x) (of_number n xs)) q ∙ r.found;
    number = r.number;
    passes = r.passes;
    those = λ other. ap (λ b. cond {A = ℕ} (b && other x) 1 0 + times (λ o. is_number n o && other o) xs) q ∙ (zero_plus (times (λ o. is_number n o && other o) xs) ∙ r.those other);
  } where
    zero_plus : (n : ℕ) → 0 + n ≡ n
    zero_plus n = omega arith

  at : (a : Bool) → (number_of x == n) ≡ a → (b : Bool) → test x ≡ b → cond {A = ℕ} a 1 0 + times_ended n xs ≤ 1 → 1 ≤ cond {A = ℕ} (a && b) 1 0 + times (λ o. is_number n o && test o) xs → Go → IsOne n test (x ∷ xs)
  at true q true r few some go = record {
    one = x;
    among = inl refl;
    found = ap (λ b. cond b (Some x) (of_number n xs)) q;
    number = eqb-true (number_of x) n q;
    passes = r;
    those = λ other. (
        let z : times (λ o. is_number n o && other o) xs ≤ times_ended n xs = times_and n other xs in
        let e : cond {A = ℕ} ((number_of x == n) && other x) 1 0 ≡ cond {A = ℕ} (other x) 1 0 = ap (λ b. cond {A = ℕ} (b && other x) 1 0) q in
        omega (arith, z, e, few)
        );
  }
  at true q false r few some go = absurd (let z : times (λ o. is_number n o && test o) xs ≤ times_ended n xs = times_and n test xs in omega (arith, z, few, some))
  at false q b r few some go = skip q (go (omega (arith, few)) (omega (arith, some)))

-- an event that is among those that pass ended once
pub one_of : (n : ℕ) (test : Ended → Bool) (xs : List Ended) → ((session index : ℕ) → times_ended (event_number session index) xs ≤ 1) → 1 ≤ count_by (λ y. n == y) (numbers_on test xs) → IsOne n test xs
one_of n test xs once l = one_is n test xs (by (some xs many)) many where
  many : 1 ≤ times (λ o. is_number n o && test o) xs
  many = let c : count_by (λ y. n == y) (numbers_on test xs) ≡ times (λ o. is_number n o && test o) xs = numbers_count n test xs in omega (arith, c, l)

  some : (xs : List Ended) → 1 ≤ times (λ o. is_number n o && test o) xs → (one : Ended) × (number_of one ≡ n)
  some [] l = absurd (omega (arith, l))
  some (x ∷ xs) l = at (number_of x == n) refl l (some xs) where
    at : (b : Bool) → (number_of x == n) ≡ b → 1 ≤ cond {A = ℕ} (b && test x) 1 0 + times (λ o. is_number n o && test o) xs
        → (1 ≤ times (λ o. is_number n o && test o) xs → (one : Ended) × (number_of one ≡ n)) → (one : Ended) × (number_of one ≡ n)
    at true q l go = (x, eqb-true (number_of x) n q)
    at false q l go = go (omega (arith, l))

  by : (one : Ended) × (number_of one ≡ n) → times_ended n xs ≤ 1
  by (one, e) = subst (λ k. times_ended k xs ≤ 1) e (once one.session one.event.index)

pub each_among : (P : Ended → Type 0) (one : Ended) (xs : List Ended) → IsAmong one xs → Each P xs → P one
each_among P one [] m h = absurd m
each_among P one (x ∷ xs) (inl e) h = subst P e h.0
each_among P one (x ∷ xs) (inr m) h = each_among P one xs m h.1
