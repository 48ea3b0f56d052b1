-- Merging events by their numbers is merging the events.
use Rattle.std.proofs.Common.{◌≡◌, refl, ℕ, ◌+◌, ◌≤◌, ◌==◌, ◌&&◌, inl, inr, Bool, true, false, cond, List, [], ◌∷◌, map, filter, fold, Some, sym, ap, ◌∙◌, arith}
use Rattle.pfs_lemmas.proofs.Numbers.{eq_self}
use Rattle.pfs_conservation.specs.RowChains.{Sums, with_event}
use Rattle.pfs_model.specs.Actions.{IsAmong}
use Rattle.pfs_model.specs.Chains.{Each, times}
use Rattle.pfs_stat.specs.Stat.{merge_of}
use Rattle.pfs_stat.specs.declared.Stat.{Stat}
use Rattle.pfs_law_conservation.specs.RunEvents.{Ended, number_of, of_number}
use Rattle.pfs_law_conservation.proofs.EventNumbers.{is_number, times_ended}
use Rattle.pfs_law_conservation.proofs.RowLines.{bit_yes}

among_times : (one : Ended) (xs : List Ended) → IsAmong one xs → 1 ≤ times_ended (number_of one) xs
among_times one [] m = absurd m
among_times one (x ∷ xs) (inl e) = omega (arith, bit_yes (number_of x == number_of one) (ap (λ (y : Ended). number_of y == number_of one) e ∙ eq_self (number_of one)))
among_times one (x ∷ xs) (inr m) = let l : 1 ≤ times_ended (number_of one) xs = among_times one xs m in omega (arith, l)

-- an event whose number ends once is the one of its number
pub found_self : (one : Ended) (xs : List Ended) → IsAmong one xs → times_ended (number_of one) xs ≤ 1 → of_number (number_of one) xs ≡ Some one
found_self one [] m few = absurd m
found_self one (x ∷ xs) (inl e) few = rw (ap (λ (y : Ended). number_of y == number_of one) e ∙ eq_self (number_of one)) (ap (λ (y : Ended). Some y) e)
found_self one (x ∷ xs) (inr m) few = at (number_of x == number_of one) refl few (found_self one xs m) where
  at : (b : Bool) → (number_of x == number_of one) ≡ b → cond {A = ℕ} b 1 0 + times_ended (number_of one) xs ≤ 1 → (times_ended (number_of one) xs ≤ 1 → of_number (number_of one) xs ≡ Some one) → cond b (Some x) (of_number (number_of one) xs) ≡ Some one
  at true q few go = absurd (let l : 1 ≤ times_ended (number_of one) xs = among_times one xs m in omega (arith, l, few))
  at false q few go = go (omega (arith, few))

-- an event that passes is one of its number that does
pub some_times : (one : Ended) (test : Ended → Bool) (xs : List Ended) → IsAmong one xs → test one ≡ true → 1 ≤ times (λ o. is_number (number_of one) o && test o) xs
some_times one test [] m q = absurd m
some_times one test (x ∷ xs) (inl e) q = omega (arith, bit_yes (is_number (number_of one) x && test x) (ap (λ (y : Ended). is_number (number_of one) y && test y) e ∙ both (number_of one) (test one) q)) where
  both : (n : ℕ) (b : Bool) → b ≡ true → ((n == n) && b) ≡ true
  both n b q = grind (arith, q)
some_times one test (x ∷ xs) (inr m) q = let l : 1 ≤ times (λ o. is_number (number_of one) o && test o) xs = some_times one test xs m q in omega (arith, l)

pub each_self : (P : Ended → Type 0) (xs : List Ended) → ((one : Ended) → IsAmong one xs → P one) → Each P xs
each_self P [] h = tt
each_self P (x ∷ xs) h = (h x (inl refl), each_self P xs (λ one m. h one (inr m)))

module _ (sums : Sums Stat) (merges : (a b : Stat) → sums.merge a b ≡ merge_of a b) (amount : Ended → Stat) (kind : Ended → Bool) (by_number : ℕ → Bool) (counts : Ended → Bool) where
  -- an event counts by its number just where it counts, and adds the same
  pub record IsSame (one : Ended) : Type 0 where
    pub same : (kind one && by_number (number_of one)) ≡ counts one
    pub adds : kind one ≡ true → sums.of_event (number_of one) ≡ amount one

  pub merged_same : (xs : List Ended) → Each IsSame xs → (here : Stat) → fold (with_event sums) here (filter by_number (map number_of (filter kind xs))) ≡ fold merge_of here (map amount (filter counts xs))
  merged_same [] h here = refl
  merged_same (x ∷ xs) h here = at (kind x) refl (by_number (number_of x)) refl (counts x) refl (λ there. merged_same xs h.1 there) where
    Rest : Type 0
    Rest = (there : Stat) → fold (with_event sums) there (filter by_number (map number_of (filter kind xs))) ≡ fold merge_of there (map amount (filter counts xs))

    at : (a : Bool) → kind x ≡ a → (b : Bool) → by_number (number_of x) ≡ b → (c : Bool) → counts x ≡ c → Rest → fold (with_event sums) here (filter by_number (map number_of (filter kind (x ∷ xs)))) ≡ fold merge_of here (map amount (filter counts (x ∷ xs)))
    at true p true q true r rest =
        ap (λ b. fold (with_event sums) here (filter by_number (map number_of (cond b (x ∷ filter kind xs) (filter kind xs))))) p
        ∙ (ap (λ b. fold (with_event sums) here (cond b (number_of x ∷ filter by_number (map number_of (filter kind xs))) (filter by_number (map number_of (filter kind xs))))) q
        ∙ (ap (λ s. fold (with_event sums) s (filter by_number (map number_of (filter kind xs)))) (merges here (sums.of_event (number_of x)) ∙ ap (merge_of here) (h.0.adds p))
        ∙ (rest (merge_of here (amount x))
        ∙ sym (ap (λ b. fold merge_of here (map amount (cond b (x ∷ filter counts xs) (filter counts xs)))) r))))
    at true p false q false r rest =
        ap (λ b. fold (with_event sums) here (filter by_number (map number_of (cond b (x ∷ filter kind xs) (filter kind xs))))) p
        ∙ (ap (λ b. fold (with_event sums) here (cond b (number_of x ∷ filter by_number (map number_of (filter kind xs))) (filter by_number (map number_of (filter kind xs))))) q
        ∙ (rest here ∙ sym (ap (λ b. fold merge_of here (map amount (cond b (x ∷ filter counts xs) (filter counts xs)))) r)))
    at false p b q false r rest =
        ap (λ b. fold (with_event sums) here (filter by_number (map number_of (cond b (x ∷ filter kind xs) (filter kind xs))))) p
        ∙ (rest here ∙ sym (ap (λ b. fold merge_of here (map amount (cond b (x ∷ filter counts xs) (filter counts xs)))) r))
    at true p true q false r rest = absurd (let z : true ≡ false = sym (ap (λ a. a && by_number (number_of x)) p ∙ q) ∙ (h.0.same ∙ r) in cc)
    at true p false q true r rest = absurd (let z : false ≡ true = sym (ap (λ a. a && by_number (number_of x)) p ∙ q) ∙ (h.0.same ∙ r) in cc)
    at false p b q true r rest = absurd (let z : false ≡ true = sym (ap (λ a. a && by_number (number_of x)) p) ∙ (h.0.same ∙ r) in cc)
