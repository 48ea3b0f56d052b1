-- Merging events by their numbers is merging the events.
use Rattle.std.proofs.Common.{◌≡◌, refl, ℕ, ◌+◌, ◌≤◌, ◌==◌, inl, inr, Bool, true, false, cond, List, [], ◌∷◌, map, filter, fold, Some, ap, ◌∙◌, arith}
use Rattle.pfs_conservation.specs.RowChains.{Sums, with_event}
use Rattle.pfs_law_conservation.proofs.EventNumbers.{times_ended}
use Rattle.pfs_law_conservation.proofs.RowLines.{bit_yes}
use Rattle.pfs_law_conservation.specs.RunEvents.{Ended, number_of, of_number}
use Rattle.pfs_lemmas.proofs.Numbers.{eq_self}
use Rattle.pfs_model.specs.Actions.{IsAmong}
use Rattle.pfs_model.specs.Chains.{Each}
use Rattle.pfs_stat.specs.Stat.{merge_of}
use Rattle.pfs_stat.specs.declared.Stat.{Stat}

among_times : (one : Ended) (xs : List Ended) → IsAmong one xs → 1 ≤ times_ended (number_of one) xs
among_times one [] m = absurd m
among_times one (x ∷ xs) (inl e) = omega (arith, bit_yes (number_of x == number_of one) (ap (λ (y : Ended). number_of y == number_of one) e ∙ eq_self (number_of one)))
among_times one (x ∷ xs) (inr m) = let l : 1 ≤ times_ended (number_of one) xs = among_times one xs m in omega (arith, l)

-- an event whose number ends once is the one of its number
pub found_self : (one : Ended) (xs : List Ended) → IsAmong one xs → times_ended (number_of one) xs ≤ 1 → of_number (number_of one) xs ≡ Some one
found_self one [] m few = absurd m
found_self one (x ∷ xs) (inl e) few = rw (ap (λ (y : Ended). number_of y == number_of one) e ∙ eq_self (number_of one)) (ap (λ (y : Ended). Some y) e)
found_self one (x ∷ xs) (inr m) few = at (number_of x == number_of one) refl few (found_self one xs m) where
  at : (b : Bool) → (number_of x == number_of one) ≡ b → cond {A = ℕ} b 1 0 + times_ended (number_of one) xs ≤ 1 → (times_ended (number_of one) xs ≤ 1 → of_number (number_of one) xs ≡ Some one) → cond b (Some x) (of_number (number_of one) xs) ≡ Some one
  at true q few go = absurd (let l : 1 ≤ times_ended (number_of one) xs = among_times one xs m in omega (arith, l, few))
  at false q few go = go (omega (arith, few))

-- of all of a list, of those that pass a test
pub each_passing : (P : Ended → Type 0) (test : Ended → Bool) (xs : List Ended) → ((one : Ended) → IsAmong one xs → P one) → Each P (filter test xs)
each_passing P test [] all = tt
each_passing P test (x ∷ xs) all = at (test x) (each_passing P test xs (λ one m. all one (inr m))) where
  at : (b : Bool) → Each P (filter test xs) → Each P (cond b (x ∷ filter test xs) (filter test xs))
  at true rest = (all x (inl refl), rest)
  at false rest = rest

pub merged : (sums : Sums Stat) (amount : Ended → Stat) → ((a b : Stat) → sums.merge a b ≡ merge_of a b) → (xs : List Ended) → Each (λ one. sums.of_event (number_of one) ≡ amount one) xs → (here : Stat)
    → fold (with_event sums) here (map number_of xs) ≡ fold merge_of here (map amount xs)
merged sums amount merges [] adds here = refl
merged sums amount merges (x ∷ xs) adds here =
    ap (λ s. fold (with_event sums) s (map number_of xs)) (merges here (sums.of_event (number_of x)) ∙ ap (merge_of here) adds.0)
    ∙ merged sums amount merges xs adds.1 (merge_of here (amount x))
