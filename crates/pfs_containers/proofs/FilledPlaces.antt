-- Filling a place, emptying it and counting there, as writes of one place.
use Rattle.std.proofs.Common.{ℕ, zero, suc, ◌≡◌, ◌<◌, ◌≤◌, ◌+◌, ◌==◌, Bool, true, false, cond, List, [], ◌∷◌, ◌++◌, length, replicate, take, drop, Option, Some, None, is_none, slice_index_or, slice_set, refl, sym, ap, ◌∙◌, arith}
use Rattle.pfs_lemmas.proofs.Bools.{cond_at_most_one}
use Rattle.pfs_containers.specs.Connections.{fill, fill_at, emptied_at, is_from}
use Rattle.pfs_containers.specs.Administration.{added_from}
use Rattle.pfs_containers.specs.ContainerState.{AreUpTo}

pub fill_free : {X : Type 0} (n : ℕ) (new : X) (xs : List (Option X)) (d : Option X) → n < length xs → is_none (slice_index_or xs n d) ≡ true
    → fill_at n new xs ≡ slice_set xs n (Some new)
fill_free n new [] d l h = absurd (omega (arith, l))
fill_free zero new (None ∷ xs) d l h = refl
fill_free zero new (Some x ∷ xs) d l h = grind (arith, h)
fill_free (suc n) new (x ∷ xs) d l h = ap (λ z. x ∷ z) (fill_free n new xs d (omega (arith, l)) h)

pub fill_taken : {X : Type 0} (n : ℕ) (new : X) (xs : List (Option X)) (d : Option X) → n < length xs → is_none (slice_index_or xs n d) ≡ false
    → fill_at n new xs ≡ xs
fill_taken n new [] d l h = refl
fill_taken zero new (None ∷ xs) d l h = grind (arith, h)
fill_taken zero new (Some x ∷ xs) d l h = refl
fill_taken (suc n) new (x ∷ xs) d l h = ap (λ z. x ∷ z) (fill_taken n new xs d (omega (arith, l)) h)

pub filled_free : {X : Type 0} (place : Option ℕ) (n : ℕ) (new : X) (xs : List (Option X)) (d : Option X) → place ≡ Some n → n < length xs
    → is_none (slice_index_or xs n d) ≡ true → slice_set xs n (Some new) ≡ fill place new xs
filled_free place n new xs d e l h = sym (ap (λ z. fill z new xs) e ∙ fill_free n new xs d l h)

pub filled_taken : {X : Type 0} (place : Option ℕ) (n : ℕ) (new : X) (xs : List (Option X)) (d : Option X) → place ≡ Some n → n < length xs
    → is_none (slice_index_or xs n d) ≡ false → xs ≡ fill place new xs
filled_taken place n new xs d e l h = sym (ap (λ z. fill z new xs) e ∙ fill_taken n new xs d l h)

pub filled_none : {X : Type 0} (place : Option ℕ) (new : X) (xs : List (Option X)) → place ≡ None → xs ≡ fill place new xs
filled_none place new xs e = sym (ap (λ z. fill z new xs) e)

pub emptied_is : {X : Type 0} (n : ℕ) (xs : List (Option X)) → emptied_at n xs ≡ slice_set xs n None
emptied_is n [] = refl
emptied_is zero (x ∷ xs) = refl
emptied_is (suc n) (x ∷ xs) = ap (λ z. x ∷ z) (emptied_is n xs)

none_more : (b : Bool) (x : ℕ) → b ≡ false → cond b 1 0 + x ≡ x
none_more true x h = grind (arith, h)
none_more false x h = omega arith

one_more : (b : Bool) (x : ℕ) → b ≡ true → cond b 1 0 + x ≡ x + 1
one_more true x h = omega arith
one_more false x h = grind (arith, h)

both : {x y : ℕ} {xs ys : List ℕ} → x ≡ y → xs ≡ ys → x ∷ xs ≡ y ∷ ys
both {y} {xs} p q = ap (λ z. z ∷ xs) p ∙ ap (λ z. y ∷ z) q

pub added_none : (n : ℕ) (xs : List ℕ) → added_from n None xs ≡ xs
added_none n [] = refl
added_none n (x ∷ xs) = both (omega arith) (added_none (suc n) xs)

-- behind its place nothing is counted
added_past : (n k : ℕ) (xs : List ℕ) → k < n → added_from n (Some k) xs ≡ xs
added_past n k [] l = refl
added_past n k (x ∷ xs) l = both (none_more (k == n) x (grind (arith, l))) (added_past (suc n) k xs (omega (arith, l)))

added_at : (n k p : ℕ) (xs : List ℕ) → k ≡ n + p → p < length xs → added_from n (Some k) xs ≡ slice_set xs p (slice_index_or xs p 0 + 1)
added_at n k p [] e l = absurd (omega (arith, l))
added_at n k zero (x ∷ xs) e l = both (one_more (k == n) x (grind (arith, e))) (added_past (suc n) k xs (omega (arith, e)))
added_at n k (suc p) (x ∷ xs) e l =
    both (none_more (k == n) x (grind (arith, e))) (added_at (suc n) k p xs (omega (arith, e)) (omega (arith, l)))

pub added_one : (p : ℕ) (xs : List ℕ) → p < length xs → added_from 0 (Some p) xs ≡ slice_set xs p (slice_index_or xs p 0 + 1)
added_one p xs l = added_at 0 p p xs (omega arith) l

-- each number is up to the bound, and stays up to a greater one, also with one more at a place
pub up_to_at : (most p : ℕ) (xs : List ℕ) → AreUpTo most xs → slice_index_or xs p 0 ≤ most
up_to_at most p [] are = omega arith
up_to_at most zero (x ∷ xs) are = are.0
up_to_at most (suc p) (x ∷ xs) are = up_to_at most p xs are.1

pub up_to_wider : (most wide : ℕ) (xs : List ℕ) → most ≤ wide → AreUpTo most xs → AreUpTo wide xs
up_to_wider most wide [] le are = tt
up_to_wider most wide (x ∷ xs) le are = (omega (arith, le, are.0), up_to_wider most wide xs le are.1)

pub up_to_added : (most n : ℕ) (place : Option ℕ) (xs : List ℕ) → AreUpTo most xs → AreUpTo (most + 1) (added_from n place xs)
up_to_added most n place [] are = tt
up_to_added most n place (x ∷ xs) are = (omega (arith, cond_at_most_one (is_from n place), are.0), up_to_added most (suc n) place xs are.1)

pub zeroes_are : (most n : ℕ) → AreUpTo most (replicate n 0)
zeroes_are most zero = tt
zeroes_are most (suc n) = (omega arith, zeroes_are most n)

drop_empty : {X : Type 0} (n : ℕ) → drop {A = X} n [] ≡ []
drop_empty zero = refl
drop_empty (suc n) = refl

-- a list that was written whole
whole : {X : Type 0} (xs ys : List X) → take (length xs) (xs ++ drop (length xs) ys) ≡ xs
whole [] ys = refl
whole (x ∷ xs) [] = ap (λ z. x ∷ z) (ap (λ z. take (length xs) (xs ++ z)) (sym (drop_empty (length xs))) ∙ whole xs [])
whole (x ∷ xs) (y ∷ ys) = ap (λ z. x ∷ z) (whole xs ys)

pub whole_is : {X : Type 0} (n : ℕ) (new old want : List X) → new ≡ want → length want ≡ n → take n (new ++ drop (length new) old) ≡ want
whole_is n new old want same len = ap (λ z. take n (z ++ drop (length z) old)) same ∙ (ap (λ z. take z (want ++ drop (length want) old)) (sym len) ∙ whole want old)
