-- The lowest place that is free, or that passes a test, by its position.
use Rattle.std.proofs.Common.{ℕ, zero, suc, ◌≡◌, ◌<◌, ◌==◌, Bool, true, false, cond, List, [], ◌∷◌, length, Option, Some, None, is_none, slice_index_or, refl, sym, ap, ◌∙◌, arith}
use Rattle.std.specs.List.{position}
use Rattle.pfs_containers.specs.Administration.{Found, found_where, one_up, next_place, lowest_free, found_or, named_place}
use Rattle.pfs_containers.specs.ContainerState.{is_met, as_found}

-- a position in a longer list
abbrev pub behind : Bool → Option ℕ → Option ℕ
behind true later = Some 0
behind false later = next_place later

pub position_of : {X : Type 0} (p : X → Bool) (x : X) (xs : List X) → position p (x ∷ xs) ≡ behind (p x) (position p xs)
position_of p x xs = grind arith

pub free_is : {X : Type 0} (xs : List (Option X)) → lowest_free xs ≡ position (λ entry. is_none entry) xs
free_is [] = refl
free_is (None ∷ xs) = sym (position_of (λ entry. is_none entry) None xs)
free_is (Some x ∷ xs) = ap next_place (free_is xs) ∙ sym (position_of (λ entry. is_none entry) (Some x) xs)

-- what stands at a place that was found
abbrev pub found_in : {X : Type 0} → ℕ → Option X → Option (Found X)
found_in n None = None
found_in n (Some x) = Some (record { place = n; entry = x })

abbrev pub found_by : {X : Type 0} → List (Option X) → Option ℕ → Option (Found X)
found_by xs None = None
found_by xs (Some n) = found_in n (slice_index_or xs n None)

one_up_is : {X : Type 0} (n : ℕ) (x : Option X) → one_up (found_in n x) ≡ found_in (suc n) x
one_up_is n None = refl
one_up_is n (Some x) = refl

up_is : {X : Type 0} (x : Option X) (xs : List (Option X)) (at : Option ℕ) → one_up (found_by xs at) ≡ found_by (x ∷ xs) (next_place at)
up_is x xs None = refl
up_is x xs (Some n) = one_up_is n (slice_index_or xs n None)

found_here : {X : Type 0} (test : X → Bool) (x : X) (xs : List (Option X)) (b : Bool) (at : Option ℕ)
    → cond b (Some (record { place = 0; entry = x })) (one_up (found_by xs at)) ≡ found_by (Some x ∷ xs) (behind b at)
found_here test x xs true at = refl
found_here test x xs false at = up_is (Some x) xs at

pub found_is : {X : Type 0} (test : X → Bool) (xs : List (Option X)) → found_where test xs ≡ found_by xs (position (λ entry. is_met test entry) xs)
found_is test [] = refl
found_is test (None ∷ xs) =
    ap one_up (found_is test xs) ∙ (up_is None xs _ ∙ ap (found_by (None ∷ xs)) (sym (position_of (λ entry. is_met test entry) None xs)))
found_is test (Some x ∷ xs) =
    ap (λ z. cond (test x) (Some (record { place = 0; entry = x })) (one_up z)) (found_is test xs)
    ∙ (found_here test x xs (test x) _ ∙ ap (found_by (Some x ∷ xs)) (sym (position_of (λ entry. is_met test entry) (Some x) xs)))

-- where it stands
abbrev pub place_in : {X : Type 0} → Option (Found X) → Option ℕ
place_in None = None
place_in (Some found) = Some found.place

place_up : {X : Type 0} (found : Option (Found X)) → place_in (one_up found) ≡ next_place (place_in found)
place_up None = refl
place_up (Some found) = refl

place_here : {X : Type 0} (x : X) (b : Bool) (found : Option (Found X))
    → place_in (cond b (Some (record { place = 0; entry = x })) (one_up found)) ≡ behind b (place_in found)
place_here x true found = refl
place_here x false found = place_up found

pub place_is : {X : Type 0} (test : X → Bool) (xs : List (Option X)) → place_in (found_where test xs) ≡ position (λ entry. is_met test entry) xs
place_is test [] = refl
place_is test (None ∷ xs) = place_up (found_where test xs)
    ∙ (ap next_place (place_is test xs) ∙ sym (position_of (λ entry. is_met test entry) None xs))
place_is test (Some x ∷ xs) = place_here x (test x) (found_where test xs)
    ∙ (ap (behind (test x)) (place_is test xs) ∙ sym (position_of (λ entry. is_met test entry) (Some x) xs))

or_here : {X : Type 0} (found : Option (Found X)) (free : Option ℕ) (n : ℕ) → place_in found ≡ Some n → found_or found free ≡ Some n
or_here None free n h = grind (arith, h)
or_here (Some found) free n h = h

or_free : {X : Type 0} (found : Option (Found X)) (free : Option ℕ) → place_in found ≡ None → found_or found free ≡ free
or_free None free h = refl
or_free (Some found) free h = grind (arith, h)

pub named_here : (name : ℕ) (xs : List (Option ℕ)) (n : ℕ) → position (λ entry. is_met (λ x. x == name) entry) xs ≡ Some n
    → named_place name xs ≡ Some n
named_here name xs n h = or_here (found_where (λ x. x == name) xs) (lowest_free xs) n (place_is (λ x. x == name) xs ∙ h)

pub named_free : (name : ℕ) (xs : List (Option ℕ)) → position (λ entry. is_met (λ x. x == name) entry) xs ≡ None
    → named_place name xs ≡ lowest_free xs
named_free name xs h = or_free (found_where (λ x. x == name) xs) (lowest_free xs) (place_is (λ x. x == name) xs ∙ h)

any_default : {X : Type 0} (xs : List X) (n : ℕ) (d e : X) → n < length xs → slice_index_or xs n d ≡ slice_index_or xs n e
any_default [] n d e l = absurd (omega (arith, l))
any_default (x ∷ xs) zero d e l = refl
any_default (x ∷ xs) (suc n) d e l = any_default xs n d e (omega (arith, l))

-- the entry that passes a test, with its place
pub found_at : {X : Type 0} (test : X → Bool) (xs : List (Option X)) (n : ℕ) (x : X) (d : Option X) → position (λ entry. is_met test entry) xs ≡ Some n
    → n < length xs → slice_index_or xs n d ≡ Some x → as_found (Some (n, x)) ≡ found_where test xs
found_at test xs n x d p l q = sym (found_is test xs ∙ (ap (found_by xs) p ∙ ap (found_in n) (any_default xs n None d l ∙ q)))

pub none_at : {X : Type 0} (test : X → Bool) (xs : List (Option X)) (n : ℕ) (d : Option X) → position (λ entry. is_met test entry) xs ≡ Some n
    → n < length xs → slice_index_or xs n d ≡ None → as_found None ≡ found_where test xs
none_at test xs n d p l q = sym (found_is test xs ∙ (ap (found_by xs) p ∙ ap (found_in n) (any_default xs n None d l ∙ q)))

pub not_found : {X : Type 0} (test : X → Bool) (xs : List (Option X)) → position (λ entry. is_met test entry) xs ≡ None
    → as_found None ≡ found_where test xs
not_found test xs p = sym (found_is test xs ∙ ap (found_by xs) p)
