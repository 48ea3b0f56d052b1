-- The first line of a text.
use Rattle.std.proofs.Common.{ℕ, ◌≡◌, ◌+◌, ◌<◌, ◌≤◌, ◌-◌, Bool, true, false, not, List, [], ◌∷◌, length, take, drop, subst, refl, sym, ap, ◌∙◌, arith, length-drop}
use Rattle.std.specs.Prelude.{Option, Some, None, slice_index}
use Rattle.std.specs.List.{position, position_or_len, slice_split}
use Rattle.std.proofs.lemmas.Bool.{false≢true, not-true}
use Rattle.std.proofs.lemmas.Bool.Decides.{nat_tests}
use Rattle.memchr.specs.Find.{IsFirstByte}
use Rattle.std.proofs.lemmas.List.Quantifiers.{position-Some}
use Rattle.std.proofs.lemmas.List.Sums.{prefix_len_passes}
use Rattle.std.proofs.lemmas.List.Splits.{slice_split_first, slice_split_none, length-slice_split}
use Rattle.std.proofs.lemmas.List.{take_rest}

found : (p : ℕ → Bool) (xs : List ℕ) (i : ℕ) → position p xs ≡ Some i → position_or_len p xs ≡ i
found p xs i e = grind (arith, nat_tests, e)

-- the part before the place found, and the parts of what is behind it
pub split_found : (p : ℕ → Bool) (xs : List ℕ) (i : ℕ) → position p xs ≡ Some i → slice_split p xs ≡ take i xs ∷ slice_split p (take (length xs - (i + 1)) (drop (i + 1) xs))
split_found p xs i e =
    let within : i < length xs = (position-Some p xs i 0 e).0 in
    let at : position_or_len p xs ≡ i = found p xs i e in
    let first : slice_split p xs ≡ take (position_or_len p xs) xs ∷ slice_split p (drop (position_or_len p xs + 1) xs) = slice_split_first p xs 0 (omega arith) in
    rw take_rest (subst (λ k. slice_split p xs ≡ take k xs ∷ slice_split p (drop (k + 1) xs)) at first)

-- what is behind the place found is shorter
pub rest_shorter : (p : ℕ → Bool) (xs : List ℕ) (i : ℕ) → position p xs ≡ Some i → length (take (length xs - (i + 1)) (drop (i + 1) xs)) < length xs
rest_shorter p xs i e =
    let within : i < length xs = (position-Some p xs i 0 e).0 in
    rw take_rest (omega (arith, length-drop (i + 1) xs))

not_found : (p : ℕ → Bool) (xs : List ℕ) → position p xs ≡ None → length xs ≤ position_or_len p xs
not_found p xs e = grind (arith, nat_tests, e)

-- nothing is found: one part
pub split_missing : (p : ℕ → Bool) (xs : List ℕ) → position p xs ≡ None → slice_split p xs ≡ xs ∷ []
split_missing p xs e =
    let none = not_found p xs e in
    slice_split_none p xs (λ k d h. not-true _ (prefix_len_passes (λ x. not (p x)) xs k d (omega arith)))

-- the first byte that passes, as the search of bytes says it, is the first place
no_place : (p : ℕ → Bool) (xs : List ℕ) → position p xs ≡ None → (k : ℕ) → k < length xs → p (slice_index xs k) ≡ false
no_place p xs e k below = not-true _ (prefix_len_passes (λ x. not (p x)) xs k 0 (omega (arith, not_found p xs e, below)))

pub first_place : (p : ℕ → Bool) (xs : List ℕ) (r : Option ℕ) → IsFirstByte p xs r → r ≡ position p xs
first_place p xs r first = on p xs r (position p xs) refl first
  where
    on : (p : ℕ → Bool) (xs : List ℕ) (r q : Option ℕ) → position p xs ≡ q → IsFirstByte p xs r → r ≡ q
    on p xs None None e first = refl
    on p xs (Some i) None e first = absurd (false≢true (sym (no_place p xs e i first.0.high) ∙ first.1))
    on p xs None (Some j) e first =
        let is = position-Some p xs j 0 e in
        absurd (first j (omega arith) is.0 is.1)
    on p xs (Some i) (Some j) e first =
        let is = position-Some p xs j 0 e in
        let high : ¬ (i < j) = λ less. absurd (false≢true (sym (is.2 i less) ∙ first.1)) in
        let low : ¬ (j < i) = λ less. absurd (first.0.before j (omega arith) less is.1) in
        let same : i ≡ j = omega (arith, high, low) in
        ap Some same

-- a text has at least one part
pub some_parts : (p : ℕ → Bool) (xs : List ℕ) → 0 < length (slice_split p xs)
some_parts p xs = omega (arith, length-slice_split p xs)
