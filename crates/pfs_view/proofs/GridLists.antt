-- The greatest of a list, one more at a time.
use Rattle.std.proofs.Common.{ℕ, ◌≡◌, ◌+◌, ◌<◌, max, List, [], ◌∷◌, ◌++◌, length, take, get_or, ap, sym, ◌∙◌, arith}
use Rattle.std.proofs.lemmas.List.{take_more}
use Rattle.std.specs.Prelude.{codes}
use Rattle.std.proofs.Math.Numerals.{suc-eq-add-one}
use Rattle.pfs_view.specs.Grids.{bars, first_of, greatest}

greatest_behind : {A : Type 0} (f : A → ℕ) (xs : List A) (x : A) → greatest f (xs ++ x ∷ []) ≡ max (greatest f xs) (f x)
greatest_behind f [] x = omega arith
greatest_behind f (y ∷ ys) x = omega (arith, greatest_behind f ys x)

-- one more, above what was there at first
pub wider : {A : Type 0} (f : A → ℕ) (xs : List A) (i : ℕ) (x : A) (least width : ℕ) → i < length xs → x ≡ get_or xs i x → width ≡ max least (greatest f (take i xs)) → max width (f x) ≡ max least (greatest f (take (i + 1) xs))
wider {A} f xs i x least width within at is =
    let more : greatest f (take (i + 1) xs) ≡ max (greatest f (take i xs)) (f x) = ap (greatest f) (take_more xs i x within) ∙ greatest_behind f (take i xs) (get_or xs i x) ∙ ap (λ (y : A). max (greatest f (take i xs)) (f y)) (sym at) in
    omega (arith, is, more)

-- one place more
pub first_more : {A : Type 0} (f : ℕ → A) (i : ℕ) (old : List A) (x : A) → old ≡ first_of f i → x ≡ f i → old ++ x ∷ [] ≡ first_of f (i + 1)
first_more {A} f i old x is here = ap (λ (z : List A). z ++ x ∷ []) is ∙ ap (λ (y : A). first_of f i ++ y ∷ []) here ∙ ap (first_of f) (suc-eq-add-one i)

pub bars_more : (cell : ℕ → List ℕ) (i : ℕ) (old new : List ℕ) → old ≡ bars cell i → new ≡ old ++ codes "| " ++ cell i ++ codes " " → new ≡ bars cell (i + 1)
bars_more cell i old new is more = more ∙ ap (λ (z : List ℕ). z ++ codes "| " ++ cell i ++ codes " ") is ∙ ap (bars cell) (suc-eq-add-one i)
