-- Lists that a loop makes or counts, one entry more.
use Rattle.std.proofs.Common.{ℕ, zero, suc, ◌≡◌, ◌+◌, List, [], ◌∷◌, ◌++◌, take, Some, ap, ◌∙◌, arith}
use Rattle.std.specs.Prelude.{slice_get}

same_some : {X : Type 0} {x y : X} → Some x ≡ Some y → x ≡ y
same_some {x} {y} h = grind (arith, h)

took_suc : {X : Type 0} (xs : List X) (i : ℕ) (x : X) → slice_get xs i ≡ Some x → take (suc i) xs ≡ take i xs ++ x ∷ []
took_suc [] i x h = grind (arith, h)
took_suc (y ∷ ys) zero x h = ap (λ z. z ∷ []) (same_some h)
took_suc (y ∷ ys) (suc i) x h = ap (λ z. y ∷ z) (took_suc ys i x h)

pub took_one : {X : Type 0} (xs : List X) (i : ℕ) (x : X) → slice_get xs i ≡ Some x → take (i + 1) xs ≡ take i xs ++ x ∷ []
took_one xs i x h = let same : i + 1 ≡ suc i = omega arith in ap (λ n. take n xs) same ∙ took_suc xs i x h
