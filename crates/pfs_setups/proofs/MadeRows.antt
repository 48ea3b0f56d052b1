-- One row more of those that were made.
use Rattle.std.proofs.Common.{ℕ, zero, suc, ◌≡◌, ◌+◌, List, [], ◌∷◌, ◌++◌, map, take, Some, refl, ap, sym, subst, ◌∙◌, arith}
use Rattle.std.specs.Prelude.{slice_get}

one_more : {X Y : Type 0} (make : X → Y) (xs : List X) (k : ℕ) (x : X) → slice_get xs k ≡ Some x → map make (take (suc k) xs) ≡ map make (take k xs) ++ make x ∷ []
one_more make [] k x e = absurd (cc (e))
one_more make (y ∷ ys) zero x e = ap (λ z. make z ∷ []) (cc (e))
one_more make (y ∷ ys) (suc k) x e = ap (λ z. make y ∷ z) (one_more make ys k x e)

pub grown : {X Y : Type 0} (make : X → Y) (xs : List X) (k : ℕ) (x : X) (row : Y) (old new : List Y) → slice_get xs k ≡ Some x → row ≡ make x → new ≡ old ++ row ∷ []
    → old ≡ map make (take k xs) → new ≡ map make (take (k + 1) xs)
grown make xs k x row old new there is push before =
    let next : suc k ≡ k + 1 = omega arith in
    push ∙ (ap (λ z. z ++ row ∷ []) before ∙ (ap (λ z. map make (take k xs) ++ z ∷ []) is ∙ (sym (one_more make xs k x there) ∙ ap (λ n. map make (take n xs)) next)))
