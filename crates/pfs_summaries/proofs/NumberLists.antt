-- Lists that are made number by number.
use Rattle.std.proofs.Common.{ℕ, zero, suc, ◌≡◌, ◌+◌, ◌<◌, ◌≤◌, List, [], ◌∷◌, ◌++◌, sym, ap, ◌∙◌, refl, arith, append_assoc, append-nil}
use Rattle.std.specs.Prelude.{fold}
use Rattle.std.specs.List.{flat_map, range_with_len}
use Rattle.std.proofs.lemmas.List.Concat.{flat_map-append, flat_map-cons}
use Rattle.std.proofs.lemmas.List.Sums.{fold-append}

range_push : (a n : ℕ) → range_with_len a (suc n) ≡ range_with_len a n ++ (a + n) ∷ []
range_push a zero = let e : a ≡ a + 0 = omega arith in ap (λ k. k ∷ []) e
range_push a (suc n) =
    let e : a + 1 + n ≡ a + suc n = omega arith in
    ap (λ (z : List ℕ). a ∷ z) (range_push (a + 1) n ∙ ap (λ k. range_with_len (a + 1) n ++ k ∷ []) e)

-- one number more
pub range_more : {X : Type 0} (f : ℕ → List X) (n : ℕ) → flat_map f (range_with_len 0 (n + 1)) ≡ flat_map f (range_with_len 0 n) ++ f n
range_more {X} f n =
    let s : n + 1 ≡ suc n = omega arith in
    let z : 0 + n ≡ n = omega arith in
    ap (λ m. flat_map f (range_with_len 0 m)) s
    ∙ (ap (flat_map f) (range_push 0 n ∙ ap (λ m. range_with_len 0 n ++ m ∷ []) z)
    ∙ (flat_map-append f (range_with_len 0 n) (n ∷ [])
    ∙ ap (λ (y : List X). flat_map f (range_with_len 0 n) ++ y) (append-nil (f n))))

-- what is appended number by number
pub appended_more : {X : Type 0} (f : ℕ → List X) (n : ℕ) (old before now : List X) → before ≡ old ++ flat_map f (range_with_len 0 n) → now ≡ before ++ f n → now ≡ old ++ flat_map f (range_with_len 0 (n + 1))
appended_more {X} f n old before now b w =
    w ∙ (ap (λ (z : List X). z ++ f n) b
    ∙ (append_assoc old (flat_map f (range_with_len 0 n)) (f n)
    ∙ ap (λ (z : List X). old ++ z) (sym (range_more f n))))

-- what is put number by number
pub put_more : {X Y : Type 0} (put : Y → X → Y) (f : ℕ → List X) (n : ℕ) (old before now : Y) → before ≡ fold put old (flat_map f (range_with_len 0 n)) → now ≡ fold put before (f n)
    → now ≡ fold put old (flat_map f (range_with_len 0 (n + 1)))
put_more {X} {Y} put f n old before now b w =
    w ∙ (ap (λ (z : Y). fold put z (f n)) b
    ∙ (sym (fold-append put old (flat_map f (range_with_len 0 n)) (f n))
    ∙ ap (λ (z : List X). fold put old z) (sym (range_more f n))))

-- lists that are made alike
pub made_same : {X : Type 0} (f g : ℕ → List X) (a n : ℕ) → ((k : ℕ) → a ≤ k → k < a + n → f k ≡ g k) → flat_map f (range_with_len a n) ≡ flat_map g (range_with_len a n)
made_same f g a zero same = refl
made_same {X} f g a (suc n) same =
    flat_map-cons f a (range_with_len (a + 1) n)
    ∙ (ap (λ (z : List X). z ++ flat_map f (range_with_len (a + 1) n)) (same a (omega arith) (omega arith))
    ∙ (ap (λ (z : List X). g a ++ z) (made_same f g (a + 1) n (λ k low high. same k (omega arith) (omega arith)))
    ∙ sym (flat_map-cons g a (range_with_len (a + 1) n))))
