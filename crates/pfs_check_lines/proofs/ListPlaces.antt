-- A list from a place on.
use Rattle.std.proofs.Common.{◌≡◌, ℕ, ◌+◌, ◌-◌, ◌<◌, List, ◌∷◌, length, get_or, take, drop, sym, ◌∙◌, ap, arith}
use Rattle.std.proofs.lemmas.List.{drop_more, length-drop, take_all}

-- an element stands before those behind it
pub parted : {A : Type 0} (xs : List A) (i : ℕ) (x : A) → i < length xs → x ≡ get_or xs i x → drop i xs ≡ x ∷ drop (i + 1) xs
parted {A} xs i x within is = drop_more xs i x within ∙ ap (λ (y : A). y ∷ drop (i + 1) xs) (sym is)

-- as many as there are from a place on are all of them
pub to_the_end : {A : Type 0} (xs : List A) (i : ℕ) → take (length xs - i) (drop i xs) ≡ drop i xs
to_the_end xs i = take_all (length xs - i) (drop i xs) (omega (arith, length-drop i xs))

-- what is the same as an element is that element too
pub same_read : {A : Type 0} (xs : List A) (i : ℕ) (x y : A) → y ≡ x → x ≡ get_or xs i x → y ≡ get_or xs i y
same_read {A} xs i x y same is = same ∙ is ∙ ap (λ (z : A). get_or xs i z) (sym same)
