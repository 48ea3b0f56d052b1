-- A list of parts that is written part by part.
use Rattle.std.proofs.Common.{ℕ, ◌≡◌, ◌+◌, ◌<◌, List, [], ◌∷◌, ◌++◌, length, take, drop, get_or, sym, ap, ◌∙◌, append-nil}
use Rattle.std.specs.List.{flat_map}
use Rattle.std.proofs.lemmas.List.{at_drop_more, take_more, take-append-drop}
use Rattle.std.proofs.lemmas.List.Concat.{flat_map-cons}
use Rattle.std.proofs.lemmas.Grind.{flat_map-append}

-- the parts before one, that one, and the parts behind it
pub flat_map_around : {T : Type 0} (f : T → List ℕ) (xs : List T) (i : ℕ) (x : T) → i < length xs → x ≡ get_or xs i x → flat_map f xs ≡ flat_map f (take i xs) ++ (f x ++ flat_map f (drop (i + 1) xs))
flat_map_around {T} f xs i x h e =
    ap (flat_map f) (sym (take-append-drop i xs))
    ∙ (flat_map-append f (take i xs) (drop i xs)
    ∙ ap (λ (z : List ℕ). flat_map f (take i xs) ++ z) (at_drop_more (flat_map f) xs i x h ∙ (flat_map-cons f (get_or xs i x) (drop (i + 1) xs) ∙ ap (λ (y : T). f y ++ flat_map f (drop (i + 1) xs)) (sym e))))

-- the parts up to one are those before it, and that one
pub flat_map_more : {T : Type 0} (f : T → List ℕ) (xs : List T) (i : ℕ) (x : T) → i < length xs → x ≡ get_or xs i x → flat_map f (take (i + 1) xs) ≡ flat_map f (take i xs) ++ f x
flat_map_more {T} f xs i x h e =
    ap (flat_map f) (take_more xs i x h)
    ∙ (flat_map-append f (take i xs) (get_or xs i x ∷ [])
    ∙ ap (λ (z : List ℕ). flat_map f (take i xs) ++ z) (flat_map-cons f (get_or xs i x) [] ∙ (append-nil (f (get_or xs i x)) ∙ ap f (sym e))))
