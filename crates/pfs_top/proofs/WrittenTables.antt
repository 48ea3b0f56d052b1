-- A list of tables of which some are written, one after another.
use Rattle.std.proofs.Common.{ℕ, ◌≡◌, ◌+◌, ◌<◌, Bool, true, List, ◌∷◌, ◌++◌, length, take, drop, get_or, sym, ap, ◌∙◌, subst}
use Rattle.std.specs.Prelude.{cond, filter}
use Rattle.std.specs.List.{flat_map}
use Rattle.std.proofs.lemmas.Grind.{flat_map-append}
use Rattle.std.proofs.lemmas.List.{at_drop_more, take-append-drop}
use Rattle.std.proofs.lemmas.List.Elements.{filter-append}

-- those before one that is written, that one, and those behind it
pub written_around : {T : Type 0} (f : T → List ℕ) (test : T → Bool) (xs : List T) (i : ℕ) (x : T) → i < length xs → x ≡ get_or xs i x → test x ≡ true
    → flat_map f (filter test xs) ≡ flat_map f (filter test (take i xs)) ++ (f x ++ flat_map f (filter test (drop (i + 1) xs)))
written_around {T} f test xs i x h e passes =
    let next : drop i xs ≡ x ∷ drop (i + 1) xs = at_drop_more (λ (zs : List T). zs) xs i x h ∙ ap (λ (y : T). y ∷ drop (i + 1) xs) (sym e) in
    let kept : filter test (drop i xs) ≡ x ∷ filter test (drop (i + 1) xs) = ap (filter test) next ∙ ap (λ (b : Bool). cond b (x ∷ filter test (drop (i + 1) xs)) (filter test (drop (i + 1) xs))) passes in
    ap (λ (zs : List T). flat_map f (filter test zs)) (sym (take-append-drop i xs))
    ∙ (ap (flat_map f) (filter-append test (take i xs) (drop i xs))
    ∙ (flat_map-append f (filter test (take i xs)) (filter test (drop i xs))
    ∙ ap (λ (zs : List T). flat_map f (filter test (take i xs)) ++ flat_map f zs) kept))
