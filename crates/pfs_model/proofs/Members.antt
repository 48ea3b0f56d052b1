-- What is among one of two lists is among both together, and the other way.
use Rattle.std.proofs.Common.{List, [], ◌∷◌, ◌++◌, inl, inr}
use Rattle.std.specs.Prelude.{◌⊎◌}
use Rattle.pfs_model.specs.Actions.{IsAmong}

pub among_front : {A : Type 0} (x : A) (xs ys : List A) → IsAmong x xs → IsAmong x (xs ++ ys)
among_front x [] ys m = absurd m
among_front x (y ∷ xs) ys (inl e) = inl e
among_front x (y ∷ xs) ys (inr m) = inr (among_front x xs ys m)

pub among_back : {A : Type 0} (x : A) (xs ys : List A) → IsAmong x ys → IsAmong x (xs ++ ys)
among_back x [] ys m = m
among_back x (y ∷ xs) ys m = inr (among_back x xs ys m)

pub among_either : {A : Type 0} (x : A) (xs ys : List A) → IsAmong x (xs ++ ys) → IsAmong x xs ⊎ IsAmong x ys
among_either x [] ys m = inr m
among_either x (y ∷ xs) ys (inl e) = inl (inl e)
among_either x (y ∷ xs) ys (inr m) = more (among_either x xs ys m) where
  more : IsAmong x xs ⊎ IsAmong x ys → IsAmong x (y ∷ xs) ⊎ IsAmong x ys
  more (inl m) = inl (inr m)
  more (inr m) = inr m
