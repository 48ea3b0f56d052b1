-- What holds of each of two lists holds of each of both together, and the other way.
use Rattle.std.proofs.Common.{List, [], ◌∷◌, ◌++◌}
use Rattle.pfs_model.specs.Chains.{Each}

pub each_join : {A : Type 0} (P : A → Type 0) (xs ys : List A) → Each P xs → Each P ys → Each P (xs ++ ys)
each_join P [] ys of_xs of_ys = of_ys
each_join P (x ∷ xs) ys of_xs of_ys = (of_xs.0, each_join P xs ys of_xs.1 of_ys)

pub each_front : {A : Type 0} (P : A → Type 0) (xs ys : List A) → Each P (xs ++ ys) → Each P xs
each_front P [] ys of_both = tt
each_front P (x ∷ xs) ys of_both = (of_both.0, each_front P xs ys of_both.1)

pub each_behind : {A : Type 0} (P : A → Type 0) (xs ys : List A) → Each P (xs ++ ys) → Each P ys
each_behind P [] ys of_both = of_both
each_behind P (x ∷ xs) ys of_both = each_behind P xs ys of_both.1
