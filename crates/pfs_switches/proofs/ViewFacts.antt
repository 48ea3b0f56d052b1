-- Lists of versions.
use Rattle.std.proofs.Common.{◌≡◌, ◌≢◌, ℕ, subst, zero, suc, ◌<◌, ◌≤◌, List, [], ◌∷◌, length, get_or, set, replicate, sym, refl, ap, ◌∙◌, arith, get_or-set_other, get_or-set_same}
use mathlib.Core.Logic.{dite}
use native.Mathlib.Decide.{ℕ_discrete}
use mathlib.Core.Option.{some, some-injective, some-ne-none}
use lib.ListN.{get_elem?}
use Rattle.pfs_switches.specs.Knowledge.{merged}

pub at_below : {A : Type 0} (xs : List A) (i : ℕ) (v : A) → get_elem? xs i ≡ some v → i < length xs
at_below [] i v e = absurd (some-ne-none v (sym e))
at_below (x ∷ xs) zero v e = omega arith
at_below (x ∷ xs) (suc i) v e = let h = at_below xs i v e in omega arith

pub length_merged : (cs ds : List ℕ) → length (merged cs ds) ≡ length cs
length_merged [] ds = refl
length_merged (c ∷ cs) [] = let e = length_merged cs [] in omega arith
length_merged (c ∷ cs) (d ∷ ds) = let e = length_merged cs ds in omega arith

pub merged_left : (cs ds : List ℕ) (r : ℕ) → get_or cs r 0 ≤ get_or (merged cs ds) r 0
merged_left [] ds r = omega arith
merged_left (c ∷ cs) [] zero = omega arith
merged_left (c ∷ cs) [] (suc r) = merged_left cs [] r
merged_left (c ∷ cs) (d ∷ ds) zero = omega arith
merged_left (c ∷ cs) (d ∷ ds) (suc r) = merged_left cs ds r

pub merged_right : (cs ds : List ℕ) (r : ℕ) → length ds ≤ length cs → get_or ds r 0 ≤ get_or (merged cs ds) r 0
merged_right cs [] r h = omega arith
merged_right [] (d ∷ ds) r h = absurd (omega arith)
merged_right (c ∷ cs) (d ∷ ds) zero h = omega arith
merged_right (c ∷ cs) (d ∷ ds) (suc r) h = merged_right cs ds r (omega arith)

pub merged_below : (cs ds : List ℕ) (r n : ℕ) → get_or cs r 0 ≤ n → get_or ds r 0 ≤ n → get_or (merged cs ds) r 0 ≤ n
merged_below [] ds r n a b = omega arith
merged_below (c ∷ cs) [] zero n a b = a
merged_below (c ∷ cs) [] (suc r) n a b = merged_below cs [] r n a (omega arith)
merged_below (c ∷ cs) (d ∷ ds) zero n a b = omega arith
merged_below (c ∷ cs) (d ∷ ds) (suc r) n a b = merged_below cs ds r n a b

pub length_zeros : (n : ℕ) → length (replicate n (let z : ℕ = 0 in z)) ≡ n
length_zeros zero = refl
length_zeros (suc n) = let e = length_zeros n in omega arith

pub zeros_at : (n r : ℕ) → get_or (replicate n (let z : ℕ = 0 in z)) r 0 ≡ 0
zeros_at zero r = refl
zeros_at (suc n) zero = refl
zeros_at (suc n) (suc r) = zeros_at n r

pub beyond : (xs : List ℕ) (r : ℕ) → length xs ≤ r → get_or xs r 0 ≡ 0
beyond [] r h = refl
beyond (x ∷ xs) zero h = absurd (omega arith)
beyond (x ∷ xs) (suc r) h = beyond xs r (omega arith)

-- a fact of each version, after one was changed
pub seen_set : (P : ℕ → ℕ → Type 0) (xs : List ℕ) (q k : ℕ) → q < length xs → P q k → ((r : ℕ) → r ≢ q → P r (get_or xs r 0)) → (r : ℕ) → P r (get_or (set xs q k) r 0)
seen_set P xs q k inside here there r = dite (ℕ_discrete r q)
    (λ e. subst (P r) (sym (ap (λ z. get_or (set xs q k) z 0) e ∙ get_or-set_same xs q k 0 inside)) (subst (λ z. P z k) (sym e) here))
    (λ n. subst (P r) (sym (get_or-set_other xs q r k 0 n)) (there r n))

-- a version that is raised
pub raised : (xs : List ℕ) (q k : ℕ) → get_or xs q 0 ≤ k → (r : ℕ) → get_or xs r 0 ≤ get_or (set xs q k) r 0
raised [] q k h r = omega arith
raised (x ∷ xs) zero k h zero = h
raised (x ∷ xs) zero k h (suc r) = omega arith
raised (x ∷ xs) (suc q) k h zero = omega arith
raised (x ∷ xs) (suc q) k h (suc r) = raised xs q k h r
