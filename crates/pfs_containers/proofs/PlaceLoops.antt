-- Lists of places that a loop changes one by one: the places that no session has are freed, and totals are counted anew.
use Rattle.std.proofs.Common.{ℕ, zero, suc, ◌≡◌, ◌<◌, ◌+◌, ◌||◌, nat_lt, Bool, true, false, cond, List, [], ◌∷◌, length, Option, slice_index_or, slice_set, refl, ap, ◌∙◌, arith}
use Rattle.pfs_containers.specs.declared.containers.Connection.{Connection}
use Rattle.pfs_containers.specs.Connections.{has_by, in_use, kept_if, kept_from}
use Rattle.pfs_containers.specs.Administration.{current, totals_kept_from, currents_from}

-- a place is in use where a session has it
used_more : (b : Bool) (n : ℕ) (u : Bool) → nat_lt 0 n ≡ u → nat_lt 0 (cond b 1 0 + n) ≡ (b || u)
used_more true n u h = grind arith
used_more false n u h = let same : 0 + n ≡ n = omega arith in ap (λ z. nat_lt 0 z) same ∙ h

pub used_is : (which : Connection → Option ℕ) (threads : List (Option Connection)) (place : ℕ)
    → nat_lt 0 (current which threads place) ≡ in_use which threads place
used_is which [] place = refl
used_is which (x ∷ xs) place = used_more (has_by which place x) (current which xs place) (in_use which xs place) (used_is which xs place)

-- the first entries changed, each by its place, and the others as they were
pub changed : {X : Type 0} → (ℕ → X → X) → ℕ → ℕ → List X → List X
changed f n zero xs = xs
changed f n (suc i) [] = []
changed f n (suc i) (x ∷ xs) = f n x ∷ changed f (suc n) i xs

changed_suc : {X : Type 0} (f : ℕ → X → X) (n i : ℕ) (xs : List X) (d : X) → i < length xs
    → slice_set (changed f n i xs) i (f (n + i) (slice_index_or (changed f n i xs) i d)) ≡ changed f n (suc i) xs
unfolding changed
changed_suc f n i [] d l = absurd (omega (arith, l))
changed_suc f n zero (x ∷ xs) d l = let same : n + 0 ≡ n = omega arith in ap (λ z. f z x ∷ xs) same
changed_suc f n (suc i) (x ∷ xs) d l =
    let same : n + suc i ≡ suc n + i = omega arith in
    ap (λ z. f n x ∷ slice_set (changed f (suc n) i xs) i (f z (slice_index_or (changed f (suc n) i xs) i d))) same
    ∙ ap (λ z. f n x ∷ z) (changed_suc f (suc n) i xs d (omega (arith, l)))

-- one entry more
changed_one : {X : Type 0} (f : ℕ → X → X) (i : ℕ) (xs : List X) (d : X) → i < length xs
    → slice_set (changed f 0 i xs) i (f i (slice_index_or (changed f 0 i xs) i d)) ≡ changed f 0 (i + 1) xs
changed_one f i xs d l =
    let next : suc i ≡ i + 1 = omega arith in
    let same : i ≡ 0 + i = omega arith in
    ap (λ z. slice_set (changed f 0 i xs) i (f z (slice_index_or (changed f 0 i xs) i d))) same
    ∙ (changed_suc f 0 i xs d l ∙ ap (λ z. changed f 0 z xs) next)

pub step_is : {X : Type 0} (f : ℕ → X → X) (i : ℕ) (xs now : List X) (d v : X) → now ≡ changed f 0 i xs → v ≡ f i (slice_index_or now i d) → i < length xs
    → slice_set now i v ≡ changed f 0 (i + 1) xs
step_is f i xs now d v same value l =
    ap (λ z. slice_set now i z) value ∙ (ap (λ z. slice_set z i (f i (slice_index_or z i d))) same ∙ changed_one f i xs d l)

-- all of them
pub end_is : {X : Type 0} (f : ℕ → X → X) (i : ℕ) (xs now want : List X) → now ≡ changed f 0 i xs → i ≡ length xs → changed f 0 (length xs) xs ≡ want → now ≡ want
end_is f i xs now want same done all = same ∙ (ap (λ z. changed f 0 z xs) done ∙ all)

pub changed_none : {X : Type 0} (f : ℕ → X → X) (xs : List X) → xs ≡ changed f 0 0 xs
unfolding changed
changed_none f xs = refl

pub all_kept : {X : Type 0} (used : ℕ → Bool) (n : ℕ) (xs : List (Option X)) → changed (λ k x. kept_if (used k) x) n (length xs) xs ≡ kept_from n used xs
unfolding changed
all_kept used n [] = refl
all_kept used n (x ∷ xs) = ap (λ z. kept_if (used n) x ∷ z) (all_kept used (suc n) xs)

pub all_totals_kept : (used : ℕ → Bool) (n : ℕ) (xs : List ℕ) → changed (λ k x. cond (used k) x 0) n (length xs) xs ≡ totals_kept_from n used xs
unfolding changed
all_totals_kept used n [] = refl
all_totals_kept used n (x ∷ xs) = ap (λ z. cond (used n) x 0 ∷ z) (all_totals_kept used (suc n) xs)

pub all_current : (counts : ℕ → ℕ) (n : ℕ) (xs : List ℕ) → changed (λ k x. counts k) n (length xs) xs ≡ currents_from n counts xs
unfolding changed
all_current counts n [] = refl
all_current counts n (x ∷ xs) = ap (λ z. counts n ∷ z) (all_current counts (suc n) xs)
