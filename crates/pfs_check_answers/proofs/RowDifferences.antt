-- Two lists that differ first at a place: how that is found, and what it says of lines behind which they stand.
use Rattle.std.proofs.Common.{◌≡◌, refl, ℕ, zero, suc, ◌+◌, ◌<◌, ◌≤◌, Bool, false, not, List, [], ◌∷◌, ◌++◌, get_or, length, take, sym, ◌∙◌, ap, subst, arith, Option, Some, None}
use Rattle.std.specs.Option.{is_some}
use Rattle.std.proofs.lemmas.Bool.{false≢true}
use Rattle.pfs_check_faults.specs.ReportCases.{AlikeUpTo}
use Rattle.pfs_check_finals.specs.Differences.{AreCompared, DifferAt}

head : {A : Type 0} (x y : A) (xs ys : List A) → x ∷ xs ≡ y ∷ ys → x ≡ y
head x y xs ys e = cc

tail : {A : Type 0} (x y : A) (xs ys : List A) → x ∷ xs ≡ y ∷ ys → xs ≡ ys
tail x y xs ys e = cc

-- alike before a place, and different there
pub differ_here : {A : Type 0} (xs ys : List A) (at : ℕ) (a b : A) → at < length xs → at < length ys → a ≡ get_or xs at a → b ≡ get_or ys at b
    → take at xs ≡ take at ys → (a ≡ b → ⊥) → DifferAt xs ys at
differ_here [] ys at a b low high p q same other = absurd (omega (arith, low))
differ_here (x ∷ xs) [] at a b low high p q same other = absurd (omega (arith, high))
differ_here (x ∷ xs) (y ∷ ys) zero a b low high p q same other = λ e. other (p ∙ e ∙ sym q)
differ_here (x ∷ xs) (y ∷ ys) (suc at) a b low high p q same other =
    (head x y (take at xs) (take at ys) same, differ_here xs ys at a b (omega (arith, low)) (omega (arith, high)) p q (tail x y (take at xs) (take at ys) same) other)

-- alike as far as the shorter one goes
pub differ_end : {A : Type 0} (xs ys : List A) (at : ℕ) → at ≤ length xs → at ≤ length ys → ((at ≡ length xs) → (at ≡ length ys) → ⊥)
    → (at < length xs → at < length ys → ⊥) → take at xs ≡ take at ys → DifferAt xs ys at
differ_end [] [] zero low high apart ended same = apart refl refl
differ_end [] (y ∷ ys) zero low high apart ended same = tt
differ_end (x ∷ xs) [] zero low high apart ended same = tt
differ_end (x ∷ xs) (y ∷ ys) zero low high apart ended same = absurd (ended (omega arith) (omega arith))
differ_end [] ys (suc at) low high apart ended same = absurd (omega (arith, low))
differ_end (x ∷ xs) [] (suc at) low high apart ended same = absurd (omega (arith, high))
differ_end (x ∷ xs) (y ∷ ys) (suc at) low high apart ended same = (
  head x y (take at xs) (take at ys) same,
  differ_end xs ys at (omega (arith, low)) (omega (arith, high)) (λ p q. apart (ap suc p) (ap suc q)) (λ p q. ended (omega (arith, p)) (omega (arith, q)))
      (tail x y (take at xs) (take at ys) same),
)

-- what differs isn't the same
differ_apart : {A : Type 0} (xs : List A) (at : ℕ) → DifferAt xs xs at → ⊥
differ_apart [] at d = d
differ_apart (x ∷ xs) zero d = d refl
differ_apart (x ∷ xs) (suc at) d = differ_apart xs at d.1

pub some_differs : {A : Type 0} (xs ys : List A) (found : Option ℕ) (none : Bool) → AreCompared xs ys found → is_some found ≡ not none → none ≡ false
    → xs ≡ ys → ⊥
some_differs xs ys None none compared is q e = false≢true (is ∙ ap not q)
some_differs xs ys (Some at) none compared is q e = differ_apart xs at (subst (λ z. DifferAt xs z at) (sym e) compared)

-- what differs isn't alike up to there, but up to any place before
pub not_alike : {A : Type 0} (xs ys : List A) (at : ℕ) → DifferAt xs ys at → AlikeUpTo xs ys at → ⊥
not_alike {A} xs ys at differ alike = on xs ys at differ (subst (λ n. take n xs ≡ take n ys) (let e : at + 1 ≡ suc at = omega arith in e) alike) where
  on : (xs ys : List A) (at : ℕ) → DifferAt xs ys at → take (suc at) xs ≡ take (suc at) ys → ⊥
  on [] [] at d e = d
  on [] (y ∷ ys) zero d e = cc
  on [] (y ∷ ys) (suc at) d e = d
  on (x ∷ xs) [] zero d e = cc
  on (x ∷ xs) [] (suc at) d e = d
  on (x ∷ xs) (y ∷ ys) zero d e = d (head x y (take zero xs) (take zero ys) e)
  on (x ∷ xs) (y ∷ ys) (suc at) d e = on xs ys at d.1 (tail x y (take (suc at) xs) (take (suc at) ys) e)

pub alike_before : {A : Type 0} (xs ys : List A) (at other : ℕ) → DifferAt xs ys at → other < at → AlikeUpTo xs ys other
alike_before {A} xs ys at other differ low = subst (λ n. take n xs ≡ take n ys) (let e : suc other ≡ other + 1 = omega arith in e) (on xs ys at other differ low) where
  on : (xs ys : List A) (at other : ℕ) → DifferAt xs ys at → other < at → take (suc other) xs ≡ take (suc other) ys
  on xs ys zero other d low = absurd (omega (arith, low))
  on [] [] (suc at) other d low = absurd d
  on [] (y ∷ ys) (suc at) other d low = absurd d
  on (x ∷ xs) [] (suc at) other d low = absurd d
  on (x ∷ xs) (y ∷ ys) (suc at) zero d low = ap (λ z. z ∷ []) d.0
  on (x ∷ xs) (y ∷ ys) (suc at) (suc other) d low = ap (λ z. z ∷ take (suc other) xs) d.0 ∙ ap (λ z. y ∷ z) (on xs ys at other d.1 (omega (arith, low)))

-- it isn't behind the end of the printed ones
pub differ_within : {A : Type 0} (xs ys : List A) (at : ℕ) → DifferAt xs ys at → at ≤ length ys
differ_within [] [] at d = absurd d
differ_within [] (y ∷ ys) zero d = omega arith
differ_within [] (y ∷ ys) (suc at) d = absurd d
differ_within (x ∷ xs) [] zero d = omega arith
differ_within (x ∷ xs) [] (suc at) d = absurd d
differ_within (x ∷ xs) (y ∷ ys) zero d = omega arith
differ_within (x ∷ xs) (y ∷ ys) (suc at) d = let rest = differ_within xs ys at d.1 in omega (arith, rest)

-- behind the same front
pub differ_behind : {A : Type 0} (front xs ys : List A) (at : ℕ) → DifferAt xs ys at → DifferAt (front ++ xs) (front ++ ys) (length front + at)
differ_behind [] xs ys at d = subst (DifferAt xs ys) (let e : at ≡ 0 + at = omega arith in e) d
differ_behind (z ∷ front) xs ys at d =
    subst (DifferAt (z ∷ (front ++ xs)) (z ∷ (front ++ ys))) (let e : suc (length front + at) ≡ length (z ∷ front) + at = omega arith in e)
    (refl, differ_behind front xs ys at d)
