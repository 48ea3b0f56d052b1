-- How often a test holds in a list, by its members.
use Rattle.std.proofs.Common.{◌≡◌, refl, ℕ, ◌+◌, ◌<◌, ◌≤◌, inl, inr, ◌==◌, Bool, true, false, cond, List, [], ◌∷◌, ◌++◌, sym, ◌∙◌, ap, subst, arith}
use Rattle.std.specs.Prelude.{filter}
use Rattle.std.proofs.lemmas.Bool.Decides.{nat_tests}
use Rattle.pfs_model.specs.Actions.{IsAmong}
use Rattle.pfs_model.specs.Chains.{Each, times}

pub same_is : (a b : ℕ) → (a == b) ≡ true → a ≡ b
same_is a b e = grind (arith, nat_tests)

pub same_test : (a b : ℕ) → a ≡ b → (a == b) ≡ true
same_test a b e = grind (arith, nat_tests)

pub self_is : (a : ℕ) → (a == a) ≡ true
self_is a = grind (arith, nat_tests)

pub one_bit : (b : Bool) → cond {A = ℕ} b 1 0 ≤ 1
one_bit true = omega arith
one_bit false = omega arith

-- one of a list stands in a longer one
pub among_right : {A : Type 0} (x : A) (xs ys : List A) → IsAmong x ys → IsAmong x (xs ++ ys)
among_right x [] ys i = i
among_right x (y ∷ xs) ys i = inr (among_right x xs ys i)

pub among_left : {A : Type 0} (x : A) (xs ys : List A) → IsAmong x xs → IsAmong x (xs ++ ys)
among_left x [] ys i = absurd i
among_left x (y ∷ xs) ys (inl e) = inl e
among_left x (y ∷ xs) ys (inr i) = inr (among_left x xs ys i)

pub each_among : {A : Type 0} (fact : A → Type 0) (xs : List A) → ((x : A) → IsAmong x xs → fact x) → Each fact xs
each_among fact [] f = tt
each_among fact (x ∷ xs) f = (f x (inl refl), each_among fact xs (λ y i. f y (inr i)))

pub each_at : {A : Type 0} (fact : A → Type 0) (x : A) (xs : List A) → Each fact xs → IsAmong x xs → fact x
each_at fact x [] h i = absurd i
each_at fact x (y ∷ xs) h (inl e) = subst fact e h.0
each_at fact x (y ∷ xs) h (inr i) = each_at fact x xs h.1 i

-- one that passes is counted
pub some_times : {A : Type 0} (test : A → Bool) (x : A) (xs : List A) → IsAmong x xs → test x ≡ true → 0 < times test xs
some_times test x [] i e = absurd i
some_times test x (y ∷ xs) (inl s) e = rw (ap test s ∙ e) (omega arith)
some_times test x (y ∷ xs) (inr i) e = let more : 0 < times test xs = some_times test x xs i e in omega (arith, more)

-- and stays where a filter keeps it
pub filtered : {A : Type 0} (test : A → Bool) (x : A) (xs : List A) → IsAmong x xs → test x ≡ true → IsAmong x (filter test xs)
filtered test x [] i e = absurd i
filtered {A} test x (y ∷ xs) i e = at (test y) refl i (filtered test x xs) where
  at : (b : Bool) → test y ≡ b → IsAmong x (y ∷ xs) → (IsAmong x xs → test x ≡ true → IsAmong x (filter test xs))
      → IsAmong x (cond b (y ∷ filter test xs) (filter test xs))
  at true q (inl s) go = inl s
  at true q (inr j) go = inr (go j e)
  at false q (inl s) go = absurd (no (sym q ∙ ap test s ∙ e)) where
    no : false ≡ true → ⊥
    no f = cc
  at false q (inr j) go = go j e

-- tests that agree on the members hold as often
pub times_same : {A : Type 0} (one other : A → Bool) (xs : List A) → ((x : A) → IsAmong x xs → one x ≡ other x)
    → times one xs ≡ times other xs
times_same one other [] h = refl
times_same one other (x ∷ xs) h =
    ap (λ z. cond z 1 0 + times one xs) (h x (inl refl))
    ∙ ap (λ z. cond (other x) 1 0 + z) (times_same one other xs (λ y i. h y (inr i)))

-- where a test holds once at most, two that pass are one
pub once_same : {A : Type 0} (test : A → Bool) (x y : A) (xs : List A) → times test xs ≤ 1 → IsAmong x xs → IsAmong y xs
    → test x ≡ true → test y ≡ true → x ≡ y
once_same test x y [] most i j e f = absurd i
once_same test x y (z ∷ xs) most (inl s) (inl t) e f = sym s ∙ t
once_same test x y (z ∷ xs) most (inl s) (inr j) e f =
    let here : cond {A = ℕ} (test z) 1 0 ≡ 1 = rw (ap test s ∙ e) refl in
    let more : 0 < times test xs = some_times test y xs j f in absurd (omega (arith, most, here, more))
once_same test x y (z ∷ xs) most (inr i) (inl t) e f =
    let here : cond {A = ℕ} (test z) 1 0 ≡ 1 = rw (ap test t ∙ f) refl in
    let more : 0 < times test xs = some_times test x xs i e in absurd (omega (arith, most, here, more))
once_same test x y (z ∷ xs) most (inr i) (inr j) e f = once_same test x y xs (omega (arith, most)) i j e f
