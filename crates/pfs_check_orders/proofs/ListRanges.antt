-- Parts of a list that grows at its end, and what is found by a number.
use Rattle.std.proofs.Common.{◌≡◌, refl, ℕ, zero, suc, ◌+◌, ◌-◌, ◌<◌, ◌≤◌, List, [], ◌∷◌, ◌++◌, drop, length, min, slice_index_or, take, sym, ◌∙◌, ap, subst, arith, Option, Some, inl, inr}
use Rattle.std.specs.Prelude.{slice_get, ◌⊎◌}
use Rattle.std.proofs.lemmas.List.{drop_at, length-append, take_all}
use Rattle.std.proofs.lemmas.Option.{same_Some}
use Rattle.pfs_admin.specs.AdministrationStates.{State}
use Rattle.pfs_admin.specs.Fold.{state_of}
use Rattle.pfs_admin.specs.declared.changes.Change.{Change}
use Rattle.pfs_board.specs.declared.view.Label.{Label}
use Rattle.pfs_classes.specs.declared.setting.Setting.{Setting}
use Rattle.pfs_runs.specs.Labels.{before_action, label_at}

-- what stands behind a front, to the end
pub range_behind : {A : Type 0} (front back all : List A) (start end : ℕ) → all ≡ front ++ back → length front ≡ start → end ≡ length all
    → take (end - start) (drop start all) ≡ back
range_behind front back all start end e s f =
    ap (λ z. take (end - start) (drop start z)) e
    ∙ ap (take (end - start)) (drop_at front back start s)
    ∙ take_all (end - start) back (omega (arith, s, f, ap length e, length-append front back))

pub take_short : {A : Type 0} (xs ys : List A) (n : ℕ) → n ≤ length xs → take n (xs ++ ys) ≡ take n xs
take_short xs ys zero h = refl
take_short [] ys (suc n) h = absurd (omega (arith, h))
take_short (x ∷ xs) ys (suc n) h = ap (λ z. x ∷ z) (take_short xs ys n (omega (arith, h)))

drop_short : {A : Type 0} (xs ys : List A) (n : ℕ) → n ≤ length xs → drop n (xs ++ ys) ≡ drop n xs ++ ys
drop_short xs ys zero h = refl
drop_short [] ys (suc n) h = absurd (omega (arith, h))
drop_short (x ∷ xs) ys (suc n) h = drop_short xs ys n (omega (arith, h))

left : {A : Type 0} (xs : List A) (n m : ℕ) → n ≤ m → m ≤ length xs → m - n ≤ length (drop n xs)
left xs zero m h k = omega (arith, k)
left [] (suc n) m h k = absurd (omega (arith, h, k))
left (x ∷ xs) (suc n) zero h k = absurd (omega (arith, h))
left (x ∷ xs) (suc n) (suc m) h k = subst (λ z. z ≤ length (drop n xs)) (omega arith) (left xs n m (omega (arith, h)) (omega (arith, k)))

below_or : (a b : ℕ) → (a ≤ b) ⊎ (b ≤ a)
below_or zero b = inl (omega arith)
below_or (suc a) zero = inr (omega arith)
below_or (suc a) (suc b) = up (below_or a b) where
  up : (a ≤ b) ⊎ (b ≤ a) → (suc a ≤ suc b) ⊎ (suc b ≤ suc a)
  up (inl h) = inl (omega (arith, h))
  up (inr h) = inr (omega (arith, h))

pub none_left : {A : Type 0} (xs : List A) (place end : ℕ) → end ≤ place → take (end - place) (drop place xs) ≡ []
none_left xs place end h = ap (λ z. take z (drop place xs)) none where
  none : end - place ≡ 0
  none = omega (arith, h)

-- what is put behind a part changes nothing of it
pub range_stays : {A : Type 0} (xs more : List A) (start end : ℕ) → end ≤ length xs
    → take (end - start) (drop start (xs ++ more)) ≡ take (end - start) (drop start xs)
range_stays xs more start end h = on (below_or start end) where
  on : (start ≤ end) ⊎ (end ≤ start) → take (end - start) (drop start (xs ++ more)) ≡ take (end - start) (drop start xs)
  on (inl low) =
      ap (take (end - start)) (drop_short xs more start (omega (arith, low, h)))
      ∙ take_short (drop start xs) more (end - start) (left xs start end low h)
  on (inr high) = none_left (xs ++ more) start end high ∙ sym (none_left xs start end high)

first_left : {A : Type 0} (xs : List A) (place : ℕ) (x : A) → slice_get xs place ≡ Some x → drop place xs ≡ x ∷ drop (suc place) xs
first_left [] place x e = absurd (cc)
first_left (y ∷ xs) zero x e = ap (λ z. z ∷ xs) (same_Some y x e)
first_left (y ∷ xs) (suc place) x e = first_left xs place x e

-- a part by its first element
pub range_first : {A : Type 0} (xs : List A) (place end : ℕ) (x : A) → place < end → slice_get xs place ≡ Some x
    → take (end - place) (drop place xs) ≡ x ∷ take (end - (place + 1)) (drop (place + 1) xs)
range_first xs place end x less e =
    ap (λ z. take z (drop place xs)) more ∙ ap (take (suc (end - (place + 1)))) (first_left xs place x e)
    ∙ ap (λ z. x ∷ take (end - (place + 1)) (drop z xs)) next where
      more : end - place ≡ suc (end - (place + 1))
      more = omega (arith, less)

      next : suc place ≡ place + 1
      next = omega arith

-- an element before an end that is within
pub get_within : {A : Type 0} (xs : List A) (none : A) (place end limit : ℕ) → place < end → end ≡ min limit (length xs)
    → slice_get xs place ≡ Some (slice_index_or xs place none)
get_within {A} xs none place end limit h e = at xs place (omega (arith, h, e)) where
  at : (ys : List A) (n : ℕ) → n < length ys → slice_get ys n ≡ Some (slice_index_or ys n none)
  at [] n l = absurd (omega (arith, l))
  at (y ∷ ys) zero l = refl
  at (y ∷ ys) (suc n) l = at ys n (omega (arith, l))

pub end_within : (end count : ℕ) → end ≤ count → min end count ≡ end
end_within end count h = omega (arith, h)

-- of the elements of a list with one more behind it: it is one of those before, or the last
pub last_or : {A : Type 0} (xs : List A) (x y : A) (at : ℕ) → slice_get (xs ++ x ∷ []) at ≡ Some y
    → (slice_get xs at ≡ Some y) ⊎ ((at ≡ length xs) × (x ≡ y))
last_or [] x y zero e = inr (refl, same_Some x y e)
last_or [] x y (suc zero) e = absurd (cc)
last_or [] x y (suc (suc at)) e = absurd (cc)
last_or (z ∷ xs) x y zero e = inl e
last_or (z ∷ xs) x y (suc at) e = up (last_or xs x y at e) where
  up : (slice_get xs at ≡ Some y) ⊎ ((at ≡ length xs) × (x ≡ y)) → (slice_get (z ∷ xs) (suc at) ≡ Some y) ⊎ ((suc at ≡ length (z ∷ xs)) × (x ≡ y))
  up (inl e) = inl e
  up (inr both) = inr (ap suc both.0, both.1)

pub there : {A B : Type 0} (xs : List A) (ys : List B) (at : ℕ) (y : B) → length ys ≡ length xs → slice_get ys at ≡ Some y → (x : A) × (slice_get xs at ≡ Some x)
there [] (y ∷ ys) at z h e = absurd (omega (arith, h))
there [] [] zero z h e = absurd (cc)
there [] [] (suc at) z h e = absurd (cc)
there (x ∷ xs) [] at z h e = absurd (omega (arith, h))
there (x ∷ xs) (y ∷ ys) zero z h e = (x, refl)
there (x ∷ xs) (y ∷ ys) (suc at) z h e = there xs ys at z (omega (arith, h)) e

-- of the action of a number: what is found of it
pub at_number : {A : Type 0} (give : State → Label → A) (none : A) (of : State → Option Label → A)
    → ((s : State) (label : Label) → of s (Some label) ≡ give s label)
    → (setting : Setting) (change : Label → Change) (labels : List Label) (before : ℕ) (label : Label) → slice_get labels before ≡ Some label
    → of (before_action setting change labels (before + 1)) (label_at labels (before + 1)) ≡ give (state_of setting change (take before labels)) label
at_number give none of some setting change labels before label l =
    let next : before + 1 ≡ suc before = omega arith in
    let last : suc before - 1 ≡ before = omega arith in
    ap (λ n. of (before_action setting change labels n) (label_at labels n)) next
    ∙ ap (λ z. of (before_action setting change labels (suc before)) z) l
    ∙ some (before_action setting change labels (suc before)) label
    ∙ ap (λ n. give (state_of setting change (take n labels)) label) last
