-- What stands at the places that were picked.
use Rattle.std.proofs.Common.{◌≡◌, refl, ℕ, zero, suc, ◌+◌, ◌<◌, ◌≤◌, Bool, true, false, cond, List, [], ◌∷◌, ◌++◌, length, sym, ◌∙◌, ap, subst, ◌⊎◌, inl, inr, arith, Option, Some, None}
use Rattle.std.specs.Prelude.{slice_get}
use Rattle.std.specs.Option.{option_to_list}
use Rattle.std.specs.List.{AllZip}
use Rattle.std.proofs.lemmas.Option.{slice_get_within}
use Rattle.pfs_model.specs.Actions.{IsAmong}
use Rattle.pfs_check_contents.specs.ChangeReplays.{picked_onto}

module _ {A B : Type 0} (R : A → B → Type 0) where
  zip_at : (xs : List A) (ys : List B) (place : ℕ) → AllZip R xs ys
      → AllZip R (option_to_list (slice_get xs place)) (option_to_list (slice_get ys place))
  zip_at [] [] place z = tt
  zip_at [] (y ∷ ys) place z = absurd z
  zip_at (x ∷ xs) [] place z = absurd z
  zip_at (x ∷ xs) (y ∷ ys) zero z = (z.0, tt)
  zip_at (x ∷ xs) (y ∷ ys) (suc place) z = zip_at xs ys place z.1

  zip_append : (xs : List A) (ys : List B) (us : List A) (vs : List B) → AllZip R xs ys → AllZip R us vs → AllZip R (xs ++ us) (ys ++ vs)
  zip_append [] [] us vs z w = w
  zip_append [] (y ∷ ys) us vs z w = absurd z
  zip_append (x ∷ xs) [] us vs z w = absurd z
  zip_append (x ∷ xs) (y ∷ ys) us vs z w = (z.0, zip_append xs ys us vs z.1 w)

  pub zip_length : (xs : List A) (ys : List B) → AllZip R xs ys → length xs ≡ length ys
  zip_length [] [] z = refl
  zip_length [] (y ∷ ys) z = absurd z
  zip_length (x ∷ xs) [] z = absurd z
  zip_length (x ∷ xs) (y ∷ ys) z = ap suc (zip_length xs ys z.1)

  pub picked_zip : (xs : List A) (ys : List B) (places : List ℕ) (us : List A) (vs : List B) → AllZip R xs ys → AllZip R us vs
      → AllZip R (picked_onto xs places us) (picked_onto ys places vs)
  picked_zip xs ys [] us vs z w = w
  picked_zip xs ys (place ∷ places) us vs z w =
      picked_zip xs ys places (option_to_list (slice_get xs place) ++ us) (option_to_list (slice_get ys place) ++ vs) z
      (zip_append (option_to_list (slice_get xs place)) (option_to_list (slice_get ys place)) us vs (zip_at xs ys place z) w)

module _ {A : Type 0} where
  among_behind : (x : A) (xs ys : List A) → IsAmong x ys → IsAmong x (xs ++ ys)
  among_behind x [] ys i = i
  among_behind x (y ∷ xs) ys i = inr (among_behind x xs ys i)

  among_parts : (x : A) (xs ys : List A) → IsAmong x (xs ++ ys) → IsAmong x xs ⊎ IsAmong x ys
  among_parts x [] ys i = inr i
  among_parts x (y ∷ xs) ys (inl e) = inl (inl e)
  among_parts x (y ∷ xs) ys (inr i) = on (among_parts x xs ys i) where
    on : IsAmong x xs ⊎ IsAmong x ys → IsAmong x (y ∷ xs) ⊎ IsAmong x ys
    on (inl j) = inl (inr j)
    on (inr j) = inr j

  pub at_among : (xs : List A) (place : ℕ) (x : A) → slice_get xs place ≡ Some x → IsAmong x xs
  at_among [] place x e = absurd (cc)
  at_among (y ∷ xs) zero x e = inl (one y e) where
    one : (z : A) → Some z ≡ Some x → z ≡ x
    one z e = cc
  at_among (y ∷ xs) (suc place) x e = inr (at_among xs place x e)

  pub among_at : (xs : List A) (x : A) → IsAmong x xs → (place : ℕ) × (place < length xs) × (slice_get xs place ≡ Some x)
  among_at [] x i = absurd i
  among_at (y ∷ xs) x (inl e) = (zero, omega arith, ap Some e)
  among_at (y ∷ xs) x (inr i) = let h : (place : ℕ) × (place < length xs) × (slice_get xs place ≡ Some x) = among_at xs x i in
      let l : h.0 < length xs = h.1 in
      (suc h.0, omega (arith, l), h.2)

  -- what was there stays
  pub picked_stays : (xs : List A) (places : List ℕ) (done : List A) (x : A) → IsAmong x done → IsAmong x (picked_onto xs places done)
  picked_stays xs [] done x i = i
  picked_stays xs (place ∷ places) done x i = picked_stays xs places _ x (among_behind x (option_to_list (slice_get xs place)) done i)

  -- what stands at a place that was picked is there
  pub picked_there : (xs : List A) (places : List ℕ) (done : List A) (place : ℕ) (x : A) → IsAmong place places → slice_get xs place ≡ Some x
      → IsAmong x (picked_onto xs places done)
  picked_there xs [] done place x i g = absurd i
  picked_there xs (next ∷ places) done place x (inl e) g =
      picked_stays xs places _ x (subst (λ o. IsAmong x (option_to_list o ++ done)) (sym (ap (slice_get xs) e ∙ g)) (inl refl))
  picked_there xs (next ∷ places) done place x (inr i) g = picked_there xs places _ place x i g

  -- and nothing else
  own_at : (xs : List A) (place : ℕ) (x : A) → IsAmong x (option_to_list (slice_get xs place)) → slice_get xs place ≡ Some x
  own_at xs place x i = on (slice_get xs place) i where
    on : (o : Option A) → IsAmong x (option_to_list o) → o ≡ Some x
    on None i = absurd i
    on (Some y) (inl e) = ap Some e
    on (Some y) (inr i) = absurd i

  pub record IsPicked (xs : List A) (places : List ℕ) (x : A) : Type 0 where
    pub place : ℕ
    pub picked : IsAmong place places
    pub there : slice_get xs place ≡ Some x

  pub picked_from : (xs : List A) (places : List ℕ) (done : List A) (x : A) → IsAmong x (picked_onto xs places done)
      → IsPicked xs places x ⊎ IsAmong x done
  picked_from xs [] done x i = inr i
  picked_from xs (place ∷ places) done x i = on (picked_from xs places (option_to_list (slice_get xs place) ++ done) x i) where
    here : IsAmong x (option_to_list (slice_get xs place)) ⊎ IsAmong x done → IsPicked xs (place ∷ places) x ⊎ IsAmong x done
    here (inl j) = inl (record { place = place; picked = inl refl; there = own_at xs place x j })
    here (inr j) = inr j

    on : IsPicked xs places x ⊎ IsAmong x (option_to_list (slice_get xs place) ++ done) → IsPicked xs (place ∷ places) x ⊎ IsAmong x done
    on (inl h) = inl (record { place = h.place; picked = inr h.picked; there = h.there })
    on (inr j) = here (among_parts x (option_to_list (slice_get xs place)) done j)

  -- one place more
  pub picked_more : (xs : List A) (places : List ℕ) (place : ℕ) (done : List A)
      → picked_onto xs (places ++ place ∷ []) done ≡ option_to_list (slice_get xs place) ++ picked_onto xs places done
  picked_more xs [] place done = refl
  picked_more xs (next ∷ places) place done = picked_more xs places place (option_to_list (slice_get xs next) ++ done)
