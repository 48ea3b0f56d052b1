-- Two lists whose elements go together, compared from the first on.
use Rattle.std.proofs.Common.{◌≡◌, refl, ℕ, zero, suc, ◌+◌, ◌<◌, ◌≤◌, Bool, true, false, List, [], ◌∷◌, get_or, length, take, sym, subst, arith, add-one, Some, None}
use Rattle.std.specs.Prelude.{slice_get}
use Rattle.std.specs.List.{AllZip}
use Rattle.std.proofs.lemmas.List.{take_all}
use Rattle.std.proofs.lemmas.Option.{same_Some, slice_get-get_or}
use Rattle.pfs_event.specs.declared.entry.Entry.{Entry}
use Rattle.pfs_check_contents.specs.declared.shelf.Shelf.{Shelf}
use Rattle.pfs_check_walk.specs.NumberTests.{Tells}
use Rattle.pfs_check_moves.specs.DueMoves.{AreAsDue, IsAsDue, IsDueAt, IsFirstMiss}

pub tells_true : (fact : Type 0) (b : Bool) → Tells fact b → b ≡ true → fact
tells_true fact true t e = t
tells_true fact false t e = absurd (cc)

pub tells_false : (fact : Type 0) (b : Bool) → Tells fact b → b ≡ false → fact → ⊥
tells_false fact true t e = absurd (cc)
tells_false fact false t e = t

module _ {A B : Type 0} (R : A → B → Type 0) where
  zip_more : (xs : List A) (ys : List B) (n : ℕ) (x : A) (y : B) → AllZip R (take n xs) (take n ys) → slice_get xs n ≡ Some x → slice_get ys n ≡ Some y
      → R x y → AllZip R (take (suc n) xs) (take (suc n) ys)
  zip_more [] ys n x y z g h r = absurd (cc)
  zip_more (u ∷ xs) [] n x y z g h r = absurd (cc)
  zip_more (u ∷ xs) (v ∷ ys) zero x y z g h r = (subst (λ w. R w v) (sym (same_Some u x g)) (subst (R x) (sym (same_Some v y h)) r), tt)
  zip_more (u ∷ xs) (v ∷ ys) (suc n) x y z g h r = (z.0, zip_more xs ys n x y z.1 g h r)

  zip_last : (xs : List A) (ys : List B) (n : ℕ) (y : B) → AllZip R (take (suc n) xs) (take (suc n) ys) → slice_get ys n ≡ Some y
      → (x : A) × (slice_get xs n ≡ Some x) × R x y
  zip_last xs [] n y z g = absurd (cc)
  zip_last [] (v ∷ ys) n y z g = absurd z
  zip_last (u ∷ xs) (v ∷ ys) zero y z g = (u, refl, subst (R u) (same_Some v y g) z.0)
  zip_last (u ∷ xs) (v ∷ ys) (suc n) y z g = zip_last xs ys n y z.1 g

  pub zip_shorter : (xs : List A) (ys : List B) (m n : ℕ) → m ≤ n → AllZip R (take n xs) (take n ys) → AllZip R (take m xs) (take m ys)
  zip_shorter xs ys zero n l z = tt
  zip_shorter xs ys (suc m) zero l z = absurd (omega (arith, l))
  zip_shorter [] [] (suc m) (suc n) l z = tt
  zip_shorter [] (v ∷ ys) (suc m) (suc n) l z = absurd z
  zip_shorter (u ∷ xs) [] (suc m) (suc n) l z = absurd z
  zip_shorter (u ∷ xs) (v ∷ ys) (suc m) (suc n) l z = (z.0, zip_shorter xs ys m n (omega (arith, l)) z.1)

  zip_long : (xs : List A) (ys : List B) → length ys < length xs → AllZip R (take (suc (length ys)) xs) (take (suc (length ys)) ys) → ⊥
  zip_long [] ys l z = omega (arith, l)
  zip_long (u ∷ xs) [] l z = z
  zip_long (u ∷ xs) (v ∷ ys) l z = zip_long xs ys (omega (arith, l)) z.1

module _ (shelf : Shelf) (counted : ℕ → Bool) (due printed : List Entry) where
  pub one_due : (at : ℕ) (fill : Entry) (b : Bool) → at < length printed → Tells (IsDueAt shelf counted due at (get_or printed at fill)) b → b ≡ true
      → AreAsDue shelf counted at due printed → AreAsDue shelf counted (at + 1) due printed
  one_due at fill b high tells e so =
      let is : IsDueAt shelf counted due at (get_or printed at fill) = tells_true (IsDueAt shelf counted due at (get_or printed at fill)) b tells e in
      subst (λ n. AreAsDue shelf counted n due printed) (sym (add-one at))
      (zip_more (IsAsDue shelf counted) due printed at is.0 (get_or printed at fill) so is.1 (slice_get-get_or printed at fill high) is.2)

  pub one_missed : (at : ℕ) (fill : Entry) (b : Bool) → at < length printed → Tells (IsDueAt shelf counted due at (get_or printed at fill)) b → b ≡ false
      → AreAsDue shelf counted at due printed → IsFirstMiss shelf counted due printed (Some at)
  one_missed at fill b high tells e so = record {
    within = omega (arith, high);
    before = so;
    wrong = λ z. tells_false (IsDueAt shelf counted due at (get_or printed at fill)) b tells e
        (zip_last (IsAsDue shelf counted) due printed at (get_or printed at fill)
        (subst (λ n. AreAsDue shelf counted n due printed) (add-one at) z) (slice_get-get_or printed at fill high));
  }

  pub printed_ends : (at : ℕ) → length printed ≤ at → length printed < length due → AreAsDue shelf counted at due printed
      → IsFirstMiss shelf counted due printed (Some (length printed))
  printed_ends at over more so = record {
    within = omega arith;
    before = zip_shorter (IsAsDue shelf counted) due printed (length printed) at over so;
    wrong = λ z. zip_long (IsAsDue shelf counted) due printed more
        (subst (λ n. AreAsDue shelf counted n due printed) (add-one (length printed)) z);
  }

  pub all_due : (at : ℕ) → length printed ≤ at → length due ≤ length printed → AreAsDue shelf counted at due printed
      → IsFirstMiss shelf counted due printed None
  all_due at over few so =
      subst (λ z. AllZip (IsAsDue shelf counted) z printed) (take_all at due (omega (arith, over, few)))
      (subst (AllZip (IsAsDue shelf counted) (take at due)) (take_all at printed over) so)
