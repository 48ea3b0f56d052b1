-- Two lists compared from the first on.
use Rattle.std.proofs.Common.{◌≡◌, refl, ℕ, zero, suc, ◌+◌, ◌<◌, ◌≤◌, Bool, true, false, List, [], ◌∷◌, ◌++◌, get_or, length, map, take, sym, ◌∙◌, ap, subst, arith, Option, Some, None}
use Rattle.std.specs.Prelude.{slice_get}
use Rattle.std.proofs.lemmas.List.{take_all, take_more}
use Rattle.std.proofs.lemmas.Option.{get_or_from_slice_get, slice_get_within}
use Rattle.pfs_model.specs.Actions.{Setting}
use Rattle.pfs_check_faults.specs.ReportCases.{AlikeUpTo}
use Rattle.pfs_check_walk.specs.NumberTests.{Tells}
use Rattle.pfs_check_setup.specs.DueSets.{Differs, IsFirstDifference}
use Rattle.pfs_check_setup.specs.PrintedActions.{setting_by}
use Rattle.pfs_check_setup.specs.declared.sets.WordSet.{WordSet}

-- so many are the same
pub record AlikeSoFar {A : Type 0} (due printed : List A) (at : ℕ) : Type 0 where
  pub same : take at due ≡ take at printed
  pub within : at ≤ length due

pub none_yet : {A : Type 0} (due printed : List A) → AlikeSoFar due printed 0
none_yet due printed = record { same = refl; within = omega arith }

shorter : {A : Type 0} (due printed : List A) (less more : ℕ) → less ≤ more → take more due ≡ take more printed → take less due ≡ take less printed
shorter due printed zero more h e = refl
shorter [] [] (suc less) more h e = refl
shorter [] (y ∷ ys) (suc less) zero h e = absurd (omega (arith, h))
shorter [] (y ∷ ys) (suc less) (suc more) h e = absurd (cc)
shorter (x ∷ xs) [] (suc less) zero h e = absurd (omega (arith, h))
shorter (x ∷ xs) [] (suc less) (suc more) h e = absurd (cc)
shorter (x ∷ xs) (y ∷ ys) (suc less) zero h e = absurd (omega (arith, h))
shorter (x ∷ xs) (y ∷ ys) (suc less) (suc more) h e = both (first_same x y e) (shorter xs ys less more (omega (arith, h)) (rest_same x y e)) where
  first_same : (x y : _) → x ∷ take more xs ≡ y ∷ take more ys → x ≡ y
  first_same x y e = cc

  rest_same : (x y : _) → x ∷ take more xs ≡ y ∷ take more ys → take more xs ≡ take more ys
  rest_same x y e = cc

  both : x ≡ y → take less xs ≡ take less ys → x ∷ take less xs ≡ y ∷ take less ys
  both e f = ap (λ z. z ∷ take less xs) e ∙ ap (λ z. y ∷ z) f

before_all : {A : Type 0} (due printed : List A) (at other : ℕ) → take at due ≡ take at printed → other < at → AlikeUpTo due printed other
before_all due printed at other e less = shorter due printed (other + 1) at (omega (arith, less)) e

-- one more that is the same
pub alike_more : {A : Type 0} (due printed : List A) (at : ℕ) (fill : A) → at < length printed → slice_get due at ≡ Some (get_or printed at fill)
    → AlikeSoFar due printed at → AlikeSoFar due printed (at + 1)
alike_more due printed at fill high e so =
    let low : at < length due = slice_get_within due at (get_or printed at fill) e in
    record {
      same =
          take_more due at fill low ∙ ap (λ z. z ++ get_or due at fill ∷ []) so.same
          ∙ ap (λ z. take at printed ++ z ∷ []) (get_or_from_slice_get due at (get_or printed at fill) fill e) ∙ sym (take_more printed at fill high);
      within = omega (arith, low);
    }

length_take : {A : Type 0} (n : ℕ) (xs : List A) → n ≤ length xs → length (take n xs) ≡ n
length_take zero xs h = refl
length_take (suc n) [] h = absurd (omega (arith, h))
length_take (suc n) (x ∷ xs) h = ap suc (length_take n xs (omega (arith, h)))

few_take : {A : Type 0} (n : ℕ) (xs : List A) → length (take n xs) ≤ length xs
few_take zero xs = omega arith
few_take (suc n) [] = omega arith
few_take (suc n) (x ∷ xs) = let rest : length (take n xs) ≤ length xs = few_take n xs in omega (arith, rest)

-- one that isn't due there
pub other_there : {A : Type 0} (due printed : List A) (at : ℕ) (fill : A) → at < length printed
    → (slice_get due at ≡ Some (get_or printed at fill) → ⊥) → AlikeSoFar due printed at → Differs due printed at
other_there {A} due printed at fill high differs so = record {
  within = omega (arith, high);
  wrong = λ e. differs (same_last due printed at high (subst (λ z. take z due ≡ take z printed) next e));
  before = λ other less. before_all due printed at other so.same less;
} where
  next : at + 1 ≡ suc at
  next = omega arith

  same_last : (xs ys : List A) (n : ℕ) → n < length ys → take (suc n) xs ≡ take (suc n) ys → slice_get xs n ≡ Some (get_or ys n fill)
  same_last xs [] n h e = absurd (omega (arith, h))
  same_last [] (y ∷ ys) n h e = absurd (cc)
  same_last (x ∷ xs) (y ∷ ys) zero h e = ap Some (first e) where
    first : x ∷ [] ≡ y ∷ [] → x ≡ y
    first e = cc
  same_last (x ∷ xs) (y ∷ ys) (suc n) h e = same_last xs ys n (omega (arith, h)) (rest e) where
    rest : x ∷ take (suc n) xs ≡ y ∷ take (suc n) ys → take (suc n) xs ≡ take (suc n) ys
    rest e = cc

-- one that is due and missing
pub printed_ends : {A : Type 0} (due printed : List A) (at : ℕ) → length printed ≤ at → length printed < length due
    → AlikeSoFar due printed at → Differs due printed (length printed)
printed_ends due printed at over more so = record {
  within = omega arith;
  wrong = λ e. let one : length (take (length printed + 1) due) ≡ length (take (length printed + 1) printed) = ap length e in
      absurd (omega (arith, one, few_take (length printed + 1) printed, length_take (length printed + 1) due (omega (arith, more))));
  before = λ other less. before_all due printed at other so.same (omega (arith, less, over));
}

-- none
pub all_same : {A : Type 0} (due printed : List A) (at : ℕ) → length printed ≤ at → length due ≤ length printed
    → AlikeSoFar due printed at → due ≡ printed
all_same due printed at over few so =
    sym (take_all at due (omega (arith, over, few))) ∙ so.same ∙ take_all at printed over

-- as the model has them
map_take : {A B : Type 0} (f : A → B) (n : ℕ) (xs : List A) → take n (map f xs) ≡ map f (take n xs)
map_take f zero xs = refl
map_take f (suc n) [] = refl
map_take f (suc n) (x ∷ xs) = ap (λ z. f x ∷ z) (map_take f n xs)

map_length : {A B : Type 0} (f : A → B) (xs : List A) → length (map f xs) ≡ length xs
map_length f [] = refl
map_length f (x ∷ xs) = ap suc (map_length f xs)

set_is : (number : ℕ) (one other : WordSet) → setting_by number one ≡ setting_by number other → one ≡ other
set_is number one other e =
    let word : one.word ≡ other.word = ap (λ (z : Setting). z.word) e in
    let version : one.version ≡ other.version = ap (λ (z : Setting). z.version) e in
    let flags : one.flags ≡ other.flags = ap (λ (z : Setting). z.flags) e in
    let P : ℕ → WordSet = λ z. record { word = z; version = one.version; flags = one.flags } in
    let Q : ℕ → WordSet = λ z. record { word = other.word; version = z; flags = one.flags } in
    let R : ℕ → WordSet = λ z. record { word = other.word; version = other.version; flags = z } in
    ap P word ∙ ap Q version ∙ ap R flags

sets_are : (number : ℕ) (xs ys : List WordSet) → map (setting_by number) xs ≡ map (setting_by number) ys → xs ≡ ys
sets_are number [] [] e = refl
sets_are number [] (y ∷ ys) e = absurd (cc)
sets_are number (x ∷ xs) [] e = absurd (cc)
sets_are number (x ∷ xs) (y ∷ ys) e = ap (λ z. z ∷ xs) (set_is number x y (first e)) ∙ ap (λ z. y ∷ z) (sets_are number xs ys (rest e)) where
  first : setting_by number x ∷ map (setting_by number) xs ≡ setting_by number y ∷ map (setting_by number) ys → setting_by number x ≡ setting_by number y
  first e = cc

  rest : setting_by number x ∷ map (setting_by number) xs ≡ setting_by number y ∷ map (setting_by number) ys
      → map (setting_by number) xs ≡ map (setting_by number) ys
  rest e = cc

pub settings_differ : (number : ℕ) (due printed : List WordSet) (at : Option ℕ) → IsFirstDifference due printed at
    → IsFirstDifference (map (setting_by number) due) (map (setting_by number) printed) at
settings_differ number due printed None e = ap (map (setting_by number)) e
settings_differ number due printed (Some at) d = record {
  within = subst (λ z. at ≤ z) (sym (map_length (setting_by number) printed)) d.within;
  wrong = λ e. d.wrong (sets_are number (take (at + 1) due) (take (at + 1) printed)
      (sym (map_take (setting_by number) (at + 1) due) ∙ e ∙ map_take (setting_by number) (at + 1) printed));
  before = λ other less. map_take (setting_by number) (other + 1) due ∙ ap (map (setting_by number)) (d.before other less)
      ∙ sym (map_take (setting_by number) (other + 1) printed);
}

-- by the set at a place, and by whether it is due there
tells_true : (fact : Type 0) (b : Bool) → Tells fact b → b ≡ true → fact
tells_true fact true t e = t
tells_true fact false t e = absurd (cc)

tells_false : (fact : Type 0) (b : Bool) → Tells fact b → b ≡ false → fact → ⊥
tells_false fact true t e = absurd (cc)
tells_false fact false t e = t

pub set_alike : (due printed : List WordSet) (at : ℕ) (fill : WordSet) (b : Bool) → at < length printed
    → Tells (slice_get due at ≡ Some (get_or printed at fill)) b → b ≡ true → AlikeSoFar due printed at → AlikeSoFar due printed (at + 1)
set_alike due printed at fill b high tells e so =
    alike_more due printed at fill high (tells_true (slice_get due at ≡ Some (get_or printed at fill)) b tells e) so

pub set_differs : (due printed : List WordSet) (at : ℕ) (fill : WordSet) (b : Bool) → at < length printed
    → Tells (slice_get due at ≡ Some (get_or printed at fill)) b → b ≡ false → AlikeSoFar due printed at → Differs due printed at
set_differs due printed at fill b high tells e so =
    other_there due printed at fill high (tells_false (slice_get due at ≡ Some (get_or printed at fill)) b tells e) so
