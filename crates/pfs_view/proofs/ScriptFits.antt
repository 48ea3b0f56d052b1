-- Whether a script is a report's, piece by piece.
use Rattle.std.proofs.Common.{ℕ, ◌≡◌, ◌+◌, ◌<◌, inl, inr, Bool, true, false, List, [], ◌∷◌, length, drop, get_or, sym, ap, ◌∙◌, arith}
use Rattle.std.specs.Prelude.{◌&&◌, nat_le, slice_get, Option}
use Rattle.std.specs.Cmp.Lexicographic.{pointwise}
use Rattle.std.specs.Option.{option_map_or}
use Rattle.std.proofs.lemmas.Bool.Decides.{nat_tests}
use Rattle.std.proofs.lemmas.List.{drop_all}
use Rattle.std.proofs.lemmas.Option.{slice_get_cases}
use Rattle.pfs_classes.specs.declared.setting.Setting.{Setting}
use Rattle.pfs_script.specs.Scripts.{IsFirstFault, IsScript}
use Rattle.pfs_script.specs.declared.blocks.Phase.{Phase}
use Rattle.pfs_script.specs.declared.reasons.Reason.{Reason}
use Rattle.pfs_script.proofs.Exactness.{first_is_found, text_is_found}
use Rattle.pfs_view.specs.Scripts.{phases_in, script_phases}
use Rattle.pfs_view.proofs.TextSteps.{parted}

-- what a script says is what its text says
pub script_told : (text : List ℕ) (setting : Setting) (phases : List Phase) → IsScript text setting phases → phases ≡ script_phases text
unfolding IsScript
script_told text setting phases given = given.3 ∙ ap phases_in (sym (text_is_found text given.0 given.1))

pub fault_told : (text : List ℕ) (number : ℕ) (reason : Reason) → IsFirstFault text number reason → [] ≡ script_phases text
fault_told text number reason fault = ap phases_in (sym (first_is_found text number reason fault))

-- two lists from a place on
pub fits_step : {A B : Type 0} (fits : A → B → Bool) (xs : List A) (ys : List B) (i : ℕ) (x : A) → i < length xs → x ≡ get_or xs i x
    → pointwise fits (drop i xs) (drop i ys) ≡ (option_map_or (fits x) (slice_get ys i) false && pointwise fits (drop (i + 1) xs) (drop (i + 1) ys))
fits_step {A} {B} fits xs ys i x within is =
    let first : drop i xs ≡ x ∷ drop (i + 1) xs = parted xs i x within is in
    ap (λ (z : List A). pointwise fits z (drop i ys)) first
    ∙ elim ((slice_get_cases ys i).1) as (λ _. pointwise fits (x ∷ drop (i + 1) xs) (drop i ys) ≡ (option_map_or (fits x) (slice_get ys i) false && pointwise fits (drop (i + 1) xs) (drop (i + 1) ys))) [
      | inl there ↦
          let second : drop i ys ≡ there.0 ∷ drop (i + 1) ys = parted ys i there.0 there.1 (sym there.3) in
          ap (λ (z : List B). pointwise fits (x ∷ drop (i + 1) xs) z) second ∙ ap (λ (o : Option B). option_map_or (fits x) o false && pointwise fits (drop (i + 1) xs) (drop (i + 1) ys)) (sym there.2)
      | inr past ↦
          ap (λ (z : List B). pointwise fits (x ∷ drop (i + 1) xs) z) (drop_all i ys past.0) ∙ ap (λ (o : Option B). option_map_or (fits x) o false && pointwise fits (drop (i + 1) xs) (drop (i + 1) ys)) (sym past.1)
    ]

-- one piece fits, or one doesn't
pub fits_on : {A B : Type 0} (fits : A → B → Bool) (xs : List A) (ys : List B) (i : ℕ) (x : A) (here whole : Bool) → i < length xs → x ≡ get_or xs i x → here ≡ option_map_or (fits x) (slice_get ys i) false → here ≡ true
    → pointwise fits (drop i xs) (drop i ys) ≡ whole → pointwise fits (drop (i + 1) xs) (drop (i + 1) ys) ≡ whole
fits_on fits xs ys i x here whole within is told holds so =
    sym (ap (λ (b : Bool). b && pointwise fits (drop (i + 1) xs) (drop (i + 1) ys)) (sym told ∙ holds)) ∙ (sym (fits_step fits xs ys i x within is) ∙ so)

pub fits_not : {A B : Type 0} (fits : A → B → Bool) (xs : List A) (ys : List B) (i : ℕ) (x : A) (here whole : Bool) → i < length xs → x ≡ get_or xs i x → here ≡ option_map_or (fits x) (slice_get ys i) false → here ≡ false
    → pointwise fits (drop i xs) (drop i ys) ≡ whole → false ≡ whole
fits_not fits xs ys i x here whole within is told fails so =
    sym (ap (λ (b : Bool). b && pointwise fits (drop (i + 1) xs) (drop (i + 1) ys)) (sym told ∙ fails)) ∙ (sym (fits_step fits xs ys i x within is) ∙ so)

left_over : {A B : Type 0} (fits : A → B → Bool) (ys : List B) (i : ℕ) → nat_le (length ys) i ≡ pointwise {A = A} fits [] (drop i ys)
left_over {A} {B} fits ys i = elim ((slice_get_cases ys i).1) as (λ _. nat_le (length ys) i ≡ pointwise {A = A} fits [] (drop i ys)) [
  | inl there ↦
      let second : drop i ys ≡ there.0 ∷ drop (i + 1) ys = parted ys i there.0 there.1 (sym there.3) in
      let more : nat_le (length ys) i ≡ false = grind (arith, nat_tests, there.1) in
      more ∙ sym (ap (pointwise {A = A} fits []) second)
  | inr past ↦
      let few : nat_le (length ys) i ≡ true = grind (arith, nat_tests, past.0) in
      few ∙ sym (ap (pointwise {A = A} fits []) (drop_all i ys past.0))
]

-- behind all of the first list nothing of the second may be left
pub fits_all : {A B : Type 0} (fits : A → B → Bool) (xs : List A) (ys : List B) (i : ℕ) (whole : Bool) → i ≡ length xs → pointwise fits (drop i xs) (drop i ys) ≡ whole → nat_le (length ys) (length xs) ≡ whole
fits_all {A} {B} fits xs ys i whole all so =
    ap (nat_le (length ys)) (sym all)
    ∙ (left_over {A = A} fits ys i
    ∙ (sym (ap (λ (z : List A). pointwise fits z (drop i ys)) (drop_all i xs (omega (arith, all)))) ∙ so))
