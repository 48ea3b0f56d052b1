-- What words ask for, by what they are.
use Rattle.std.proofs.Common.{ℕ, ◌≡◌, ◌<◌, ◌^◌, Bool, true, List, [], ◌∷◌, length, get_or, Option, Some, None, sym, ap, ◌∙◌, subst, refl, arith, string_bytes}
use Rattle.std.specs.Prelude.{map, IsTrue, ◌↔◌, SomeIff, MatchOption, String, codes}
use Rattle.std.specs.Str.{bytes_eq}
use Rattle.std.specs.Str.Parse.{IsNumeral, digits_value}
use Rattle.std.specs.declared.alloc.Global.{Global}
use Rattle.std.proofs.lemmas.Slice.Eq.{bytes_eq-Decides}
use Rattle.pfs_top.specs.CommandWords.{AsksLoad}

-- a list of one, and of two
pub map_one : {A B : Type 0} (f : A → B) (xs : List A) (d : A) → length xs ≡ 1 → map f xs ≡ f (get_or xs 0 d) ∷ []
map_one f [] d h = absurd (omega arith)
map_one f (x ∷ []) d h = refl
map_one f (x ∷ (y ∷ xs)) d h = absurd (omega arith)

map_two : {A B : Type 0} (f : A → B) (xs : List A) (c d : A) → length xs ≡ 2 → map f xs ≡ f (get_or xs 0 c) ∷ (f (get_or xs 1 d) ∷ [])
map_two f [] c d h = absurd (omega arith)
map_two f (x ∷ []) c d h = absurd (omega arith)
map_two f (x ∷ (y ∷ [])) c d h = refl
map_two f (x ∷ (y ∷ (z ∷ xs))) c d h = absurd (omega arith)

pub two_are : {A B : Type 0} (f : A → B) (xs : List A) (c d : A) → length xs ≡ 2 → c ≡ get_or xs 0 c → d ≡ get_or xs 1 d → map f xs ≡ f c ∷ (f d ∷ [])
two_are f xs c d h first second =
    map_two f xs c d h ∙ (ap (λ a. f a ∷ (f (get_or xs 1 d) ∷ [])) (sym first) ∙ ap (λ b. f c ∷ (f b ∷ [])) (sym second))

-- the words are one exactly where their one word is it
pub one_word : {W : Type 0} (f : W → List ℕ) (words : List W) (word : W) (command : List ℕ) (same : Bool) → map f words ≡ f word ∷ [] → same ≡ bytes_eq (f word) command → IsTrue same ↔ (map f words ≡ command ∷ [])
one_word f words word command same m e = (
  λ t. m ∙ ap (λ (z : List ℕ). z ∷ []) ((bytes_eq-Decides (f word) command).0 (sym e ∙ t)),
  λ h. let q : f word ≡ command = cc in e ∙ (bytes_eq-Decides (f word) command).1 q,
)

-- behind `load` a number is asked for exactly where its digits stand
pub load_asked : (words : List (String Global)) (word digits : String Global) (number : Option ℕ) → map string_bytes words ≡ string_bytes word ∷ (string_bytes digits ∷ []) → bytes_eq (string_bytes word) (codes "load") ≡ true
    → SomeIff number (IsNumeral 10 (string_bytes digits) × (digits_value 10 (string_bytes digits) < 2 ^ 64)) (digits_value 10 (string_bytes digits))
    → MatchOption number ((n : ℕ) → ¬ AsksLoad words n) (λ n. AsksLoad words n)
load_asked words word digits (Some n) m e r = record {
  digits = string_bytes digits;
  are = m ∙ ap (λ (z : List ℕ). z ∷ (string_bytes digits ∷ [])) ((bytes_eq-Decides (string_bytes word) (codes "load")).0 e);
  numeral = r.0.0;
  value = sym r.1;
  fits = subst (λ z. z < 2 ^ 64) (sym r.1) r.0.1;
}
load_asked words word digits None m e r = λ n a.
    let are = a.are in
    let q : string_bytes digits ≡ a.digits = cc in
    r (subst (IsNumeral 10) (sym q) a.numeral, subst (λ z. z < 2 ^ 64) (sym (ap (digits_value 10) q ∙ a.value)) a.fits)
