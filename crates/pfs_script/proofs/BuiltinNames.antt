-- The built-in names and classes.
use Rattle.std.proofs.Common.{◌≡◌, ℕ, zero, suc, ◌+◌, ◌<◌, ◌≤◌, Bool, true, false, cond, eqb, List, [], ◌∷◌, ◌++◌, length, get_or, map, Some, Contains, inl, inr, refl, sym, ap, ◌∙◌, subst, arith}
use Rattle.std.specs.Prelude.{codes, fold, count_by, nat_lt, slice_get}
use Rattle.std.specs.List.{list_all}
use Rattle.std.specs.Str.{IsUtf8, IsAscii}
use Rattle.std.proofs.lemmas.Bool.{and_parts, ltb-true, ltb-false, cases_lt, eqb-true, eqb-false, ne_eqb}
use Rattle.std.proofs.lemmas.Bool.Decides.{nat_tests}
use Rattle.std.proofs.lemmas.Str.{IsUtf8-from_ascii}
use Rattle.std.proofs.lemmas.Option.{same_Some, slice_get_within}
use Rattle.pfs_rows.specs.declared.limits.Limits.{Limits}
use Rattle.pfs_classes.specs.declared.classes.Class.{Class}
use Rattle.pfs_classes.specs.Registry.{Registry, has_room, registered}
use Rattle.pfs_names.specs.InternedTexts.{id_of, interned}
use Rattle.pfs_classes.specs.Builtins.{builtins, with_builtins, class_of, start_of, builtin_of}
use Rattle.pfs_rows.specs.Limits.{AreInRange}
use Rattle.pfs_classes.specs.Settings.{ComesFrom}
use Rattle.pfs_script.specs.Headings.{IsSound, count_named, naming_under, head_with}
use Rattle.pfs_script.proofs.CountLemmas.{count-cons, count-fold}

-- the names of the built-in classes, and of `transaction`
abbrev pub builtin_names : List (List ℕ)
builtin_names = map (λ row. row.name) builtins ++ codes "transaction" ∷ []

pub names-builtin : with_builtins [] ≡ builtin_names
unfolding interned
names-builtin = refl

-- so many numbers from the first on
abbrev pub numbers : ℕ → ℕ → List ℕ
numbers a zero = []
numbers a (suc n) = a ∷ numbers (a + 1) n

ids-builtin : map (λ text. id_of builtin_names text) builtin_names ≡ numbers 0 25
ids-builtin = refl

module _ (id : ℕ) where
  abbrev pub is_it : ℕ → Bool
  is_it n = eqb n id

  count_before : (a n : ℕ) → id < a → count_by is_it (numbers a n) ≡ 0
  count_before a zero lt = refl
  count_before a (suc n) lt =
      let here : cond {A = ℕ} (eqb a id) 1 0 ≡ 0 = ap {B = ℕ} (λ b. cond {A = ℕ} b 1 0) (ne_eqb a id (λ e. omega arith)) in
      omega (arith, count-cons is_it a (numbers (a + 1) n), count_before (a + 1) n (omega arith))

  count_behind : (a n : ℕ) → a + n ≤ id → count_by is_it (numbers a n) ≡ 0
  count_behind a zero le = refl
  count_behind a (suc n) le =
      let here : cond {A = ℕ} (eqb a id) 1 0 ≡ 0 = ap {B = ℕ} (λ b. cond {A = ℕ} b 1 0) (ne_eqb a id (λ e. omega arith)) in
      omega (arith, count-cons is_it a (numbers (a + 1) n), count_behind (a + 1) n (omega arith))

  count_first : (a n : ℕ) (same : Bool) → eqb a id ≡ same → id < a + suc n → a ≤ id → (a + 1 ≤ id → count_by is_it (numbers (a + 1) n) ≡ 1) → cond {A = ℕ} same 1 0 + count_by is_it (numbers (a + 1) n) ≡ 1
  count_first a n true e lt le later =
      let here : a ≡ id = eqb-true a id e in
      omega (arith, count_before (a + 1) n (omega arith))
  count_first a n false e lt le later =
      let ne = eqb-false a id e in
      let more : a + 1 ≤ id = elim (cases_lt a id) [ inl below ↦ omega arith | inr above ↦ absurd (ne (omega arith)) ] in
      omega (arith, later more)

  count_among : (a n : ℕ) → a ≤ id → id < a + n → count_by is_it (numbers a n) ≡ 1
  count_among a zero le lt = absurd (omega arith)
  count_among a (suc n) le lt =
      count-cons is_it a (numbers (a + 1) n) ∙ count_first a n (eqb a id) refl lt le (λ more. count_among (a + 1) n more (omega arith))

  count_numbers_by : (n : ℕ) (within : Bool) → nat_lt id n ≡ within → count_by is_it (numbers 0 n) ≡ cond {A = ℕ} within 1 0
  count_numbers_by n true e = count_among 0 n (omega arith) (let lt = ltb-true id n e in omega arith)
  count_numbers_by n false e = count_behind 0 n (let le = ltb-false id n e in omega arith)

  -- the ids of the classes
  count_names : (classes : List Class) → count_by (λ class. eqb class.name id) classes ≡ count_by is_it (map (λ class. class.name) classes)
  count_names [] = refl
  count_names (class ∷ classes) =
      omega (arith, count-cons (λ (one : Class). eqb one.name id) class classes, count-cons is_it class.name (map (λ one. one.name) classes), count_names classes)

class_ids : map (λ (class : Class). class.name) (map (class_of builtin_names) builtins) ≡ numbers 0 24
class_ids = refl

one_more : (id : ℕ) (last : Bool) → eqb 24 id ≡ last → count_by (λ n. eqb n id) (numbers 0 24) ≡ cond {A = ℕ} (nat_lt id 24) 1 0 → cond {A = ℕ} last 1 0 + 0 + 0 + count_by (λ n. eqb n id) (numbers 0 24) ≡ cond {A = ℕ} (nat_lt id 25) 1 0
one_more id true e counted =
    let here : 24 ≡ id = eqb-true 24 id e in
    let out : nat_lt id 24 ≡ false = grind (arith, nat_tests) in
    let inside : nat_lt id 25 ≡ true = grind (arith, nat_tests) in
    let none : count_by (λ n. eqb n id) (numbers 0 24) ≡ 0 = counted ∙ ap {B = ℕ} (λ b. cond {A = ℕ} b 1 0) out in
    ap (λ n. 1 + 0 + 0 + n) none ∙ sym (ap {B = ℕ} (λ b. cond {A = ℕ} b 1 0) inside)
one_more id false e counted =
    let ne = eqb-false 24 id e in
    let same : nat_lt id 24 ≡ nat_lt id 25 = grind (arith, nat_tests) in
    ap (λ n. 0 + 0 + 0 + n) counted ∙ (omega arith ∙ ap {B = ℕ} (λ b. cond {A = ℕ} b 1 0) same)

-- each built-in name is of one class or lost class
pub count-builtin : (limits : Limits) (id : ℕ) → count_named (builtin_of builtin_names limits) id ≡ cond {A = ℕ} (nat_lt id 25) 1 0
count-builtin limits id =
    count-fold (map (class_of builtin_names) builtins) (start_of builtin_names limits) id
    ∙ (ap (λ n. count_named (start_of builtin_names limits) id + n) (count_names id (map (class_of builtin_names) builtins) ∙ ap (count_by (λ n. eqb n id)) class_ids)
    ∙ one_more id (eqb 24 id) refl (count_numbers_by id 24 (nat_lt id 24) refl))

-- a list of texts whose ids are their places
number_at : (a n i : ℕ) → i < n → slice_get (numbers a n) i ≡ Some (a + i)
number_at a zero i lt = absurd (omega arith)
number_at a (suc n) zero lt = ap Some (omega arith)
number_at a (suc n) (suc i) lt = number_at (a + 1) n i (omega arith) ∙ ap Some (omega arith)

get_map : (f : List ℕ → ℕ) (texts : List (List ℕ)) (i : ℕ) (text : List ℕ) → slice_get texts i ≡ Some text → slice_get (map f texts) i ≡ Some (f text)
get_map f [] i text at = absurd (cc)
get_map f (first ∷ texts) zero text at = ap (λ (one : List ℕ). Some (f one)) (same_Some first text at)
get_map f (first ∷ texts) (suc i) text at = get_map f texts i text at

place_is : (f : List ℕ → ℕ) (texts : List (List ℕ)) (n : ℕ) → map f texts ≡ numbers 0 n → length texts ≡ n → (i : ℕ) (text : List ℕ) → slice_get texts i ≡ Some text → f text ≡ i
place_is f texts n ids all i text at =
    let within : i < length texts = slice_get_within texts i text at in
    same_Some (f text) (0 + i) (sym (get_map f texts i text at) ∙ (ap (λ (ns : List ℕ). slice_get ns i) ids ∙ number_at 0 n i (omega arith))) ∙ omega arith

pub places-builtin : (id : ℕ) (text : List ℕ) → slice_get builtin_names id ≡ Some text → id_of builtin_names text ≡ id
places-builtin id text at = place_is (λ one. id_of builtin_names one) builtin_names 25 ids-builtin refl id text at

-- they are ASCII
abbrev pub is_low : ℕ → Bool
is_low byte = nat_lt byte 128

pub ascii_from : (text : List ℕ) → list_all is_low text ≡ true → IsAscii text
ascii_from [] all i = omega arith
ascii_from (byte ∷ text) all zero = ltb-true byte 128 (and_parts (is_low byte) (list_all is_low text) all).0
ascii_from (byte ∷ text) all (suc i) = ascii_from text (and_parts (is_low byte) (list_all is_low text) all).1 i

all_at : {A : Type 0} (p : A → Bool) (xs : List A) (i : ℕ) (d : A) → list_all p xs ≡ true → i < length xs → p (get_or xs i d) ≡ true
all_at p [] i d all lt = absurd (omega arith)
all_at p (x ∷ xs) zero d all lt = (and_parts (p x) (list_all p xs) all).0
all_at p (x ∷ xs) (suc i) d all lt = all_at p xs i d (and_parts (p x) (list_all p xs) all).1 (omega arith)

low-builtin : list_all (list_all is_low) builtin_names ≡ true
low-builtin = refl

pub utf8-builtin : (text : List ℕ) → Contains builtin_names text → IsUtf8 text
utf8-builtin text (i, within, is) =
    IsUtf8-from_ascii text (ascii_from text (ap (list_all is_low) (sym is) ∙ all_at (list_all is_low) builtin_names i text low-builtin within))

-- registering keeps the limits
limits_by : (r : Registry) (class : Class) (room : Bool) → (cond room (record r { classes = r.classes ++ class ∷ [] }) (record r { lost = r.lost ++ record { name = class.name; kind = class.kind } ∷ [] })).limits ≡ r.limits
limits_by r class true = refl
limits_by r class false = refl

pub limits-registered : (r : Registry) (class : Class) → (registered r class).limits ≡ r.limits
unfolding registered
limits-registered r class = limits_by r class (has_room r class.kind)

limits_fold : (classes : List Class) (r : Registry) → (fold registered r classes).limits ≡ r.limits
limits_fold [] r = refl
limits_fold (class ∷ classes) r = limits_fold classes (registered r class) ∙ limits-registered r class

pub limits-builtin : (texts : List (List ℕ)) (limits : Limits) → (builtin_of texts limits).limits ≡ limits
limits-builtin texts limits = limits_fold (map (class_of texts) builtins) (start_of texts limits)

-- what is built in is sound
pub sound_under : (names : List (List ℕ)) (classes : Registry) (limits : Limits) (consumers : ℕ) → AreInRange limits → names ≡ with_builtins [] → classes ≡ builtin_of names limits → ComesFrom names classes
    → IsSound (record { names = names; classes = classes; limits = limits; consumers = consumers })
sound_under names classes limits consumers range named built comes =
    let all : names ≡ builtin_names = named ∙ names-builtin in
    let made : classes ≡ builtin_of builtin_names limits = built ∙ ap (λ (texts : List (List ℕ)). builtin_of texts limits) all in
    record {
      in_range = range;
      same_limits = ap (λ (r : Registry). r.limits) made ∙ limits-builtin builtin_names limits;
      come = comes;
      once = λ id.
          let counted : count_named classes id ≡ cond {A = ℕ} (nat_lt id 25) 1 0 = ap (λ (r : Registry). count_named r id) made ∙ count-builtin limits id in
          subst (λ (n : ℕ). count_named classes id ≤ cond {A = ℕ} (nat_lt id n) 1 0) (sym (ap {B = ℕ} length all)) (omega arith);
      places = subst (λ (texts : List (List ℕ)). (id : ℕ) (text : List ℕ) → slice_get texts id ≡ Some text → id_of texts text ≡ id) (sym all) places-builtin;
      utf8 = subst (λ (texts : List (List ℕ)). (text : List ℕ) → Contains texts text → IsUtf8 text) (sym all) utf8-builtin;
    }

pub names_new : (names : List (List ℕ)) (classes : Registry) (limits : Limits) (consumers : ℕ) → names ≡ with_builtins [] → classes ≡ builtin_of names limits
    → record { names = names; classes = classes; limits = limits; consumers = consumers } ≡ head_with (naming_under limits) limits consumers
unfolding naming_under
names_new names classes limits consumers named built =
    let made : classes ≡ builtin_of (with_builtins []) limits = built ∙ ap (λ (texts : List (List ℕ)). builtin_of texts limits) named in
    cc
