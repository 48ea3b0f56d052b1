-- A class that is registered under a name that stands for nothing.
use Rattle.std.proofs.Common.{◌≡◌, ℕ, ◌+◌, ◌<◌, ◌≤◌, Bool, true, false, cond, eqb, not, List, [], ◌∷◌, length, Some, None, Contains, Result, Ok, Err, ◌⊎◌, inl, inr, refl, sym, ap, ◌∙◌, subst, arith}
use Rattle.std.specs.Prelude.{nat_lt, slice_get, is_some, OnOk, OnErr}
use Rattle.std.specs.List.{list_all, slice_split, onto_first}
use Rattle.std.specs.Str.{IsUtf8}
use Rattle.std.proofs.lemmas.Bool.{and_parts, and_from, lt-ltb, eqb-true, ltb-true}
use Rattle.std.proofs.lemmas.Bool.Decides.{nat_tests}
use Rattle.std.proofs.lemmas.List.Elements.{Contains-push_cases}
use Rattle.std.proofs.lemmas.Str.{IsUtf8-from_ascii}
use Rattle.std.proofs.lemmas.Option.{slice_get_within}
use Rattle.pfs_names.specs.InternedTexts.{AreNames, Interns, id_of, interned}
use Rattle.pfs_classes.specs.declared.kind.Kind.{Kind}
use Rattle.pfs_classes.specs.declared.kind.Kind.TheVariants.{Mutex}
use Rattle.pfs_classes.specs.Kinds.{kind_name, is_part_byte, is_part, Fits}
use Rattle.std.proofs.lemmas.List.Folds.{list_all-append}
use Rattle.pfs_classes.specs.declared.classes.Class.{Class}
use Rattle.pfs_classes.specs.Registry.{Registry, registered}
use Rattle.pfs_classes.specs.Settings.{ComesFrom}
use Rattle.pfs_script.specs.Headings.{Head, IsSound, count_named, ref_of, resolved, with_class, naming_in, head_with}
use Rattle.pfs_script.proofs.CountLemmas.{count-registered, ref-counted}
use Rattle.pfs_script.proofs.NameIds.{interned_is, id_is, id_pushed}
use Rattle.pfs_script.proofs.BuiltinNames.{limits-registered, is_low, ascii_from}
use Rattle.pfs_script.proofs.HeadLemmas.{uncounted, length_push}

none_counted : (r : Registry) (id : ℕ) → ref_of r id ≡ None → count_named r id ≡ 0
none_counted r id none =
    let zero : nat_lt 0 (count_named r id) ≡ false = sym (ref-counted r id) ∙ ap is_some none in
    grind (arith, nat_tests)

-- the id of a name that stands for nothing isn't counted
pub fresh_count : (head : Head) (after : List (List ℕ)) (name : List ℕ) (id : ℕ) → IsSound head → Interns head.names after name → slice_get after id ≡ Some name → AreNames after → resolved head name ≡ None → count_named head.classes id ≡ 0
unfolding resolved
fresh_count head after name id sound (inl (has, same)) at names none =
    let here : id_of head.names name ≡ id = sound.places id name (ap (λ (all : List (List ℕ)). slice_get all id) (sym same) ∙ at) in
    none_counted head.classes id (ap (ref_of head.classes) (sym here) ∙ none)
fresh_count head after name id sound (inr (absent, more)) at names none =
    let here : id ≡ length head.names = sym (id_is after id name names at) ∙ (ap (λ (all : List (List ℕ)). id_of all name) more ∙ id_pushed head.names name absent) in
    uncounted head id sound here

pub longer : (before after : List (List ℕ)) (name : List ℕ) → Interns before after name → length before ≤ length after
longer before after name (inl (has, same)) = let e = ap {B = ℕ} length same in omega arith
longer before after name (inr (absent, more)) = let e = ap {B = ℕ} length more in let n = length_push before name in omega arith

pub utf8_after : (before after : List (List ℕ)) (name : List ℕ) → Interns before after name → IsUtf8 name → ((text : List ℕ) → Contains before text → IsUtf8 text) → (text : List ℕ) → Contains after text → IsUtf8 text
utf8_after before after name (inl (has, same)) here all text there = all text (subst (λ (texts : List (List ℕ)). Contains texts text) same there)
utf8_after before after name (inr (absent, more)) here all text there =
    elim (Contains-push_cases before name text (subst (λ (texts : List (List ℕ)). Contains texts text) more there)) [
      | inl old ↦ all text old
      | inr new ↦ subst IsUtf8 new here
    ]

-- one more of an id that wasn't counted
once_by : (count id place n : ℕ) (same : Bool) → eqb place id ≡ same → (place ≡ id → count ≡ 0) → place < n → count ≤ cond {A = ℕ} (nat_lt id n) 1 0 → count + cond {A = ℕ} same 1 0 ≤ cond {A = ℕ} (nat_lt id n) 1 0
once_by count id place n true e fresh lt few =
    let here : place ≡ id = eqb-true place id e in
    let none = fresh here in
    let inside : nat_lt id n ≡ true = lt-ltb id n (omega arith) in
    subst (λ (b : Bool). count + 1 ≤ cond {A = ℕ} b 1 0) (sym inside) (omega arith)
once_by count id place n false e fresh lt few = omega arith

pub more_room : (id m n : ℕ) (b : Bool) → nat_lt id m ≡ b → m ≤ n → cond {A = ℕ} b 1 0 ≤ cond {A = ℕ} (nat_lt id n) 1 0
more_room id m n true e le =
    let lt = ltb-true id m e in
    subst (λ (b : Bool). 1 ≤ cond {A = ℕ} b 1 0) (sym (lt-ltb id n (omega arith))) (omega arith)
more_room id m n false e le = omega arith

-- the head with the name interned, and its class registered or not
module _ (head : Head) (after : List (List ℕ)) (name : List ℕ) (class : Class) (sound : IsSound head) (interned_so : Interns head.names after name) (names : AreNames after) (at : slice_get after class.name ≡ Some name) (utf8 : IsUtf8 name)
    (fresh : count_named head.classes class.name ≡ 0) where
  wider : (id : ℕ) → count_named head.classes id ≤ cond {A = ℕ} (nat_lt id (length after)) 1 0
  wider id =
      let few = sound.once id in
      let more = more_room id (length head.names) (length after) (nat_lt id (length head.names)) refl (longer head.names after name interned_so) in
      omega arith

  one_registered : (id : ℕ) → count_named (registered head.classes class) id ≤ cond {A = ℕ} (nat_lt id (length after)) 1 0
  one_registered id =
      subst (λ (n : ℕ). n ≤ cond {A = ℕ} (nat_lt id (length after)) 1 0) (sym (count-registered head.classes class id))
      (once_by (count_named head.classes id) id class.name (length after) (eqb class.name id) refl
      (λ same. ap (count_named head.classes) (sym same) ∙ fresh) (slice_get_within after class.name name at) (wider id))

  pub sound_after : (classes : Registry) → ComesFrom after classes → ((classes ≡ registered head.classes class) ⊎ (classes ≡ head.classes)) → IsSound (record { names = after; classes = classes; limits = head.limits; consumers = head.consumers })
  sound_after classes comes (inl e) = record {
    in_range = sound.in_range;
    same_limits = ap (λ (r : Registry). r.limits) e ∙ (limits-registered head.classes class ∙ sound.same_limits);
    come = comes;
    once = λ id. subst (λ (r : Registry). count_named r id ≤ cond {A = ℕ} (nat_lt id (length after)) 1 0) (sym e) (one_registered id);
    places = λ id text there. id_is after id text names there;
    utf8 = utf8_after head.names after name interned_so utf8 sound.utf8;
  }
  sound_after classes comes (inr e) = record {
    in_range = sound.in_range;
    same_limits = ap (λ (r : Registry). r.limits) e ∙ sound.same_limits;
    come = comes;
    once = λ id. subst (λ (r : Registry). count_named r id ≤ cond {A = ℕ} (nat_lt id (length after)) 1 0) (sym e) (wider id);
    places = λ id text there. id_is after id text names there;
    utf8 = utf8_after head.names after name interned_so utf8 sound.utf8;
  }

pub either : {A E : Type 0} (r : Result A E) (P Q : Type 0) → OnOk r P → OnErr r Q → P ⊎ Q
either (Ok x) P Q ok err = inl ok
either (Err e) P Q ok err = inr err

pub on_ok : {A E : Type 0} (r : Result A E) (P Q : Type 0) → (P → Q) → OnOk r P → OnOk r Q
on_ok (Ok x) P Q leads ok = leads ok
on_ok (Err e) P Q leads ok = tt

-- what the class line makes
pub class_made : (head : Head) (after : List (List ℕ)) (name : List ℕ) (kind : Kind) (enabled timed : Bool) (id : ℕ) (classes : Registry) → Interns head.names after name → slice_get after id ≡ Some name → AreNames after
    → classes ≡ registered head.classes (record { name = id; kind = kind; enabled = enabled; timed = timed })
    → record { names = after; classes = classes; limits = head.limits; consumers = head.consumers } ≡ head_with (with_class (naming_in head) name kind enabled timed) head.limits head.consumers
unfolding with_class
class_made head after name kind enabled timed id classes so at names made =
    let same : after ≡ interned head.names name = interned_is head.names after name so in
    let place : id ≡ id_of (interned head.names name) name = sym (id_is after id name names at) ∙ ap (λ (all : List (List ℕ)). id_of all name) same in
    let all : classes ≡ registered head.classes (record { name = id_of (interned head.names name) name; kind = kind; enabled = enabled; timed = timed }) =
    made ∙ ap (λ n. registered head.classes (record { name = n; kind = kind; enabled = enabled; timed = timed })) place in
    ap (λ (texts : List (List ℕ)). record { names = texts; classes = classes; limits = head.limits; consumers = head.consumers }) same
    ∙ ap (λ (r : Registry). record { names = interned head.names name; classes = r; limits = head.limits; consumers = head.consumers }) all

-- a class's name is ASCII
low_part : (b : ℕ) → is_part_byte b ≡ true → is_low b ≡ true
low_part b part = grind (arith, nat_tests)

all_more : (p q : ℕ → Bool) (xs : List ℕ) → ((x : ℕ) → p x ≡ true → q x ≡ true) → list_all p xs ≡ true → list_all q xs ≡ true
all_more p q [] leads all = refl
all_more p q (x ∷ xs) leads all =
    let both = and_parts (p x) (list_all p xs) all in
    and_from (q x) (list_all q xs) (leads x both.0) (all_more p q xs leads both.1)

low_of_part : (part : List ℕ) → is_part part ≡ true → list_all is_low part ≡ true
low_of_part part so = all_more is_part_byte is_low part low_part (and_parts (not (eqb (length part) 0)) (list_all is_part_byte part) so).1

low_parts : (parts : List (List ℕ)) → list_all is_part parts ≡ true → list_all (list_all is_low) parts ≡ true
low_parts [] all = refl
low_parts (part ∷ parts) all =
    let both = and_parts (is_part part) (list_all is_part parts) all in
    and_from (list_all is_low part) (list_all (list_all is_low) parts) (low_of_part part both.0) (low_parts parts both.1)

onto_low : (x : ℕ) (parts : List (List ℕ)) → list_all (list_all is_low) (onto_first x parts) ≡ true → (is_low x ≡ true) × (list_all (list_all is_low) parts ≡ true)
onto_low x [] all = let first = and_parts (list_all is_low (x ∷ [])) true all in ((and_parts (is_low x) true first.0).0, refl)
onto_low x (part ∷ parts) all =
    let both = and_parts (list_all is_low (x ∷ part)) (list_all (list_all is_low) parts) all in
    let first = and_parts (is_low x) (list_all is_low part) both.0 in
    (first.0, and_from (list_all is_low part) (list_all (list_all is_low) parts) first.1 both.1)

split_by : (x : ℕ) (xs : List ℕ) (b : Bool) → eqb x 47 ≡ b → (list_all (list_all is_low) (slice_split (λ y. eqb y 47) xs) ≡ true → list_all is_low xs ≡ true)
    → list_all (list_all is_low) (cond b ([] ∷ slice_split (λ y. eqb y 47) xs) (onto_first x (slice_split (λ y. eqb y 47) xs))) ≡ true → list_all is_low (x ∷ xs) ≡ true
split_by x xs true e later all =
    let slash : x ≡ 47 = eqb-true x 47 e in
    and_from (is_low x) (list_all is_low xs) (lt-ltb x 128 (omega arith)) (later all)
split_by x xs false e later all =
    let both = onto_low x (slice_split (λ y. eqb y 47) xs) all in
    and_from (is_low x) (list_all is_low xs) both.0 (later both.1)

split_low : (xs : List ℕ) → list_all (list_all is_low) (slice_split (λ y. eqb y 47) xs) ≡ true → list_all is_low xs ≡ true
split_low [] all = refl
split_low (x ∷ xs) all = split_by x xs (eqb x 47) refl (split_low xs) all

kind_low : (kind : Kind) → list_all is_low (kind_name kind) ≡ true
kind_low Mutex = refl
kind_low _ = refl

name_low : (name : List ℕ) (kind : Kind) → Fits name kind → list_all is_low name ≡ true
name_low name kind (inl (e, of_kind)) = ap (list_all is_low) e
name_low name kind (inr (parts, e, so, short)) =
    ap (list_all is_low) e ∙ (list_all-append is_low (kind_name kind) (47 ∷ parts)
    ∙ and_from (list_all is_low (kind_name kind)) (list_all is_low (47 ∷ parts)) (kind_low kind) (split_low parts (low_parts (slice_split (λ y. eqb y 47) parts) so)))

pub fits_utf8 : (name : List ℕ) (kind : Kind) → Fits name kind → IsUtf8 name
fits_utf8 name kind fits = IsUtf8-from_ascii name (ascii_from name (name_low name kind fits))
