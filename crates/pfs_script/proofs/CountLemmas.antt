-- How many classes and lost classes have the id of a name, and what the id then stands for.
use Rattle.std.proofs.Common.{◌≡◌, ℕ, zero, suc, ◌+◌, ◌≤◌, Bool, true, false, cond, ◌||◌, eqb, List, [], ◌∷◌, ◌++◌, map, Option, Some, None, MatchOption, refl, sym, ap, ◌∙◌, arith}
use Rattle.std.specs.Prelude.{fold, count_by, nat_lt, slice_get, position, is_some}
use Rattle.std.specs.List.{list_any, find, position_from}
use Rattle.std.proofs.lemmas.Bool.{false≢true, or_parts, or_from, eqb-true, eq-eqb}
use Rattle.std.proofs.lemmas.Bool.Decides.{nat_tests}
use Rattle.std.proofs.lemmas.List.Sums.{sum_by-cons, sum_by_push}
use Rattle.std.proofs.lemmas.Iterator.Adapters.{position_from-zero}
use Rattle.std.proofs.lemmas.Option.{same_Some, slice_get-get_or}
use Rattle.pfs_classes.specs.declared.classes.Class.{Class}
use Rattle.pfs_classes.specs.declared.classes.LostClass.{LostClass}
use Rattle.pfs_classes.specs.declared.classes.ClassRef.{ClassRef}
use Rattle.pfs_classes.specs.declared.classes.ClassRef.TheVariants as refs
use Rattle.pfs_classes.specs.Registry.{Registry, is_given, RefersTo, has_room, registered}
use Rattle.pfs_script.specs.Headings.{count_named, ref_of, lost_ref, class_ref, set_if_like, flags_set_like}

module _ {A : Type 0} (p : A → Bool) where
  pub count-cons : (x : A) (xs : List A) → count_by p (x ∷ xs) ≡ cond {A = ℕ} (p x) 1 0 + count_by p xs
  count-cons x xs = sum_by-cons (λ (y : A). cond {A = ℕ} (p y) 1 0) x xs

  pub count-push : (xs : List A) (x : A) → count_by p (xs ++ x ∷ []) ≡ count_by p xs + cond {A = ℕ} (p x) 1 0
  count-push xs x = sum_by_push (λ (y : A). cond {A = ℕ} (p y) 1 0) xs x

  pub none_counted : (xs : List A) → list_any p xs ≡ false → count_by p xs ≡ 0
  none_counted [] none = refl
  none_counted (x ∷ xs) none =
      let parts = or_parts (p x) (list_any p xs) none in
      let here : cond {A = ℕ} (p x) 1 0 ≡ 0 = ap {B = ℕ} (λ b. cond {A = ℕ} b 1 0) parts.0 in
      omega (arith, count-cons x xs, none_counted xs parts.1)

  found_by : (x : A) (xs : List A) (i : ℕ) (b : Bool) → p x ≡ b → ((j : ℕ) → is_some (position_from p j xs) ≡ nat_lt 0 (count_by p xs)) → is_some (cond b (Some i) (position_from p (i + 1) xs)) ≡ nat_lt 0 (cond {A = ℕ} b 1 0 + count_by p xs)
  found_by x xs i true e later = grind (arith, nat_tests)
  found_by x xs i false e later = later (i + 1) ∙ ap (nat_lt 0) (omega arith)

  pub found_position : (xs : List A) (i : ℕ) → is_some (position_from p i xs) ≡ nat_lt 0 (count_by p xs)
  found_position [] i = refl
  found_position (x ∷ xs) i = found_by x xs i (p x) refl (found_position xs) ∙ ap (nat_lt 0) (sym (count-cons x xs))

  found_first_by : (x : A) (xs : List A) (b : Bool) → is_some (find p xs) ≡ nat_lt 0 (count_by p xs) → is_some (cond b (Some x) (find p xs)) ≡ nat_lt 0 (cond {A = ℕ} b 1 0 + count_by p xs)
  found_first_by x xs true later = grind (arith, nat_tests)
  found_first_by x xs false later = later ∙ ap (nat_lt 0) (omega arith)

  pub found_first : (xs : List A) → is_some (find p xs) ≡ nat_lt 0 (count_by p xs)
  found_first [] = refl
  found_first (x ∷ xs) = found_first_by x xs (p x) (found_first xs) ∙ ap (nat_lt 0) (sym (count-cons x xs))

  -- one that passes is counted
  pub counted_at : (xs : List A) (i : ℕ) (x : A) → slice_get xs i ≡ Some x → p x ≡ true → 1 ≤ count_by p xs
  counted_at [] i x at passes = absurd (cc)
  counted_at (y ∷ xs) zero x at passes =
      let here : cond {A = ℕ} (p y) 1 0 ≡ 1 = ap {B = ℕ} (λ b. cond {A = ℕ} b 1 0) (ap p (same_Some y x at) ∙ passes) in
      omega (arith, count-cons y xs)
  counted_at (y ∷ xs) (suc i) x at passes = omega (arith, count-cons y xs, counted_at xs i x at passes)

  only_by : (y : A) (xs : List A) (i k : ℕ) (b : Bool) → p y ≡ b → 1 ≤ count_by p xs → cond {A = ℕ} b 1 0 + count_by p xs ≤ 1 → position_from p (k + 1) xs ≡ Some (k + 1 + i) → cond b (Some k) (position_from p (k + 1) xs) ≡ Some (k + suc i)
  only_by y xs i k true e counted few later = absurd (omega arith)
  only_by y xs i k false e counted few later = later ∙ ap Some (omega arith)

  -- the one that passes is at its place
  pub only_position : (xs : List A) (i k : ℕ) (x : A) → slice_get xs i ≡ Some x → p x ≡ true → count_by p xs ≤ 1 → position_from p k xs ≡ Some (k + i)
  only_position [] i k x at passes few = absurd (cc)
  only_position (y ∷ xs) zero k x at passes few =
      ap (λ b. cond b (Some k) (position_from p (k + 1) xs)) (ap p (same_Some y x at) ∙ passes) ∙ ap Some (omega arith)
  only_position (y ∷ xs) (suc i) k x at passes few =
      let counted = counted_at xs i x at passes in
      only_by y xs i k (p y) refl counted (omega (arith, count-cons y xs)) (only_position xs i (k + 1) x at passes (omega (arith, count-cons y xs)))

  first_by : (y x : A) (xs : List A) (b : Bool) → p y ≡ b → 1 ≤ count_by p xs → cond {A = ℕ} b 1 0 + count_by p xs ≤ 1 → find p xs ≡ Some x → cond b (Some y) (find p xs) ≡ Some x
  first_by y x xs true e counted few later = absurd (omega arith)
  first_by y x xs false e counted few later = later

  pub only_first : (xs : List A) (i : ℕ) (x : A) → slice_get xs i ≡ Some x → p x ≡ true → count_by p xs ≤ 1 → find p xs ≡ Some x
  only_first [] i x at passes few = absurd (cc)
  only_first (y ∷ xs) zero x at passes few = ap (λ b. cond b (Some y) (find p xs)) (ap p (same_Some y x at) ∙ passes) ∙ at
  only_first (y ∷ xs) (suc i) x at passes few =
      let counted = counted_at xs i x at passes in
      first_by y x xs (p y) refl counted (omega (arith, count-cons y xs)) (only_first xs i x at passes (omega (arith, count-cons y xs)))

sums : (a b c d e : ℕ) → a ≡ b → c ≡ d → a + c + e ≡ b + d + e
sums a b c d e first second = omega arith

no_sum : (a b c : ℕ) → a ≡ 0 → b ≡ 0 → c ≡ 0 → a + b + c ≡ 0
no_sum a b c first second third = omega arith

-- the same names, the same counts
pub count-map : (f : Class → Class) (id : ℕ) (xs : List Class) → ((one : Class) → (f one).name ≡ one.name) → count_by (λ class. eqb class.name id) (map f xs) ≡ count_by (λ class. eqb class.name id) xs
count-map f id [] same = refl
count-map f id (x ∷ xs) same =
    let here : cond {A = ℕ} (eqb (f x).name id) 1 0 ≡ cond {A = ℕ} (eqb x.name id) 1 0 = ap {B = ℕ} (λ n. cond {A = ℕ} (eqb n id) 1 0) (same x) in
    omega (arith, count-cons (λ (class : Class). eqb class.name id) x xs, count-cons (λ (class : Class). eqb class.name id) (f x) (map f xs), count-map f id xs same)

named_by : (class : Class) (enabled timed b : Bool) → (cond b (record class { enabled = enabled; timed = timed }) class).name ≡ class.name
named_by class enabled timed true = refl
named_by class enabled timed false = refl

pub count-flags : (r : Registry) (names : List (List ℕ)) (pattern : List ℕ) (enabled timed : Bool) (id : ℕ) → count_named (flags_set_like r names pattern enabled timed) id ≡ count_named r id
count-flags r names pattern enabled timed id =
    let f : Class → Class = set_if_like names pattern enabled timed in
    let same : (one : Class) → (f one).name ≡ one.name = λ one. named_by one enabled timed _ in
    let first : cond {A = ℕ} (eqb (f r.transaction).name id) 1 0 ≡ cond {A = ℕ} (eqb r.transaction.name id) 1 0 = ap {B = ℕ} (λ n. cond {A = ℕ} (eqb n id) 1 0) (same r.transaction) in
    sums _ _ _ _ _ first (count-map f id r.classes same)

-- one more class or lost class
count_by_room : (r : Registry) (class : Class) (id : ℕ) (room : Bool) →
    count_named (cond room (record r { classes = r.classes ++ class ∷ [] }) (record r { lost = r.lost ++ record { name = class.name; kind = class.kind } ∷ [] })) id ≡ count_named r id + cond {A = ℕ} (eqb class.name id) 1 0
count_by_room r class id true = omega (arith, count-push (λ (one : Class). eqb one.name id) r.classes class)
count_by_room r class id false =
    let lost : LostClass = record { name = class.name; kind = class.kind } in
    omega (arith, count-push (λ (one : LostClass). eqb one.name id) r.lost lost)

pub count-registered : (r : Registry) (class : Class) (id : ℕ) → count_named (registered r class) id ≡ count_named r id + cond {A = ℕ} (eqb class.name id) 1 0
unfolding registered
count-registered r class id = count_by_room r class id (has_room r class.kind)

pub count-fold : (classes : List Class) (r : Registry) (id : ℕ) → count_named (fold registered r classes) id ≡ count_named r id + count_by (λ class. eqb class.name id) classes
count-fold [] r id = omega arith
count-fold (class ∷ classes) r id = omega (arith, count-fold classes (registered r class) id, count-registered r class id, count-cons (λ (one : Class). eqb one.name id) class classes)

-- what isn't given isn't counted
pub count-not_given : (r : Registry) (id : ℕ) → is_given r id ≡ false → count_named r id ≡ 0
count-not_given r id none =
    let parts = or_parts (eqb r.transaction.name id) (list_any (λ one. eqb one.name id) r.classes || list_any (λ lost. eqb lost.name id) r.lost) none in
    let rest = or_parts (list_any (λ one. eqb one.name id) r.classes) (list_any (λ lost. eqb lost.name id) r.lost) parts.1 in
    let first : cond {A = ℕ} (eqb r.transaction.name id) 1 0 ≡ 0 = ap {B = ℕ} (λ b. cond {A = ℕ} b 1 0) parts.0 in
    no_sum _ _ _ first (none_counted (λ (one : Class). eqb one.name id) r.classes rest.0) (none_counted (λ (one : LostClass). eqb one.name id) r.lost rest.1)

-- an id stands for something exactly where it is counted
some_lost : (o : Option LostClass) → is_some (lost_ref o) ≡ is_some o
some_lost None = refl
some_lost (Some one) = refl

some_class : (o : Option ℕ) (rest : Option ClassRef) (m n : ℕ) → is_some o ≡ nat_lt 0 m → is_some rest ≡ nat_lt 0 n → is_some (class_ref o rest) ≡ nat_lt 0 (m + n)
some_class None rest m n none later = grind (arith, nat_tests)
some_class (Some place) rest m n here later = grind (arith, nat_tests)

some_by : (r : Registry) (id : ℕ) (b : Bool) (classes lost : ℕ) (rest : Option ClassRef) → is_some rest ≡ nat_lt 0 (classes + lost) → is_some (cond b (Some (refs.Class 62)) rest) ≡ nat_lt 0 (cond {A = ℕ} b 1 0 + classes + lost)
some_by r id true classes lost rest later = grind (arith, nat_tests)
some_by r id false classes lost rest later = later ∙ ap (nat_lt 0) (omega arith)

pub ref-counted : (r : Registry) (id : ℕ) → is_some (ref_of r id) ≡ nat_lt 0 (count_named r id)
unfolding ref_of
ref-counted r id =
    let p : Class → Bool = λ one. eqb one.name id in
    let q : LostClass → Bool = λ one. eqb one.name id in
    some_by r id (eqb r.transaction.name id) (count_by p r.classes) (count_by q r.lost) (class_ref (position p r.classes) (lost_ref (find q r.lost)))
    (some_class (position p r.classes) (lost_ref (find q r.lost)) (count_by p r.classes) (count_by q r.lost)
    (ap is_some (position_from-zero p r.classes) ∙ found_position p r.classes 0)
    (some_lost (find q r.lost) ∙ found_first q r.lost))

none_from_test : {A : Type 0} (o : Option A) → is_some o ≡ false → o ≡ None
none_from_test None e = refl
none_from_test (Some x) e = absurd (false≢true (sym e))

pub ref-none : (r : Registry) (id : ℕ) → count_named r id ≡ 0 → ref_of r id ≡ None
ref-none r id none = none_from_test (ref_of r id) (ref-counted r id ∙ ap (nat_lt 0) none)

-- which of the three parts is counted
not_first_by : (b : Bool) (m n : ℕ) → 1 ≤ m + n → cond {A = ℕ} b 1 0 + m + n ≤ 1 → b ≡ false
not_first_by true m n counted few = absurd (omega arith)
not_first_by false m n counted few = refl

-- what isn't counted isn't given
uncounted_by : {A : Type 0} (p : A → Bool) (x : A) (xs : List A) (b : Bool) → p x ≡ b → cond {A = ℕ} b 1 0 + count_by p xs ≡ 0 → (count_by p xs ≡ 0 → list_any p xs ≡ false) → (b || list_any p xs) ≡ false
uncounted_by p x xs true e none later = absurd (omega arith)
uncounted_by p x xs false e none later = later (omega arith)

any_uncounted : {A : Type 0} (p : A → Bool) (xs : List A) → count_by p xs ≡ 0 → list_any p xs ≡ false
any_uncounted p [] none = refl
any_uncounted p (x ∷ xs) none = uncounted_by p x xs (p x) refl (sym (count-cons p x xs) ∙ none) (any_uncounted p xs)

three_none : (b : Bool) (m n : ℕ) → cond {A = ℕ} b 1 0 + m + n ≡ 0 → (b ≡ false) × ((m ≡ 0) × (n ≡ 0))
three_none true m n none = absurd (omega arith)
three_none false m n none = (refl, (omega arith, omega arith))

pub given-uncounted : (r : Registry) (id : ℕ) → count_named r id ≡ 0 → is_given r id ≡ false
given-uncounted r id none =
    let p : Class → Bool = λ one. eqb one.name id in
    let q : LostClass → Bool = λ one. eqb one.name id in
    let parts = three_none (eqb r.transaction.name id) (count_by p r.classes) (count_by q r.lost) none in
    or_from (eqb r.transaction.name id) (list_any p r.classes || list_any q r.lost) parts.0
    (or_from (list_any p r.classes) (list_any q r.lost) (any_uncounted p r.classes parts.1.0) (any_uncounted q r.lost parts.1.1))

module _ (r : Registry) (id : ℕ) (few : count_named r id ≤ 1) where
  abbrev pub in_classes : ℕ
  in_classes = count_by (λ (one : Class). eqb one.name id) r.classes

  abbrev pub in_lost : ℕ
  in_lost = count_by (λ (one : LostClass). eqb one.name id) r.lost

  few_in : cond {A = ℕ} (eqb r.transaction.name id) 1 0 + in_classes + in_lost ≤ 1
  few_in = few

  few_classes : in_classes ≤ 1
  few_classes = let h = few_in in omega arith

  few_lost : in_lost ≤ 1
  few_lost = let h = few_in in omega arith

  class_by : (k : ℕ) (class : Class) (b : Bool) → eqb k 62 ≡ b → cond b (Some r.transaction) (slice_get r.classes k) ≡ Some class → class.name ≡ id → ref_of r id ≡ Some (refs.Class k)
  unfolding ref_of
  class_by k class true last at named =
      let same : r.transaction.name ≡ id = ap (λ (one : Class). one.name) (same_Some r.transaction class at) ∙ named in
      let test : eqb r.transaction.name id ≡ true = eq-eqb r.transaction.name id same in
      ap (λ b. cond b (Some (refs.Class 62)) (class_ref (position (λ one. eqb one.name id) r.classes) (lost_ref (find (λ lost. eqb lost.name id) r.lost)))) test
      ∙ ap (λ n. Some (refs.Class n)) (sym (eqb-true k 62 last))
  class_by k class false other at named =
      let p : Class → Bool = λ one. eqb one.name id in
      let passes : p class ≡ true = eq-eqb class.name id named in
      let counted : 1 ≤ in_classes = counted_at p r.classes k class at passes in
      let test : eqb r.transaction.name id ≡ false = not_first_by (eqb r.transaction.name id) in_classes in_lost (omega arith) few_in in
      let place : position p r.classes ≡ Some k = position_from-zero p r.classes ∙ (only_position p r.classes k 0 class at passes few_classes ∙ ap Some (omega arith)) in
      ap (λ b. cond b (Some (refs.Class 62)) (class_ref (position p r.classes) (lost_ref (find (λ lost. eqb lost.name id) r.lost)))) test
      ∙ ap (λ o. class_ref o (lost_ref (find (λ lost. eqb lost.name id) r.lost))) place

  lost_at : (k : ℕ) (one : LostClass) → slice_get r.lost k ≡ Some one → one.name ≡ id → ref_of r id ≡ Some (refs.Lost one.kind)
  unfolding ref_of
  lost_at k one at named =
      let p : Class → Bool = λ class. eqb class.name id in
      let q : LostClass → Bool = λ lost. eqb lost.name id in
      let passes : q one ≡ true = eq-eqb one.name id named in
      let counted : 1 ≤ in_lost = counted_at q r.lost k one at passes in
      let h = few_in in
      let test : eqb r.transaction.name id ≡ false = not_first_by (eqb r.transaction.name id) in_classes in_lost (omega arith) few_in in
      let none : in_classes ≡ 0 = omega arith in
      let place : position p r.classes ≡ None = position_from-zero p r.classes ∙ none_from_test (position_from p 0 r.classes) (found_position p r.classes 0 ∙ ap (nat_lt 0) none) in
      ap (λ b. cond b (Some (refs.Class 62)) (class_ref (position p r.classes) (lost_ref (find q r.lost)))) test
      ∙ (ap (λ o. class_ref o (lost_ref (find q r.lost))) place
      ∙ ap lost_ref (only_first q r.lost k one at passes few_lost))

  -- what the name is known to stand for is what its id stands for
  pub ref-is : (ref : ClassRef) → RefersTo r id ref → ref_of r id ≡ Some ref
  ref-is (refs.Class k) (given, (class, at, named)) = class_by k class (eqb k 62) refl at named
  ref-is (refs.Lost kind) (k, within, is) =
      let one : LostClass = record { name = id; kind = kind } in
      lost_at k one (slice_get-get_or r.lost k one within ∙ ap Some is) refl

pub ref-found : (r : Registry) (id : ℕ) → count_named r id ≤ 1 → (o : Option ClassRef) → MatchOption o (is_given r id ≡ false) (λ ref. RefersTo r id ref) → o ≡ ref_of r id
ref-found r id few None none = sym (ref-none r id (count-not_given r id none))
ref-found r id few (Some ref) refers = sym (ref-is r id few ref refers)
