-- The register after a flag was set, and with one more class or lost name.
use Rattle.std.proofs.Common.{◌≡◌, ◌≢◌, ℕ, zero, suc, ◌+◌, ◌<◌, ◌≤◌, Bool, true, false, cond, ◌||◌, eqb, List, [], ◌∷◌, ◌++◌, length, get_or, Option, Some, None, MatchOption, Contains, ◌⊎◌, inl, inr, refl, sym, ap, ◌∙◌, subst, arith}
use Rattle.std.specs.Prelude.{nat_lt, count_by, slice_get, slice_set, is_some}
use Rattle.std.specs.Ordering.{nat_cmp, is_eq}
use Rattle.std.proofs.Common.{Ordering, Less, Equal, Greater}
use Rattle.std.specs.List.{list_any}
use Rattle.std.specs.BTreeMap.{BTreeMap, get, Updates, is_at}
use Rattle.std.proofs.lemmas.Bool.{false≢true, or_left, or_right}
use Rattle.std.proofs.lemmas.Bool.Decides.{Decides-eqb, nat_tests}
use Rattle.std.proofs.lemmas.List.Elements.{Contains-append_left, Contains-push}
use Rattle.std.proofs.lemmas.List.Folds.{list_any-append, list_any_at}
use Rattle.std.proofs.lemmas.Map.Lookups.{exact_unsigned}
use Rattle.std.proofs.lemmas.List.Sums.{sum_by-cons, sum_by-set, sum_by_push}
use Rattle.std.proofs.lemmas.Option.{same_Some, slice_get-get_or, slice_get_within, get_or_from_slice_get}
use Rattle.pfs_lemmas.proofs.Bools.{or_false}
use Rattle.pfs_rows.specs.declared.limits.Limits.{Limits}
use Rattle.pfs_rows.specs.Limits.{AreInRange}
use Rattle.pfs_classes.specs.declared.kind.Kind.{Kind}
use Rattle.pfs_classes.specs.declared.kind.Kind.TheVariants.{Mutex, Rwlock, Cond, File, Socket, TableIo, TableLock, Stage, Statement, Transaction}
use Rattle.pfs_classes.specs.declared.classes.Class.{Class}
use Rattle.pfs_classes.specs.declared.classes.LostClass.{LostClass}
use Rattle.pfs_classes.specs.declared.classes.ClassRef.{ClassRef}
use Rattle.pfs_classes.specs.declared.classes.ClassRef.TheVariants as refs
use Rattle.pfs_classes.specs.Kinds.{kind_order, same_kind, room_of}
use Rattle.pfs_classes.specs.Registry.{Registry, IsId, class_at, is_given, RefersTo, count_of, has_room, Keeps}

-- each class is of one kind
one_of_kinds : (kind : Kind) → 1 ≡ cond (same_kind kind Mutex) 1 0 + cond (same_kind kind Rwlock) 1 0 + cond (same_kind kind Cond) 1 0 + cond (same_kind kind File) 1 0 + cond (same_kind kind Socket) 1 0 + cond (same_kind kind TableIo) 1 0 + cond (same_kind kind TableLock) 1 0 + cond (same_kind kind Stage) 1 0 + cond (same_kind kind Statement) 1 0 + cond (same_kind kind Transaction) 1 0
one_of_kinds Mutex = refl
one_of_kinds _ = refl

-- the classes are those of all kinds together
length-by_kinds : (classes : List Class) → length classes ≡ count_of Mutex classes + count_of Rwlock classes + count_of Cond classes + count_of File classes + count_of Socket classes + count_of TableIo classes + count_of TableLock classes + count_of Stage classes + count_of Statement classes + count_of Transaction classes
length-by_kinds [] = refl
length-by_kinds (class ∷ classes) =
    let of_kind = λ (kind : Kind). sum_by-cons (λ (one : Class). cond (same_kind one.kind kind) 1 0) class classes in
    omega (arith, one_of_kinds class.kind, length-by_kinds classes, of_kind Mutex, of_kind Rwlock, of_kind Cond, of_kind File, of_kind Socket, of_kind TableIo, of_kind TableLock, of_kind Stage, of_kind Statement, of_kind Transaction)

-- within the limits there are at most 62
pub few_within : (limits : Limits) (classes : List Class) → AreInRange limits → ((kind : Kind) → count_of kind classes ≤ room_of limits kind) → length classes ≤ 62
few_within limits classes range within = omega (arith, length-by_kinds classes, within Mutex, within Rwlock, within Cond, within File, within Socket, within TableIo, within TableLock, within Stage, within Statement, within Transaction, range.mutex_classes, range.rwlock_classes, range.cond_classes, range.file_classes, range.socket_classes, range.stage_classes, range.statement_classes)

-- a class in the place of one with the same name and kind
list_any-set : (p : Class → Bool) (xs : List Class) (i : ℕ) (y d : Class) → p y ≡ p (get_or xs i d) → list_any p (slice_set xs i y) ≡ list_any p xs
list_any-set p [] i y d e = refl
list_any-set p (x ∷ xs) zero y d e = ap (λ b. b || list_any p xs) e
list_any-set p (x ∷ xs) (suc i) y d e = ap (λ b. p x || b) (list_any-set p xs i y d e)

count_by-set : (p : Class → Bool) (xs : List Class) (i : ℕ) (y d : Class) → i < length xs → p y ≡ p (get_or xs i d) → count_by p (slice_set xs i y) ≡ count_by p xs
count_by-set p xs i y d lt e =
    omega (arith, sum_by-set (λ x. cond (p x) 1 0) xs i y d lt, ap {B = ℕ} (λ b. cond b 1 0) e)

slice_get-set_same : (xs : List Class) (i : ℕ) (y : Class) → i < length xs → slice_get (slice_set xs i y) i ≡ Some y
slice_get-set_same [] i y lt = absurd (omega arith)
slice_get-set_same (x ∷ xs) zero y lt = refl
slice_get-set_same (x ∷ xs) (suc i) y lt = slice_get-set_same xs i y (omega arith)

slice_get-set_other : (xs : List Class) (i j : ℕ) (y : Class) → j ≢ i → slice_get (slice_set xs i y) j ≡ slice_get xs j
slice_get-set_other [] i j y h = refl
slice_get-set_other (x ∷ xs) zero zero y h = absurd (h refl)
slice_get-set_other (x ∷ xs) zero (suc j) y h = refl
slice_get-set_other (x ∷ xs) (suc i) zero y h = refl
slice_get-set_other (x ∷ xs) (suc i) (suc j) y h = slice_get-set_other xs i j y (λ e. h (ap suc e))

length-set_class : (xs : List Class) (i : ℕ) (y : Class) → length (slice_set xs i y) ≡ length xs
length-set_class [] i y = refl
length-set_class (x ∷ xs) zero y = refl
length-set_class (x ∷ xs) (suc i) y = ap suc (length-set_class xs i y)

slice_get-push_old : (xs : List Class) (y : Class) (i : ℕ) → i < length xs → slice_get (xs ++ y ∷ []) i ≡ slice_get xs i
slice_get-push_old [] y i lt = absurd (omega arith)
slice_get-push_old (x ∷ xs) y zero lt = refl
slice_get-push_old (x ∷ xs) y (suc i) lt = slice_get-push_old xs y i (omega arith)

slice_get-push_new : (xs : List Class) (y : Class) → slice_get (xs ++ y ∷ []) (length xs) ≡ Some y
slice_get-push_new [] y = refl
slice_get-push_new (x ∷ xs) y = slice_get-push_new xs y

length-push_class : (xs : List Class) (y : Class) → length (xs ++ y ∷ []) ≡ length xs + 1
length-push_class [] y = refl
length-push_class (x ∷ xs) y = omega (arith, length-push_class xs y)

count_by-push : (p : Class → Bool) (xs : List Class) (y : Class) → count_by p (xs ++ y ∷ []) ≡ count_by p xs + cond (p y) 1 0
count_by-push p xs y = sum_by_push (λ x. cond (p x) 1 0) xs y

-- what a name stood for in the first register it stands for in the second too
pub record Extends (r s : Registry) : Type 0 where
  pub ids : (id : ℕ) → IsId r id → IsId s id
  pub classes : (id : ℕ) (class : Class) → IsId r id → class_at r id ≡ Some class → (now : Class) × (class_at s id ≡ Some now) × (now.name ≡ class.name)
  pub lost : (one : LostClass) → Contains r.lost one → Contains s.lost one

refers_after : (r s : Registry) → Extends r s → (name : ℕ) (ref : ClassRef) → RefersTo r name ref → RefersTo s name ref
refers_after r s extends name (refs.Class id) (given, (class, at, is)) =
    let now = extends.classes id class given at in
    (extends.ids id given, (now.0, now.1, now.2 ∙ is))
refers_after r s extends name (refs.Lost kind) one = extends.lost (record { name = name; kind = kind }) one

finds_after : (r s : Registry) → Extends r s → (name : ℕ) (o : Option ClassRef) → is_given s name ≡ is_given r name → MatchOption o (is_given r name ≡ false) (λ ref. RefersTo r name ref) → MatchOption o (is_given s name ≡ false) (λ ref. RefersTo s name ref)
finds_after r s extends name None same none = same ∙ none
finds_after r s extends name (Some ref) same found = refers_after r s extends name ref found

-- the look-up has a new name, and each other as before
pub record Updated (before after : BTreeMap ℕ ClassRef) (name : ℕ) (ref : ClassRef) : Type 0 where
  pub here : get nat_cmp after name ≡ Some ref
  pub others : (other : ℕ) → other ≢ name → get nat_cmp after other ≡ get nat_cmp before other

finds_updated : (r s : Registry) (before after : BTreeMap ℕ ClassRef) (name : ℕ) (ref : ClassRef) → Extends r s → Updated before after name ref → RefersTo s name ref
    → ((other : ℕ) → other ≢ name → is_given s other ≡ is_given r other)
    → ((other : ℕ) → MatchOption (get nat_cmp before other) (is_given r other ≡ false) (λ one. RefersTo r other one))
    → (other : ℕ) (same : Bool) → eqb name other ≡ same → MatchOption (get nat_cmp after other) (is_given s other ≡ false) (λ one. RefersTo s other one)
finds_updated r s before after name ref extends updated refers given agrees other true is =
    let e : name ≡ other = (Decides-eqb name other).0 is in
    subst (λ (q : ℕ). MatchOption (get nat_cmp after q) (is_given s q ≡ false) (λ one. RefersTo s q one)) e
    (subst (λ (o : Option ClassRef). MatchOption o (is_given s name ≡ false) (λ one. RefersTo s name one)) (sym updated.here) refers)
finds_updated r s before after name ref extends updated refers given agrees other false differs =
    let ne : other ≢ name = λ e. false≢true (sym differs ∙ (Decides-eqb name other).1 (sym e)) in
    subst (λ (o : Option ClassRef). MatchOption o (is_given s other ≡ false) (λ one. RefersTo s other one)) (sym (updated.others other ne))
    (finds_after r s extends other (get nat_cmp before other) (given other ne) (agrees other))

-- the same class, where an id is looked up
transaction_at : (class before old : Class) (b : Bool) (rest : Option Class) → class.name ≡ before.name → cond b (Some before) rest ≡ Some old → (now : Class) × (cond b (Some class) rest ≡ Some now) × (now.name ≡ old.name)
transaction_at class before old true rest named at = (class, refl, named ∙ ap (λ (one : Class). one.name) (same_Some before old at))
transaction_at class before old false rest named at = (old, at, refl)

-- a class with other flags in the place of `transaction`
pub keeps_transaction : (r : Registry) (found : BTreeMap ℕ ClassRef) (class : Class) → class.name ≡ r.transaction.name → Keeps r found → Keeps (record r { transaction = class }) found
keeps_transaction r found class named keeps =
    let s : Registry = record r { transaction = class } in
    let extends : Extends r s = record {
      ids = λ id given. given;
      classes = λ id old given at. transaction_at class r.transaction old (eqb id 62) (slice_get r.classes id) named at;
      lost = λ one has. has;
    } in
    record {
      agrees = λ name. finds_after r s extends name (get nat_cmp found name) (ap (λ n. eqb n name || (list_any (λ one. eqb one.name name) r.classes || list_any (λ lost. eqb lost.name name) r.lost)) named) (keeps.agrees name);
      in_range = keeps.in_range;
      within = keeps.within;
    }

class_set_at_place : (xs : List Class) (class d old : Class) (at id : ℕ) (same : Bool) → eqb id at ≡ same → class.name ≡ (get_or xs at d).name → at < length xs → slice_get xs id ≡ Some old
    → (now : Class) × (slice_get (slice_set xs at class) id ≡ Some now) × (now.name ≡ old.name)
class_set_at_place xs class d old at id true e named lt is =
    let here : id ≡ at = (Decides-eqb id at).0 e in
    let before : get_or xs at d ≡ old = same_Some (get_or xs at d) old (sym (slice_get-get_or xs at d lt) ∙ (ap (slice_get xs) (sym here) ∙ is)) in
    (class, ap (slice_get (slice_set xs at class)) here ∙ slice_get-set_same xs at class lt, named ∙ ap (λ (one : Class). one.name) before)
class_set_at_place xs class d old at id false e named lt is =
    (old, slice_get-set_other xs at id class (λ here. false≢true (sym e ∙ (Decides-eqb id at).1 here)) ∙ is, refl)

class_set_at : (xs : List Class) (first class d old : Class) (at id : ℕ) (b : Bool) → class.name ≡ (get_or xs at d).name → at < length xs → cond b (Some first) (slice_get xs id) ≡ Some old
    → (now : Class) × (cond b (Some first) (slice_get (slice_set xs at class) id) ≡ Some now) × (now.name ≡ old.name)
class_set_at xs first class d old at id true named lt is = (old, is, refl)
class_set_at xs first class d old at id false named lt is =
    class_set_at_place xs class d old at id (eqb id at) refl named lt is

-- a class with other flags in the place of one
pub keeps_class : (r : Registry) (found : BTreeMap ℕ ClassRef) (at : ℕ) (class d : Class) → class.name ≡ (get_or r.classes at d).name → class.kind ≡ (get_or r.classes at d).kind → at < length r.classes → Keeps r found → Keeps (record r { classes = slice_set r.classes at class }) found
keeps_class r found at class d named of_kind lt keeps =
    let s : Registry = record r { classes = slice_set r.classes at class } in
    let extends : Extends r s = record {
      ids = λ id given. elim given [ inl below ↦ inl (rw length-set_class below) | inr last ↦ inr last ];
      classes = λ id old given is. class_set_at r.classes r.transaction class d old at id (eqb id 62) named lt is;
      lost = λ one has. has;
    } in
    record {
      agrees = λ name. finds_after r s extends name (get nat_cmp found name)
          (ap (λ b. eqb r.transaction.name name || (b || list_any (λ lost. eqb lost.name name) r.lost)) (list_any-set (λ one. eqb one.name name) r.classes at class d (ap (λ n. eqb n name) named)))
          (keeps.agrees name);
      in_range = keeps.in_range;
      within = λ kind. subst (λ (n : ℕ). n ≤ room_of r.limits kind) (sym (count_by-set (λ one. same_kind one.kind kind) r.classes at class d lt (ap (λ k. same_kind k kind) of_kind))) (keeps.within kind);
    }

class_push_at : (xs : List Class) (class first old : Class) (id : ℕ) → ((id < length xs) ⊎ (id ≡ 62)) → cond (eqb id 62) (Some first) (slice_get xs id) ≡ Some old
    → (now : Class) × (cond (eqb id 62) (Some first) (slice_get (xs ++ class ∷ []) id) ≡ Some now) × (now.name ≡ old.name)
class_push_at xs class first old id (inl below) is = (old, rw (slice_get-push_old xs class id below) is, refl)
class_push_at xs class first old id (inr last) is = (old, ap (λ n. cond (eqb n 62) (Some first) (slice_get (xs ++ class ∷ []) n)) last ∙ (sym (ap (λ n. cond (eqb n 62) (Some first) (slice_get xs n)) last) ∙ is), refl)

not_62 : (n : ℕ) → n < 62 → eqb n 62 ≡ false
not_62 n lt = grind (arith, nat_tests)

differs : (a b : ℕ) → b ≢ a → eqb a b ≡ false
differs a b ne = grind (arith, nat_tests)

room_left : (count room : ℕ) → nat_lt count room ≡ true → count + 1 ≤ room
room_left count room h = grind (arith, nat_tests)

kinds : List Kind
kinds = Mutex ∷ Rwlock ∷ Cond ∷ File ∷ Socket ∷ TableIo ∷ TableLock ∷ Stage ∷ Statement ∷ Transaction ∷ []

kind_in_order : (kind : Kind) → slice_get kinds (kind_order kind) ≡ Some kind
unfolding kinds
kind_in_order Mutex = refl
kind_in_order _ = refl

kind-from_same : (a b : Kind) → same_kind a b ≡ true → a ≡ b
kind-from_same a b h =
    same_Some a b (sym (kind_in_order a) ∙ (ap (slice_get kinds) ((Decides-eqb (kind_order a) (kind_order b)).0 h) ∙ kind_in_order b))

within_push : (r : Registry) (class : Class) (kind : Kind) (same : Bool) → same_kind class.kind kind ≡ same → has_room r class.kind ≡ true → count_of kind r.classes ≤ room_of r.limits kind
    → count_of kind (r.classes ++ class ∷ []) ≤ room_of r.limits kind
within_push r class kind true e room within =
    let one : has_room r kind ≡ true = ap (has_room r) (sym (kind-from_same class.kind kind e)) ∙ room in
    omega (arith, count_by-push (λ (one : Class). same_kind one.kind kind) r.classes class, room_left (count_of kind r.classes) (room_of r.limits kind) one, ap {B = ℕ} (λ b. cond b 1 0) e)
within_push r class kind false e room within =
    omega (arith, count_by-push (λ (one : Class). same_kind one.kind kind) r.classes class, ap {B = ℕ} (λ b. cond b 1 0) e)

any_push : (p : Class → Bool) (xs : List Class) (y : Class) → p y ≡ false → list_any p (xs ++ y ∷ []) ≡ list_any p xs
any_push p xs y e = list_any-append p xs (y ∷ []) ∙ rw e (or_false (list_any p xs))

-- one more class of a kind that has room
pub keeps_push : (r : Registry) (before after : BTreeMap ℕ ClassRef) (class : Class) → has_room r class.kind ≡ true → Updated before after class.name (refs.Class (length r.classes)) → Keeps r before → Keeps (record r { classes = r.classes ++ class ∷ [] }) after
keeps_push r before after class room updated keeps =
    let s : Registry = record r { classes = r.classes ++ class ∷ [] } in
    let within : (kind : Kind) → count_of kind s.classes ≤ room_of r.limits kind = λ kind. within_push r class kind (same_kind class.kind kind) refl room (keeps.within kind) in
    let few : length s.classes ≤ 62 = few_within r.limits s.classes keeps.in_range within in
    let longer : length s.classes ≡ length r.classes + 1 = length-push_class r.classes class in
    let low : length r.classes < 62 = omega arith in
    let extends : Extends r s = record {
      ids = λ id given. elim given [ inl below ↦ inl (omega arith) | inr last ↦ inr last ];
      classes = λ id old given is. class_push_at r.classes class r.transaction old id given is;
      lost = λ one has. has;
    } in
    let refers : RefersTo s class.name (refs.Class (length r.classes)) = (inl (omega arith), (class, rw (not_62 (length r.classes) low) (slice_get-push_new r.classes class), refl)) in
    record {
      agrees = λ name. finds_updated r s before after class.name (refs.Class (length r.classes)) extends updated refers
          (λ other ne. ap (λ b. eqb r.transaction.name other || (b || list_any (λ lost. eqb lost.name other) r.lost)) (any_push (λ one. eqb one.name other) r.classes class (differs class.name other ne)))
          keeps.agrees name (eqb class.name name) refl;
      in_range = keeps.in_range;
      within = within;
    }

lost_push : (p : LostClass → Bool) (xs : List LostClass) (y : LostClass) → p y ≡ false → list_any p (xs ++ y ∷ []) ≡ list_any p xs
lost_push p xs y e = list_any-append p xs (y ∷ []) ∙ rw e (or_false (list_any p xs))

contains_push : (xs : List LostClass) (y one : LostClass) → Contains xs one → Contains (xs ++ y ∷ []) one
contains_push xs y one has = Contains-append_left xs (y ∷ []) one has

-- one more lost name
pub keeps_lost : (r : Registry) (before after : BTreeMap ℕ ClassRef) (name : ℕ) (kind : Kind) → Updated before after name (refs.Lost kind) → Keeps r before → Keeps (record r { lost = r.lost ++ record { name = name; kind = kind } ∷ [] }) after
keeps_lost r before after name kind updated keeps =
    let one : LostClass = record { name = name; kind = kind } in
    let s : Registry = record r { lost = r.lost ++ one ∷ [] } in
    let extends : Extends r s = record {
      ids = λ id given. given;
      classes = λ id old given is. (old, is, refl);
      lost = λ other has. contains_push r.lost one other has;
    } in
    record {
      agrees = λ other. finds_updated r s before after name (refs.Lost kind) extends updated (Contains-push r.lost one)
          (λ third ne. ap (λ b. eqb r.transaction.name third || (list_any (λ class. eqb class.name third) r.classes || b)) (lost_push (λ lost. eqb lost.name third) r.lost one (differs name third ne)))
          keeps.agrees other (eqb name other) refl;
      in_range = keeps.in_range;
      within = keeps.within;
    }

eq_no : (o : Ordering) → o ≢ Equal → is_eq o ≡ false
eq_no Less h = refl
eq_no Equal h = absurd (h refl)
eq_no Greater h = refl

is_at_other : (name other : ℕ) → other ≢ name → is_at (nat_cmp name) other ≡ false
is_at_other name other ne = eq_no (nat_cmp name other) (λ e. ne (sym (exact_unsigned name other e)))

-- what an insert does to the look-up
pub updated_from : (before after : BTreeMap ℕ ClassRef) (name : ℕ) (ref : ClassRef) → Updates nat_cmp before after name (Some ref) → Updated before after name ref
updated_from before after name ref sets = record {
  here = sets.1;
  others = λ other ne. sets.2 other (is_at_other name other ne);
}

given_class : (r : Registry) (name id : ℕ) (class : Class) (b : Bool) → cond b (Some r.transaction) (slice_get r.classes id) ≡ Some class → class.name ≡ name → is_given r name ≡ true
given_class r name id class true at is =
    let e : eqb r.transaction.name name ≡ true = (Decides-eqb r.transaction.name name).1 (ap (λ (one : Class). one.name) (same_Some r.transaction class at) ∙ is) in
    rw e refl
given_class r name id class false at is =
    let here : list_any (λ (one : Class). eqb one.name name) r.classes ≡ true =
    list_any_at (λ (one : Class). eqb one.name name) r.classes id class (slice_get_within r.classes id class at)
    ((Decides-eqb _ name).1 (ap (λ (one : Class). one.name) (get_or_from_slice_get r.classes id class class at) ∙ is)) in
    or_right (eqb r.transaction.name name) _ (or_left _ (list_any (λ (lost : LostClass). eqb lost.name name) r.lost) here)

-- a name that stands for something was registered or lost
pub given_from_refers : (r : Registry) (name : ℕ) (ref : ClassRef) → RefersTo r name ref → is_given r name ≡ true
given_from_refers r name (refs.Class id) (_, (class, at, is)) = given_class r name id class (eqb id 62) at is
given_from_refers r name (refs.Lost kind) (k, within, is) =
    let one : LostClass = record { name = name; kind = kind } in
    let here : list_any (λ (lost : LostClass). eqb lost.name name) r.lost ≡ true =
    list_any_at (λ (lost : LostClass). eqb lost.name name) r.lost k one within ((Decides-eqb _ name).1 (ap (λ (lost : LostClass). lost.name) is)) in
    or_right (eqb r.transaction.name name) _ (or_right (list_any (λ (class : Class). eqb class.name name) r.classes) _ here)

pub known_is : (r : Registry) (name : ℕ) (o : Option ClassRef) → MatchOption o (is_given r name ≡ false) (λ ref. RefersTo r name ref) → is_some o ≡ is_given r name
known_is r name None none = sym none
known_is r name (Some ref) refers = sym (given_from_refers r name ref refers)
