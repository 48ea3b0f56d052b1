-- The kind that a name has, computed.
use Rattle.std.proofs.Common.{◌≡◌, ◌↔◌, ◌≤◌, ◌+◌, inl, inr, ℕ, List, [], ◌∷◌, ◌++◌, length, drop, Bool, true, false, ◌&&◌, Option, Some, None, refl, sym, ap, subst, ◌∙◌, arith, append_assoc, length-append}
use Rattle.std.specs.Prelude.{cond, codes, find, MatchOption, IfSome, IsTrue, nat_eq, nat_le}
use Rattle.std.specs.List.{starts_with}
use Rattle.std.specs.Str.{bytes_eq}
use Rattle.std.proofs.Math.Seq.{drop-append_seam}
use Rattle.std.proofs.lemmas.Bool.{and_from, cases_Bool, false≢true}
use Rattle.std.proofs.lemmas.Bool.Decides.{Decides-eqb, nat_tests}
use Rattle.std.proofs.lemmas.Slice.Eq.{starts_is, bytes_eq-Decides}
use Rattle.pfs_lemmas.proofs.Bools.{and_first, and_second}
use Rattle.pfs_classes.specs.Kinds.{kind_name, are_parts, Fits, is_of_kind, all_kinds, kind_of}
use Rattle.pfs_classes.specs.declared.kind.Kind.{Kind}
use Rattle.pfs_classes.specs.declared.kind.Kind.TheVariants.{Mutex, Rwlock, Cond, File, Socket, TableIo, TableLock, Stage, Statement, Transaction}

abbrev HasParts : List ℕ → List ℕ → Type 0
HasParts name front = (parts : List ℕ) × (name ≡ front ++ 47 ∷ parts) × IsTrue (are_parts parts)

abbrev has_parts : List ℕ → List ℕ → Bool
has_parts name front = starts_with nat_eq name (front ++ 47 ∷ []) && are_parts (drop (length front + 1) name)

one_more : (front : List ℕ) → length (front ++ 47 ∷ []) ≡ length front + 1
one_more front = length-append front (47 ∷ [])

parts_found : (name front : List ℕ) → has_parts name front ≡ true → HasParts name front
parts_found name front h =
    let starts = and_first (starts_with nat_eq name (front ++ 47 ∷ [])) (are_parts (drop (length front + 1) name)) h in
    let rest = and_second (starts_with nat_eq name (front ++ 47 ∷ [])) (are_parts (drop (length front + 1) name)) h in
    let whole : name ≡ (front ++ 47 ∷ []) ++ drop (length (front ++ 47 ∷ [])) name = (starts_is Decides-eqb name (front ++ 47 ∷ []) _ refl).0 starts in
    let at_one : name ≡ (front ++ 47 ∷ []) ++ drop (length front + 1) name = subst (λ n. name ≡ (front ++ 47 ∷ []) ++ drop n name) (one_more front) whole in
    (drop (length front + 1) name, at_one ∙ append_assoc front (47 ∷ []) (drop (length front + 1) name), rest)

found_parts : (name front : List ℕ) → HasParts name front → has_parts name front ≡ true
found_parts name front p =
    let whole : name ≡ (front ++ 47 ∷ []) ++ p.0 = p.1 ∙ sym (append_assoc front (47 ∷ []) p.0) in
    let starts = (starts_is Decides-eqb name (front ++ 47 ∷ []) _ refl).1 p.0 whole in
    let seam : drop (length front + 1) name ≡ p.0 = subst (λ n. drop n name ≡ p.0) (one_more front) (ap (λ l. drop (length (front ++ 47 ∷ [])) l) whole ∙ drop-append_seam (front ++ 47 ∷ []) p.0) in
    and_from (starts_with nat_eq name (front ++ 47 ∷ [])) (are_parts (drop (length front + 1) name)) starts (ap are_parts seam ∙ p.2)

find_passes : (test : Kind → Bool) (kinds : List Kind) (kind : Kind) → find test kinds ≡ Some kind → test kind ≡ true
find_passes test [] kind e = cc
find_passes test (k ∷ kinds) kind e =
    elim (cases_Bool (test k)) [
      | inl t ↦
          let found : cond true (Some k) (find test kinds) ≡ Some kind = subst (λ b. cond b (Some k) (find test kinds) ≡ Some kind) t e in
          let same : k ≡ kind = cc in
          subst (λ x. test x ≡ true) same t
      | inr f ↦ find_passes test kinds kind (subst (λ b. cond b (Some k) (find test kinds) ≡ Some kind) f e)
    ]

none_passes : (test : Kind → Bool) (k : Kind) (kinds : List Kind) → find test (k ∷ kinds) ≡ None → (test k ≡ false) × (find test kinds ≡ None)
none_passes test k kinds e =
    elim (cases_Bool (test k)) [
      | inl t ↦ let found : cond true (Some k) (find test kinds) ≡ None = subst (λ b. cond b (Some k) (find test kinds) ≡ None) t e in cc
      | inr f ↦ (f, subst (λ b. cond b (Some k) (find test kinds) ≡ None) f e)
    ]

abbrev AllFail : (Kind → Bool) → List Kind → Type 0
AllFail test [] = Unit {0}
AllFail test (kind ∷ kinds) = (test kind ≡ false) × AllFail test kinds

all_of_list_fail : (test : Kind → Bool) (kinds : List Kind) → find test kinds ≡ None → AllFail test kinds
all_of_list_fail test [] e = tt
all_of_list_fail test (kind ∷ kinds) e = let here = none_passes test kind kinds e in (here.0, all_of_list_fail test kinds here.1)

-- where none of all kinds passes, no kind does
all_fail : (test : Kind → Bool) → AllFail test all_kinds → (kind : Kind) → test kind ≡ false
all_fail test all Mutex = all.0
all_fail test all Rwlock = all.1.0
all_fail test all Cond = all.1.1.0
all_fail test all File = all.1.1.1.0
all_fail test all Socket = all.1.1.1.1.0
all_fail test all TableIo = all.1.1.1.1.1.0
all_fail test all TableLock = all.1.1.1.1.1.1.0
all_fail test all Stage = all.1.1.1.1.1.1.1.0
all_fail test all Statement = all.1.1.1.1.1.1.1.1.0
all_fail test all Transaction = all.1.1.1.1.1.1.1.1.1.0

abbrev Answers : List ℕ → Option Kind → Type 0
Answers name found = MatchOption found ((kind : Kind) → ¬ Fits name kind) (λ kind. Fits name kind)

-- no other name than `transaction`, and none that is too long, is a kind's where none passes
none_fits : (name : List ℕ) → bytes_eq name (codes "transaction") ≡ false → ((kind : Kind) → HasParts name (kind_name kind) → length name ≤ 128 → ⊥) → (kind : Kind) → ¬ Fits name kind
none_fits name other none kind fits =
    elim fits [
      | inl e ↦ absurd (false≢true (sym other ∙ (bytes_eq-Decides name (codes "transaction")).1 e.0))
      | inr p ↦ none kind (p.0, p.1, p.2) p.3
    ]

long_enough : (name : List ℕ) → nat_le (length name) 128 ≡ true → length name ≤ 128
long_enough name h = grind (arith, nat_tests, h)

too_long : (name : List ℕ) → nat_le (length name) 128 ≡ false → length name ≤ 128 → ⊥
too_long name h low = grind (arith, nat_tests, h, low)

in_parts : (name : List ℕ) → length name ≤ 128 → bytes_eq name (codes "transaction") ≡ false → (found : Option Kind) → find (is_of_kind name) all_kinds ≡ found → Answers name found
in_parts name low other None e =
    none_fits name other (λ kind parts low. false≢true (sym (all_fail (is_of_kind name) (all_of_list_fail (is_of_kind name) all_kinds e) kind) ∙ found_parts name (kind_name kind) parts))
in_parts name low other (Some kind) e =
    let parts = parts_found name (kind_name kind) (find_passes (is_of_kind name) all_kinds kind e) in
    inr (parts.0, parts.1, parts.2, low)

by_length : (name : List ℕ) → bytes_eq name (codes "transaction") ≡ false → (low : Bool) → nat_le (length name) 128 ≡ low → Answers name (cond low (find (is_of_kind name) all_kinds) None)
by_length name other true e = in_parts name (long_enough name e) other (find (is_of_kind name) all_kinds) refl
by_length name other false e = none_fits name other (λ kind parts low. too_long name e low)

by_name : (name : List ℕ) (same : Bool) → bytes_eq name (codes "transaction") ≡ same → Answers name (cond same (Some Transaction) (cond (nat_le (length name) 128) (find (is_of_kind name) all_kinds) None))
by_name name true e = inl ((bytes_eq-Decides name (codes "transaction")).0 e, refl)
by_name name false e = by_length name e (nat_le (length name) 128) refl

-- the kind that is computed is one that the name has, and where none is, it has none
kind_fits : (name : List ℕ) → Answers name (kind_of name)
unfolding kind_of
kind_fits name = by_name name (bytes_eq name (codes "transaction")) refl

same_kinds : (name : List ℕ) (found other : Option Kind) → Answers name found → IfSome found (λ kind. (k : Kind) → Fits name k → k ≡ kind) → Answers name other → found ≡ other
same_kinds name None None a only b = refl
same_kinds name None (Some kind) a only b = absurd (a kind b)
same_kinds name (Some kind) None a only b = absurd (b kind a)
same_kinds name (Some kind) (Some other) a only b = ap Some (sym (only other b))

-- what has a name's one kind, is the kind computed
pub kind_is : (name : List ℕ) (found : Option Kind) → MatchOption found ((kind : Kind) → ¬ Fits name kind) (λ kind. Fits name kind) → IfSome found (λ kind. (k : Kind) → Fits name k → k ≡ kind) → found ≡ kind_of name
kind_is name found a only = same_kinds name found (kind_of name) a only (kind_fits name)

fits_computed : (name : List ℕ) (found : Option Kind) → Answers name found → (kind : Kind) → found ≡ Some kind → Fits name kind
fits_computed name None a kind e = cc
fits_computed name (Some k) a kind e = let same : k ≡ kind = cc in subst (λ (x : Kind). Fits name x) same a

computed_fits : ((name : List ℕ) (a b : Kind) → Fits name a → Fits name b → a ≡ b) → (name : List ℕ) (found : Option Kind) → Answers name found → (kind : Kind) → Fits name kind → found ≡ Some kind
computed_fits one name None a kind fits = absurd (a kind fits)
computed_fits one name (Some k) a kind fits = ap Some (one name k kind a fits)

-- a kind is the one computed exactly where the name has it
pub kind_is_exact : ((name : List ℕ) (a b : Kind) → Fits name a → Fits name b → a ≡ b) → (name : List ℕ) (kind : Kind) → kind_of name ≡ Some kind ↔ Fits name kind
kind_is_exact one name kind = (fits_computed name (kind_of name) (kind_fits name) kind, computed_fits one name (kind_of name) (kind_fits name) kind)
