-- A deed keeps its order where the highest of those before it is by no greater action; and where all keep it, the
-- actions never fall.
use Rattle.std.proofs.Common.{◌≡◌, refl, ℕ, zero, suc, ◌+◌, ◌<◌, ◌≤◌, ◌==◌, nat_lt, Bool, true, false, ◌&&◌, ◌||◌, cond, List, [], ◌∷◌, sym, ◌∙◌, ap, subst, ◌⊎◌, inl, inr, arith, Some, None}
use Rattle.std.specs.Prelude.{slice_get}
use Rattle.std.proofs.lemmas.Bool.{cases_lt, eqb-true}
use Rattle.std.proofs.lemmas.Bool.Decides.{nat_tests}
use Rattle.std.proofs.lemmas.Option.{same_Some}
use Rattle.pfs_model.specs.Actions.{Deed, IsAmong, NeverFall}
use Rattle.pfs_check_faults.specs.ActionFaults.{IsPredecessor, Precedes}
use Rattle.pfs_check_falls.specs.declared.falls.PlacedDeed.{PlacedDeed}
use Rattle.pfs_check_falls.specs.DeedOrder.{AreAlike, Before, IsFloor, IsHighest, level_of}
use Rattle.pfs_check_falls.specs.FallenDeeds.{FallLaw, KeepsOrder, deed_of, deeds_in}
use Rattle.pfs_check_falls.proofs.DeedLevels.{alike_back, alike_before, alike_self, before_before, before_of, never_both, not_alike_before, precedes_of, releases_same}

pub among_deed : (deeds : List PlacedDeed) (i : ℕ) (one : PlacedDeed) → slice_get deeds i ≡ Some one → IsAmong (deed_of one) (deeds_in deeds)
among_deed [] i one g = absurd (cc)
among_deed (x ∷ xs) zero one g = inl (ap deed_of (same_Some x one g))
among_deed (x ∷ xs) (suc i) one g = inr (among_deed xs i one g)

pub record IsOneOf (deeds : List PlacedDeed) (d : Deed) : Type 0 where
  pub at : ℕ
  pub one : PlacedDeed
  pub there : slice_get deeds at ≡ Some one
  pub is : deed_of one ≡ d

pub one_of : (deeds : List PlacedDeed) (d : Deed) → IsAmong d (deeds_in deeds) → IsOneOf deeds d
one_of [] d i = absurd i
one_of (x ∷ xs) d (inl e) = record { at = 0; one = x; there = refl; is = e }
one_of (x ∷ xs) d (inr i) = let o : IsOneOf xs d = one_of xs d i in record { at = suc o.at; one = o.one; there = o.there; is = o.is }

before_one : (first next : Deed) (one : PlacedDeed) → deed_of one ≡ first → Precedes first next → Before (deed_of one) next
before_one first next one e p = subst (λ z. Before z next) (sym e) (before_of first next p)

pub keeps_none : (deeds : List PlacedDeed) (next : Deed) → IsFloor deeds next None → KeepsOrder (deeds_in deeds) next
keeps_none deeds next none first p =
    let o : IsOneOf deeds first = one_of deeds first p.there in absurd (none o.at o.one o.there (before_one first next o.one o.is p.before))

pub keeps_high : (deeds : List PlacedDeed) (next : Deed) (high : PlacedDeed) → IsHighest deeds next high → high.action ≤ next.action → KeepsOrder (deeds_in deeds) next
keeps_high deeds next high is low first p = on (is.others o.at o.one o.there (before_one first next o.one o.is p.before)) where
  o : IsOneOf deeds first
  o = one_of deeds first p.there

  on : Before (deed_of o.one) (deed_of high) ⊎ (AreAlike (deed_of o.one) (deed_of high) × (o.one.action ≤ high.action)) → first.action ≤ next.action
  on (inl b) =
      absurd (p.none (deed_of high) (among_deed deeds is.at high is.there)
      (precedes_of first (deed_of high) (subst (λ z. Before z (deed_of high)) o.is b)) (precedes_of (deed_of high) next is.before))
  on (inr a) =
      let e : o.one.action ≡ first.action = ap (λ (z : Deed). z.action) o.is in
      let l : o.one.action ≤ high.action = a.1 in
      omega (arith, e, l, low)

pub falls_high : (deeds : List PlacedDeed) (next : Deed) (high : PlacedDeed) → IsHighest deeds next high → next.action < high.action → KeepsOrder (deeds_in deeds) next → ⊥
falls_high deeds next high is less keeps = let l : high.action ≤ next.action = keeps (deed_of high) before in omega (arith, l, less) where
  none : (other : Deed) → IsAmong other (deeds_in deeds) → Precedes (deed_of high) other → Precedes other next → ⊥
  none other i p q = on (is.others o.at o.one o.there (before_one other next o.one o.is q)) where
    o : IsOneOf deeds other
    o = one_of deeds other i

    behind : Before (deed_of high) (deed_of o.one)
    behind = subst (Before (deed_of high)) (sym o.is) (before_of (deed_of high) other p)

    on : Before (deed_of o.one) (deed_of high) ⊎ (AreAlike (deed_of o.one) (deed_of high) × (o.one.action ≤ high.action)) → ⊥
    on (inl b) = never_both (deed_of o.one) (deed_of high) b behind
    on (inr a) = not_alike_before (deed_of o.one) (deed_of high) a.0 behind

  before : IsPredecessor (deeds_in deeds) (deed_of high) next
  before = record { there = among_deed deeds is.at high is.there; before = precedes_of (deed_of high) next is.before; none = none }

-- where the actions never fall, each deed keeps its order
pub never_kept : (deeds : List Deed) (next : Deed) → IsAmong next deeds → NeverFall deeds → KeepsOrder deeds next
never_kept deeds next i never first p = on p.before.1 where
  on : (first.version < next.version) ⊎ ((first.version ≡ next.version) × (first.releases ≡ false) × (next.releases ≡ true))
      ⊎ ((first.version ≡ next.version) × (first.releases ≡ true) × (next.releases ≡ true) × (first.action < next.action)) → first.action ≤ next.action
  on (inl l) = never first next p.there i (p.before.0, inl l)
  on (inr (inl h)) = never first next p.there i (p.before.0, inr h)
  on (inr (inr h)) = let l : first.action < next.action = h.3 in omega (arith, l)

-- a test of two deeds
before_test : Deed → Deed → Bool
before_test a b = (a.row == b.row) && (nat_lt (level_of a) (level_of b) || ((level_of a == level_of b) && (a.releases && nat_lt a.action b.action)))

test_is : (a b : Deed) → before_test a b ≡ true → Before a b
unfolding before_test
test_is a b t = row (a.row == b.row) refl t where
  level : a.row ≡ b.row → (t : Bool) → nat_lt (level_of a) (level_of b) ≡ t → (t || ((level_of a == level_of b) && (a.releases && nat_lt a.action b.action))) ≡ true → Before a b
  level r true q h = (r, inl (grind (arith, nat_tests)))
  level r false q h = even (level_of a == level_of b) a.releases (nat_lt a.action b.action) refl refl refl h where
    even : (u v w : Bool) → (level_of a == level_of b) ≡ u → a.releases ≡ v → nat_lt a.action b.action ≡ w → (u && (v && w)) ≡ true → Before a b
    even true true true e f l h = (r, inr (eqb-true (level_of a) (level_of b) e, f, grind (arith, nat_tests)))
    even true true false e f l h = absurd (cc)
    even true false w e f l h = absurd (cc)
    even false v w e f l h = absurd (cc)

  row : (t : Bool) → (a.row == b.row) ≡ t → (t && (nat_lt (level_of a) (level_of b) || ((level_of a == level_of b) && (a.releases && nat_lt a.action b.action)))) ≡ true → Before a b
  row true q h = level (eqb-true a.row b.row q) (nat_lt (level_of a) (level_of b)) refl h
  row false q h = absurd (cc)

test_of : (a b : Deed) → Before a b → before_test a b ≡ true
unfolding before_test
test_of a b (row, inl low) = by (a.row == b.row) (nat_lt (level_of a) (level_of b)) (same_test a.row b.row row) (less_test (level_of a) (level_of b) low) where
  same_test : (m n : ℕ) → m ≡ n → (m == n) ≡ true
  same_test m n e = grind (arith, nat_tests)

  less_test : (m n : ℕ) → m < n → nat_lt m n ≡ true
  less_test m n e = grind (arith, nat_tests)

  by : (t u : Bool) → t ≡ true → u ≡ true → (t && (u || ((level_of a == level_of b) && (a.releases && nat_lt a.action b.action)))) ≡ true
  by true true p q = refl
  by true false p q = absurd (cc)
  by false u p q = absurd (cc)
test_of a b (row, inr h) =
    by (a.row == b.row) (nat_lt (level_of a) (level_of b)) (level_of a == level_of b) a.releases (nat_lt a.action b.action)
    (same_test a.row b.row row) (same_test (level_of a) (level_of b) h.0) h.1 (less_test a.action b.action h.2) where
      same_test : (m n : ℕ) → m ≡ n → (m == n) ≡ true
      same_test m n e = grind (arith, nat_tests)

      less_test : (m n : ℕ) → m < n → nat_lt m n ≡ true
      less_test m n e = grind (arith, nat_tests)

      by : (t u v w x : Bool) → t ≡ true → v ≡ true → w ≡ true → x ≡ true → (t && (u || (v && (w && x)))) ≡ true
      by true true v w x p q r s = refl
      by true false true true true p q r s = refl
      by true false true true false p q r s = absurd (cc)
      by true false true false x p q r s = absurd (cc)
      by true false false w x p q r s = absurd (cc)
      by false u v w x p q r s = absurd (cc)

two_ways : (b : Bool) → b ≡ false → b ≡ true → ⊥
two_ways b p q = cc

either : (a b : Deed) → Before a b ⊎ (Before a b → ⊥)
either a b = on (before_test a b) refl where
  on : (t : Bool) → before_test a b ≡ t → Before a b ⊎ (Before a b → ⊥)
  on true q = inl (test_is a b q)
  on false q = inr (λ h. two_ways (before_test a b) q (test_of a b h))

-- of two deeds of a row one is before the other, or they are alike
compare : (a b : Deed) → a.row ≡ b.row → Before a b ⊎ Before b a ⊎ AreAlike a b
compare a b row = on (cases_lt (level_of a) (level_of b)) (cases_lt (level_of b) (level_of a)) where
  even : level_of a ≡ level_of b → (r : Bool) → a.releases ≡ r → Before a b ⊎ Before b a ⊎ AreAlike a b
  even e false q = inr (inr (record { row = row; level = e; action = λ r. absurd (two_ways a.releases q r) }))
  even e true q = by (cases_lt a.action b.action) (cases_lt b.action a.action) where
    other : b.releases ≡ true
    other = sym (releases_same a b e) ∙ q

    by : (a.action < b.action) ⊎ (b.action ≤ a.action) → (b.action < a.action) ⊎ (a.action ≤ b.action) → Before a b ⊎ Before b a ⊎ AreAlike a b
    by (inl l) d = inl (row, inr (e, q, l))
    by (inr l) (inl m) = inr (inl (sym row, inr (sym e, other, m)))
    by (inr l) (inr m) = inr (inr (record { row = row; level = e; action = λ r. omega (arith, l, m) }))

  on : (level_of a < level_of b) ⊎ (level_of b ≤ level_of a) → (level_of b < level_of a) ⊎ (level_of a ≤ level_of b) → Before a b ⊎ Before b a ⊎ AreAlike a b
  on (inl l) d = inl (row, inl l)
  on (inr l) (inl m) = inr (inl (sym row, inl m))
  on (inr l) (inr m) = even (omega (arith, l, m)) a.releases refl

-- of some deeds before one, one that none of them is behind
record IsTop (xs : List Deed) (next : Deed) : Type 0 where
  top : Deed
  there : IsAmong top xs
  before : Before top next
  others : (other : Deed) → IsAmong other xs → Before other next → Before other top ⊎ AreAlike other top

NoneBefore : List Deed → Deed → Type 0
NoneBefore xs next = (other : Deed) → IsAmong other xs → Before other next → ⊥

top_more : (x : Deed) (xs : List Deed) (next : Deed) → Before x next → IsTop xs next → IsTop (x ∷ xs) next
top_more x xs next b t = on (compare x t.top (b.0 ∙ sym t.before.0)) where
  keep : Before x t.top ⊎ AreAlike x t.top → IsTop (x ∷ xs) next
  keep h = record { top = t.top; there = inr t.there; before = t.before; others = others } where
    others : (other : Deed) → IsAmong other (x ∷ xs) → Before other next → Before other t.top ⊎ AreAlike other t.top
    others other (inl e) c = subst (λ z. Before z t.top ⊎ AreAlike z t.top) e h
    others other (inr i) c = t.others other i c

  new : Before t.top x → IsTop (x ∷ xs) next
  new h = record { top = x; there = inl refl; before = b; others = others } where
    others : (other : Deed) → IsAmong other (x ∷ xs) → Before other next → Before other x ⊎ AreAlike other x
    others other (inl e) c = inr (subst (λ z. AreAlike z x) e (alike_self x))
    others other (inr i) c = by (t.others other i c) where
      by : Before other t.top ⊎ AreAlike other t.top → Before other x ⊎ AreAlike other x
      by (inl l) = inl (before_before other t.top x l h)
      by (inr a) = inl (alike_before other t.top x a h)

  on : Before x t.top ⊎ Before t.top x ⊎ AreAlike x t.top → IsTop (x ∷ xs) next
  on (inl h) = keep (inl h)
  on (inr (inl h)) = new h
  on (inr (inr h)) = keep (inr h)

find_top : (xs : List Deed) (next : Deed) → NoneBefore xs next ⊎ IsTop xs next
unfolding NoneBefore
find_top [] next = inl (λ other i b. i)
find_top (x ∷ xs) next = on (either x next) (find_top xs next) where
  on : Before x next ⊎ (Before x next → ⊥) → NoneBefore xs next ⊎ IsTop xs next → NoneBefore (x ∷ xs) next ⊎ IsTop (x ∷ xs) next
  on (inl b) (inr t) = inr (top_more x xs next b t)
  on (inl b) (inl none) = inr (record { top = x; there = inl refl; before = b; others = others }) where
    others : (other : Deed) → IsAmong other (x ∷ xs) → Before other next → Before other x ⊎ AreAlike other x
    others other (inl e) c = inr (subst (λ z. AreAlike z x) e (alike_self x))
    others other (inr i) c = absurd (none other i c)
  on (inr apart) (inl none) = inl all where
    all : (other : Deed) → IsAmong other (x ∷ xs) → Before other next → ⊥
    all other (inl e) c = apart (subst (λ z. Before z next) (sym e) c)
    all other (inr i) c = none other i c
  on (inr apart) (inr t) = inr (record { top = t.top; there = inr t.there; before = t.before; others = others }) where
    others : (other : Deed) → IsAmong other (x ∷ xs) → Before other next → Before other t.top ⊎ AreAlike other t.top
    others other (inl e) c = absurd (apart (subst (λ z. Before z next) (sym e) c))
    others other (inr i) c = t.others other i c

-- how many are before one
many_before : List Deed → Deed → ℕ
many_before [] next = 0
many_before (x ∷ xs) next = cond (before_test x next) 1 0 + many_before xs next

no_more : (xs : List Deed) (a b : Deed) → Before a b → many_before xs a ≤ many_before xs b
unfolding many_before
no_more [] a b h = omega arith
no_more (x ∷ xs) a b h = on (before_test x a) (before_test x b) (λ t. test_of x b (before_before x a b (test_is x a t) h)) (no_more xs a b h) where
  on : (t u : Bool) → (t ≡ true → u ≡ true) → many_before xs a ≤ many_before xs b → cond t 1 0 + many_before xs a ≤ cond u 1 0 + many_before xs b
  on true true f l = omega (arith, l)
  on true false f l = let no : false ≡ true = f refl in absurd (cc)
  on false true f l = omega (arith, l)
  on false false f l = omega (arith, l)

fewer : (xs : List Deed) (a b : Deed) → IsAmong a xs → Before a b → many_before xs a < many_before xs b
unfolding many_before
fewer [] a b i h = absurd i
fewer (x ∷ xs) a b (inl e) h = on (before_test x a) (before_test x b) refl (test_of x b (subst (λ z. Before z b) (sym e) h)) (no_more xs a b h) where
  on : (t u : Bool) → before_test x a ≡ t → u ≡ true → many_before xs a ≤ many_before xs b → cond t 1 0 + many_before xs a < cond u 1 0 + many_before xs b
  on true u t q l = absurd (never_both x x (self t) (self t)) where
    self : before_test x a ≡ true → Before x x
    self t = subst (Before x) (sym e) (test_is x a t)
  on false true t q l = omega (arith, l)
  on false false t q l = absurd (cc)
fewer (x ∷ xs) a b (inr i) h = on (before_test x a) (before_test x b) (λ t. test_of x b (before_before x a b (test_is x a t) h)) (fewer xs a b i h) where
  on : (t u : Bool) → (t ≡ true → u ≡ true) → many_before xs a < many_before xs b → cond t 1 0 + many_before xs a < cond u 1 0 + many_before xs b
  on true true f l = omega (arith, l)
  on true false f l = let no : false ≡ true = f refl in absurd (cc)
  on false true f l = omega (arith, l)
  on false false f l = omega (arith, l)

none_is : (deeds : List Deed) (next : Deed) → NoneBefore deeds next → (other : Deed) → IsAmong other deeds → Before other next → ⊥
unfolding NoneBefore
none_is deeds next none = none

AllKept : List Deed → Type 0
AllKept deeds = (next : Deed) → IsAmong next deeds → KeepsOrder deeds next

-- so what stands before a deed is by no greater action
low_action : (n : ℕ) (deeds : List Deed) (first next : Deed) → many_before deeds next < n → AllKept deeds → IsAmong first deeds → IsAmong next deeds → Before first next → first.action ≤ next.action
unfolding AllKept
low_action zero deeds first next m kept i j b = absurd (omega (arith, m))
low_action (suc n) deeds first next m kept i j b = on (find_top deeds next) (λ top l k c. low_action n deeds first top l kept i k c) where
  down : (t : IsTop deeds next) → many_before deeds t.top < n
  down t = let l : many_before deeds t.top < many_before deeds next = fewer deeds t.top next t.there t.before in omega (arith, l, m)

  -- a top is a predecessor, and so is what is alike
  right_before : (t : IsTop deeds next) (one : Deed) → IsAmong one deeds → AreAlike one t.top → one.action ≤ next.action
  right_before t one k a = kept next j one (record { there = k; before = precedes_of one next (alike_before one t.top next a t.before); none = none }) where
    none : (other : Deed) → IsAmong other deeds → Precedes one other → Precedes other next → ⊥
    none other l p q = by (t.others other l (before_of other next q)) where
      behind : Before t.top other
      behind = alike_before t.top one other (alike_back one t.top a) (before_of one other p)

      by : Before other t.top ⊎ AreAlike other t.top → ⊥
      by (inl c) = never_both other t.top c behind
      by (inr c) = not_alike_before other t.top c behind

  by : (t : IsTop deeds next) → Before first t.top ⊎ AreAlike first t.top → ((top : Deed) → many_before deeds top < n → IsAmong top deeds → Before first top → first.action ≤ top.action) → first.action ≤ next.action
  by t (inr a) go = right_before t first i a
  by t (inl c) go =
      let low : first.action ≤ t.top.action = go t.top (down t) t.there c in
      let top : t.top.action ≤ next.action = right_before t t.top t.there (alike_self t.top) in
      omega (arith, low, top)

  on : NoneBefore deeds next ⊎ IsTop deeds next → ((top : Deed) → many_before deeds top < n → IsAmong top deeds → Before first top → first.action ≤ top.action) → first.action ≤ next.action
  on (inl none) go = absurd (none_is deeds next none first i b)
  on (inr t) go = by t (t.others first i b) go

pub all_kept : (deeds : List Deed) → ((next : Deed) → IsAmong next deeds → KeepsOrder deeds next) → NeverFall deeds
unfolding AllKept
all_kept deeds kept first next i j h =
    low_action (many_before deeds next + 1) deeds first next (omega arith) kept i j (before_of first next (h.0, early h.1)) where
      early : (first.version < next.version) ⊎ ((first.version ≡ next.version) × (first.releases ≡ false) × (next.releases ≡ true))
          → (first.version < next.version) ⊎ ((first.version ≡ next.version) × (first.releases ≡ false) × (next.releases ≡ true))
          ⊎ ((first.version ≡ next.version) × (first.releases ≡ true) × (next.releases ≡ true) × (first.action < next.action))
      early (inl l) = inl l
      early (inr h) = inr (inl h)

pub fall_law : FallLaw
fall_law = record { kept = λ deeds next i never. never_kept deeds next i never; never = all_kept }
