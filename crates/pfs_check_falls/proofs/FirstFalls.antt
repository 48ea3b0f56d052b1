-- The least place of a deed that falls, one deed after another; and the same of deeds in any order.
use Rattle.std.proofs.Common.{◌≡◌, refl, ℕ, zero, suc, ◌+◌, ◌*◌, ◌-◌, ◌<◌, ◌≤◌, ◌==◌, min, nat_lt, get_or, [], ◌∷◌, Bool, true, false, cond, List, length, sym, ◌∙◌, ap, subst, ◌⊎◌, inl, inr, arith, add-one, Option, Some, None}
use Rattle.std.specs.Prelude.{slice_get}
use Rattle.std.specs.List.{Contains}
use Rattle.std.specs.List.Sorted.{IsPermutation, IsSorted}
use Rattle.std.specs.Ordering.{bool_cmp, is_lt, nat_cmp, ordering_then}
use Rattle.std.specs.declared.cmp.Ordering.{Ordering}
use Rattle.std.specs.declared.cmp.Ordering.TheVariants.{Less, Equal, Greater}
use Rattle.std.proofs.lemmas.Bool.{cases_lt, eqb-true}
use Rattle.std.proofs.lemmas.Bool.Decides.{nat_tests}
use Rattle.std.proofs.lemmas.List.Sorted.{Contains-permutation, IsPermutation-sym}
use Rattle.std.proofs.lemmas.Option.{get_or_from_slice_get, same_Some, slice_get-get_or, slice_get_within}
use Rattle.pfs_model.specs.Actions.{Deed, IsAmong}
use Rattle.pfs_check_falls.specs.declared.falls.PlacedDeed.{PlacedDeed}
use Rattle.pfs_check_falls.specs.DeedOrder.{AreInOrder, IsFloor, IsUpTo, floor_behind, level_of, lesser_place, with_fall}
use Rattle.pfs_check_falls.specs.FallenDeeds.{IsFallFound, KeepsOrder, deed_of, deeds_in}
use Rattle.pfs_check_falls.proofs.FloorSteps.{IsLast, floor_is}
use Rattle.pfs_check_falls.proofs.Predecessors.{IsOneOf, all_kept, among_deed, falls_high, keeps_high, keeps_none, one_of}

abbrev pub Keeps : List PlacedDeed → PlacedDeed → Type 0
Keeps deeds one = KeepsOrder (deeds_in deeds) (deed_of one)

-- of the deeds before an index one falls at this place, and none at a lower one
pub record IsLeast (deeds : List PlacedDeed) (at place : ℕ) : Type 0 where
  pub one : PlacedDeed
  pub index : ℕ
  pub there : slice_get deeds index ≡ Some one
  pub place_is : one.place ≡ place
  pub falls : Keeps deeds one → ⊥
  pub first : (j : ℕ) (other : PlacedDeed) → j < at → slice_get deeds j ≡ Some other → other.place < place → Keeps deeds other

abbrev pub IsLeastSoFar : List PlacedDeed → ℕ → Option ℕ → Type 0
IsLeastSoFar deeds at None = (j : ℕ) (other : PlacedDeed) → j < at → slice_get deeds j ≡ Some other → Keeps deeds other
IsLeastSoFar deeds at (Some place) = IsLeast deeds at place

pub record SeenSoFar (deeds : List PlacedDeed) (at : ℕ) (floor last : Option PlacedDeed) (least : Option ℕ) : Type 0 where
  pub last_is : IsLast deeds at last floor
  pub least_is : IsLeastSoFar deeds at least

pub none_seen : (deeds : List PlacedDeed) (at : ℕ) → at ≡ 0 → SeenSoFar deeds at None None None
none_seen deeds at e = record { last_is = e; least_is = λ j other l g. absurd (omega (arith, l, e)) }

kept_more : (deeds : List PlacedDeed) (k : ℕ) (least : Option ℕ) (next : PlacedDeed) → slice_get deeds k ≡ Some next → Keeps deeds next → IsLeastSoFar deeds k least → IsLeastSoFar deeds (k + 1) least
kept_more deeds k None next h keeps was = all where
  all : (j : ℕ) (other : PlacedDeed) → j < k + 1 → slice_get deeds j ≡ Some other → Keeps deeds other
  all j other l g = on (cases_lt j k) where
    on : (j < k) ⊎ (k ≤ j) → Keeps deeds other
    on (inl m) = was j other m g
    on (inr m) = let e : k ≡ j = omega (arith, l, m) in subst (Keeps deeds) (same_Some next other (sym h ∙ ap (slice_get deeds) e ∙ g)) keeps
kept_more deeds k (Some place) next h keeps was = record { one = was.one; index = was.index; there = was.there; place_is = was.place_is; falls = was.falls; first = first } where
  first : (j : ℕ) (other : PlacedDeed) → j < k + 1 → slice_get deeds j ≡ Some other → other.place < place → Keeps deeds other
  first j other l g less = on (cases_lt j k) where
    on : (j < k) ⊎ (k ≤ j) → Keeps deeds other
    on (inl m) = was.first j other m g less
    on (inr m) = let e : k ≡ j = omega (arith, l, m) in subst (Keeps deeds) (same_Some next other (sym h ∙ ap (slice_get deeds) e ∙ g)) keeps

-- one that falls: at its own place, or at the least so far
fallen_here : (deeds : List PlacedDeed) (k : ℕ) (next : PlacedDeed) → slice_get deeds k ≡ Some next → (Keeps deeds next → ⊥)
    → ((j : ℕ) (other : PlacedDeed) → j < k → slice_get deeds j ≡ Some other → other.place < next.place → Keeps deeds other) → IsLeast deeds (k + 1) next.place
fallen_here deeds k next h falls was = record { one = next; index = k; there = h; place_is = refl; falls = falls; first = first } where
  first : (j : ℕ) (other : PlacedDeed) → j < k + 1 → slice_get deeds j ≡ Some other → other.place < next.place → Keeps deeds other
  first j other l g less = on (cases_lt j k) where
    on : (j < k) ⊎ (k ≤ j) → Keeps deeds other
    on (inl m) = was j other m g less
    on (inr m) =
        let e : k ≡ j = omega (arith, l, m) in
        let own : next.place ≡ other.place = ap (λ (z : PlacedDeed). z.place) (same_Some next other (sym h ∙ ap (slice_get deeds) e ∙ g)) in
        absurd (omega (arith, own, less))

fallen_least : (deeds : List PlacedDeed) (k place : ℕ) (next : PlacedDeed) → slice_get deeds k ≡ Some next → place ≤ next.place → IsLeast deeds k place → IsLeast deeds (k + 1) place
fallen_least deeds k place next h low was = record { one = was.one; index = was.index; there = was.there; place_is = was.place_is; falls = was.falls; first = first } where
  first : (j : ℕ) (other : PlacedDeed) → j < k + 1 → slice_get deeds j ≡ Some other → other.place < place → Keeps deeds other
  first j other l g less = on (cases_lt j k) where
    on : (j < k) ⊎ (k ≤ j) → Keeps deeds other
    on (inl m) = was.first j other m g less
    on (inr m) =
        let e : k ≡ j = omega (arith, l, m) in
        let own : next.place ≡ other.place = ap (λ (z : PlacedDeed). z.place) (same_Some next other (sym h ∙ ap (slice_get deeds) e ∙ g)) in
        absurd (omega (arith, own, less, low))

fallen_more : (deeds : List PlacedDeed) (k : ℕ) (least : Option ℕ) (next : PlacedDeed) → slice_get deeds k ≡ Some next → (Keeps deeds next → ⊥) → IsLeastSoFar deeds k least
    → IsLeastSoFar deeds (k + 1) (lesser_place least next.place)
fallen_more deeds k None next h falls was = fallen_here deeds k next h falls (λ j other l g less. was j other l g)
fallen_more deeds k (Some place) next h falls was = on (cases_lt next.place place) where
  on : (next.place < place) ⊎ (place ≤ next.place) → IsLeast deeds (k + 1) (min place next.place)
  on (inl less) =
      subst (IsLeast deeds (k + 1)) (lower place next.place (omega (arith, less)))
      (fallen_here deeds k next h falls (λ j other l g low. was.first j other l g (omega (arith, low, less)))) where
        lower : (m n : ℕ) → n ≤ m → n ≡ min m n
        lower m n l = omega (arith, l)
  on (inr most) = subst (IsLeast deeds (k + 1)) (lower place next.place most) (fallen_least deeds k place next h most was) where
    lower : (m n : ℕ) → m ≤ n → m ≡ min m n
    lower m n l = omega (arith, l)

least_step : (deeds : List PlacedDeed) (k : ℕ) (floor : Option PlacedDeed) (least : Option ℕ) (next : PlacedDeed) → slice_get deeds k ≡ Some next → IsFloor deeds (deed_of next) floor
    → IsLeastSoFar deeds k least → IsLeastSoFar deeds (k + 1) (with_fall least floor next)
least_step deeds k None least next h none was = kept_more deeds k least next h (keeps_none deeds (deed_of next) none) was
least_step deeds k (Some high) least next h is was = on (nat_lt next.action high.action) refl where
  on : (t : Bool) → nat_lt next.action high.action ≡ t → IsLeastSoFar deeds (k + 1) (cond t (lesser_place least next.place) least)
  on true q = fallen_more deeds k least next h (falls_high deeds (deed_of next) high is (grind (arith, nat_tests))) was
  on false q = kept_more deeds k least next h (keeps_high deeds (deed_of next) high is (grind (arith, nat_tests))) was

pub seen_more : (deeds : List PlacedDeed) (k : ℕ) (old last : Option PlacedDeed) (least : Option ℕ) (next : PlacedDeed) (floor : Option PlacedDeed) (now : Option ℕ) → AreInOrder deeds → slice_get deeds k ≡ Some next
    → floor ≡ floor_behind old last next → now ≡ with_fall least floor next → SeenSoFar deeds k old last least → SeenSoFar deeds (k + 1) floor (Some next) now
seen_more deeds k old last least next floor now order h of_floor of_now was = record {
  last_is = (omega arith, ap (slice_get deeds) (back k) ∙ h, is);
  least_is = subst (IsLeastSoFar deeds (k + 1)) (sym of_now) (least_step deeds k floor least next h is was.least_is);
} where
  is : IsFloor deeds (deed_of next) floor
  is = subst (IsFloor deeds (deed_of next)) (sym of_floor) (floor_is deeds k old last next order h was.last_is)

  back : (n : ℕ) → (n + 1) - 1 ≡ n
  back n = omega arith

-- one of a list stands at an index, and the other way
among_at : (deeds : List PlacedDeed) (i : ℕ) (one : PlacedDeed) → slice_get deeds i ≡ Some one → IsAmong one deeds
among_at [] i one g = absurd (cc)
among_at (x ∷ xs) zero one g = inl (same_Some x one g)
among_at (x ∷ xs) (suc i) one g = inr (among_at xs i one g)

at_among : (deeds : List PlacedDeed) (one : PlacedDeed) → IsAmong one deeds → (i : ℕ) × (slice_get deeds i ≡ Some one)
at_among [] one i = absurd i
at_among (x ∷ xs) one (inl e) = (0, ap Some e)
at_among (x ∷ xs) one (inr i) = let o : (i : ℕ) × (slice_get xs i ≡ Some one) = at_among xs one i in (suc o.0, o.1)

pub all_seen : (deeds : List PlacedDeed) (k : ℕ) (floor last : Option PlacedDeed) (least : Option ℕ) → length deeds ≤ k → SeenSoFar deeds k floor last least → IsFallFound deeds least
all_seen deeds k floor last None h seen = all_kept (deeds_in deeds) (λ next i. kept next (one_of deeds next i)) where
  kept : (next : Deed) → IsOneOf deeds next → KeepsOrder (deeds_in deeds) next
  kept next o = subst (KeepsOrder (deeds_in deeds)) o.is (seen.least_is o.at o.one (omega (arith, slice_get_within deeds o.at o.one o.there, h)) o.there)
all_seen deeds k floor last (Some place) h seen = record {
  one = seen.least_is.one;
  there = among_at deeds seen.least_is.index seen.least_is.one seen.least_is.there;
  place_is = seen.least_is.place_is;
  falls = seen.least_is.falls;
  first = first;
} where
  first : (other : PlacedDeed) → IsAmong other deeds → other.place < place → Keeps deeds other
  first other i less =
      let o : (j : ℕ) × (slice_get deeds j ≡ Some other) = at_among deeds other i in
      seen.least_is.first o.0 other (omega (arith, slice_get_within deeds o.0 other o.1, h)) o.1 less

-- in any order
abbrev SameDeeds : List PlacedDeed → List PlacedDeed → Type 0
SameDeeds xs ys = (one : PlacedDeed) → IsAmong one xs → IsAmong one ys

same_deeds : (xs ys : List PlacedDeed) → IsPermutation xs ys → SameDeeds xs ys
same_deeds xs ys p one i =
    let o : (j : ℕ) × (slice_get xs j ≡ Some one) = at_among xs one i in
    let there : Contains ys one = Contains-permutation xs ys one p (o.0, slice_get_within xs o.0 one o.1, get_or_from_slice_get xs o.0 one one o.1) in
    among_at ys there.0 one (slice_get-get_or ys there.0 one there.1 ∙ ap (λ z. Some z) there.2)

moved_deed : (xs ys : List PlacedDeed) → SameDeeds xs ys → (d : Deed) → IsAmong d (deeds_in xs) → IsAmong d (deeds_in ys)
moved_deed xs ys same d i =
    let o : IsOneOf xs d = one_of xs d i in
    let there : IsAmong o.one ys = same o.one (among_at xs o.at o.one o.there) in
    let p : (j : ℕ) × (slice_get ys j ≡ Some o.one) = at_among ys o.one there in
    subst (λ z. IsAmong z (deeds_in ys)) o.is (among_deed ys p.0 o.one p.1)

moved_keeps : (xs ys : List PlacedDeed) → SameDeeds xs ys → SameDeeds ys xs → (d : Deed) → KeepsOrder (deeds_in xs) d → KeepsOrder (deeds_in ys) d
moved_keeps xs ys same back d keeps first p = keeps first (record {
  there = moved_deed ys xs back first p.there;
  before = p.before;
  none = λ other i. p.none other (moved_deed xs ys same other i);
})

pub moved_found : (xs ys : List PlacedDeed) (least : Option ℕ) → IsPermutation xs ys → IsFallFound ys least → IsFallFound xs least
moved_found xs ys None p found = λ first next i j. found first next (moved_deed xs ys (same_deeds xs ys p) first i) (moved_deed xs ys (same_deeds xs ys p) next j)
moved_found xs ys (Some place) p found = record {
  one = found.one;
  there = back found.one found.there;
  place_is = found.place_is;
  falls = λ keeps. found.falls (moved_keeps xs ys there back (deed_of found.one) keeps);
  first = λ other i less. moved_keeps ys xs back there (deed_of other) (found.first other (there other i) less);
} where
  there : SameDeeds xs ys
  there = same_deeds xs ys p

  back : SameDeeds ys xs
  back = same_deeds ys xs (IsPermutation-sym xs ys p)

-- a sorted list is in order
abbrev pub deed_cmp : PlacedDeed → PlacedDeed → Ordering
deed_cmp one other =
    ordering_then (nat_cmp one.row other.row)
    (ordering_then (nat_cmp one.version other.version)
    (ordering_then (bool_cmp one.releases other.releases)
    (ordering_then (nat_cmp one.action other.action) (nat_cmp one.place other.place))))

-- what a comparison that isn't less says of its first number
abbrev Told : ℕ → ℕ → Ordering → Type 0
Told m n o = (m < n) ⊎ ((m ≡ n) × (is_lt o ≡ false))

then_told : (m n : ℕ) (o : Ordering) → is_lt (ordering_then (nat_cmp n m) o) ≡ false → Told m n o
then_told m n o h = on (nat_lt n m) (n == m) refl refl h where
  on : (t u : Bool) → nat_lt n m ≡ t → (n == m) ≡ u → is_lt (ordering_then (cond t Less (cond u Equal Greater)) o) ≡ false → Told m n o
  on true u p q h = absurd (cc)
  on false true p q h = inr (sym (eqb-true n m q), h)
  on false false p q h = inl (grind (arith, nat_tests))

levels_up : (va vb aa ab : ℕ) (ba bb : Bool) (o : Ordering) → (va < vb) ⊎ ((va ≡ vb) × (is_lt (ordering_then (bool_cmp bb ba) (ordering_then (nat_cmp ab aa) o)) ≡ false))
    → (2 * va + cond ba 1 0 < 2 * vb + cond bb 1 0) ⊎ ((2 * va + cond ba 1 0 ≡ 2 * vb + cond bb 1 0) × (aa ≤ ab))
levels_up va vb aa ab true true o (inl l) = inl (omega (arith, l))
levels_up va vb aa ab true false o (inl l) = inl (omega (arith, l))
levels_up va vb aa ab false true o (inl l) = inl (omega (arith, l))
levels_up va vb aa ab false false o (inl l) = inl (omega (arith, l))
levels_up va vb aa ab true false o (inr h) = absurd (let no : true ≡ false = h.1 in cc)
levels_up va vb aa ab false true o (inr h) = let e : va ≡ vb = h.0 in inl (omega (arith, e))
levels_up va vb aa ab true true o (inr h) = inr (ap (λ v. 2 * v + 1) h.0, low (then_told aa ab o h.1)) where
  low : Told aa ab o → aa ≤ ab
  low (inl l) = omega (arith, l)
  low (inr k) = let e : aa ≡ ab = k.0 in omega (arith, e)
levels_up va vb aa ab false false o (inr h) = inr (ap (λ v. 2 * v + 0) h.0, low (then_told aa ab o h.1)) where
  low : Told aa ab o → aa ≤ ab
  low (inl l) = omega (arith, l)
  low (inr k) = let e : aa ≡ ab = k.0 in omega (arith, e)

not_less : (a b : PlacedDeed) → is_lt (deed_cmp b a) ≡ false → IsUpTo (deed_of a) (deed_of b)
not_less a b h = on (then_told a.row b.row _ h) where
  by : a.row ≡ b.row → (level_of (deed_of a) < level_of (deed_of b)) ⊎ ((level_of (deed_of a) ≡ level_of (deed_of b)) × (a.action ≤ b.action)) → IsUpTo (deed_of a) (deed_of b)
  by e (inl l) = record { row = omega (arith, e); level = λ q. omega (arith, l); action = λ q s. absurd (omega (arith, l, s)) }
  by e (inr k) = let s : level_of (deed_of a) ≡ level_of (deed_of b) = k.0 in record { row = omega (arith, e); level = λ q. omega (arith, s); action = λ q r. k.1 }

  on : (a.row < b.row) ⊎ ((a.row ≡ b.row) × (is_lt (ordering_then (nat_cmp b.version a.version) (ordering_then (bool_cmp b.releases a.releases) (ordering_then (nat_cmp b.action a.action) (nat_cmp b.place a.place)))) ≡ false)) → IsUpTo (deed_of a) (deed_of b)
  on (inl l) = record { row = omega (arith, l); level = λ q. absurd (omega (arith, l, q)); action = λ q s. absurd (omega (arith, l, q)) }
  on (inr k) = by k.0 (levels_up a.version b.version a.action b.action a.releases b.releases (nat_cmp b.place a.place) (then_told a.version b.version _ k.1))

up_up : (a b c : PlacedDeed) → IsUpTo (deed_of a) (deed_of b) → IsUpTo (deed_of b) (deed_of c) → IsUpTo (deed_of a) (deed_of c)
up_up a b c p q = record { row = omega (arith, p.row, q.row); level = level; action = action } where
  first : a.row ≡ c.row → a.row ≡ b.row
  first e = omega (arith, p.row, q.row, e)

  level : a.row ≡ c.row → level_of (deed_of a) ≤ level_of (deed_of c)
  level e = omega (arith, p.level (first e), q.level (sym (first e) ∙ e))

  action : a.row ≡ c.row → level_of (deed_of a) ≡ level_of (deed_of c) → a.action ≤ c.action
  action e s =
      let l : level_of (deed_of a) ≤ level_of (deed_of b) = p.level (first e) in
      let m : level_of (deed_of b) ≤ level_of (deed_of c) = q.level (sym (first e) ∙ e) in
      let one : a.action ≤ b.action = p.action (first e) (omega (arith, l, m, s)) in
      let two : b.action ≤ c.action = q.action (sym (first e) ∙ e) (omega (arith, l, m, s)) in
      omega (arith, one, two)

pub sorted_order : (xs : List PlacedDeed) → IsSorted deed_cmp xs → AreInOrder xs
sorted_order xs sorted i j one other l p q = on (j - i) j other (omega (arith, l)) q where
  on : (n j : ℕ) (other : PlacedDeed) → j ≡ i + n → slice_get xs j ≡ Some other → IsUpTo (deed_of one) (deed_of other)
  on zero j other e h =
      let same : one ≡ other = same_Some one other (sym p ∙ ap (slice_get xs) (sym (e ∙ none i)) ∙ h) in
      subst (λ z. IsUpTo (deed_of one) (deed_of z)) same (record { row = omega arith; level = λ z. omega arith; action = λ z s. omega arith }) where
        none : (m : ℕ) → m + 0 ≡ m
        none m = omega arith
  on (suc n) zero other e h = absurd (omega (arith, e))
  on (suc n) (suc j) other e h =
      let within : suc j < length xs = slice_get_within xs (suc j) other h in
      let there : slice_get xs j ≡ Some (get_or xs j other) = slice_get-get_or xs j other (omega (arith, within)) in
      let before : IsUpTo (deed_of one) (deed_of (get_or xs j other)) = on n j (get_or xs j other) (omega (arith, e)) there in
      let step : is_lt (deed_cmp (get_or xs (j + 1) other) (get_or xs j other)) ≡ false = sorted j other (omega arith) (omega (arith, within)) in
      let is : get_or xs (j + 1) other ≡ other = ap (λ z. get_or xs z other) (add-one j) ∙ get_or_from_slice_get xs (suc j) other other h in
      up_up one (get_or xs j other) other before (not_less (get_or xs j other) other (sym (ap (λ z. is_lt (deed_cmp z (get_or xs j other))) is) ∙ step))
