-- The tickets of rows in the order of their versions.
use Rattle.std.proofs.Common.{◌≡◌, refl, ℕ, ◌+◌, ◌<◌, ◌≤◌, ◌==◌, ◌≢◌, inl, inr, Bool, true, false, ◌&&◌, ◌||◌, not, cond, nat_le, nat_lt, List, [], ◌∷◌, ◌++◌, Option, Some, None, sym, ◌∙◌, ap, subst, arith}
use Rattle.std.specs.Prelude.{IsTrue, ◌⊎◌, MatchOption, is_some}
use Rattle.std.specs.BTreeSet.{BTreeSet, IsKeyRangeOf, contains}
use Rattle.std.specs.Option.{option_to_list}
use Rattle.std.specs.Ordering.{is_gt, is_lt, nat_cmp, ordering_then}
use Rattle.std.specs.declared.cmp.Ordering.{Ordering}
use Rattle.std.specs.declared.cmp.Ordering.TheVariants.{Less, Equal, Greater}
use Rattle.std.specs.declared.ops.Bound.TheVariants.{Excluded, Included}
use Rattle.std.proofs.lemmas.Bool.{eqb-true, leb-false, leb-true, lt-ltb, ltb-false, ltb-true}
use Rattle.std.proofs.lemmas.Bool.Decides.{nat_tests}
use Rattle.pfs_event.specs.declared.entry.Entry.{Entry}
use Rattle.pfs_event.specs.declared.entry.Entry.TheVariants as says
use Rattle.pfs_model.proofs.ChainGrowth.{times_append}
use Rattle.pfs_model.specs.declared.changes.Change.{Change}
use Rattle.pfs_model.specs.Actions.{IsAmong}
use Rattle.pfs_model.specs.Chains.{Each, each_of, is_that, release_of, times}
use Rattle.pfs_model.specs.EntryPlaces.{Placed}
use Rattle.pfs_model.specs.Rings.{Ticketed, is_released_between, ticketed_at}
use Rattle.pfs_check_faults.specs.RingFaults.{IsPutBefore, LongRisesAt}
use Rattle.pfs_check_walk.specs.NumberTests.{Tells}
use Rattle.pfs_check_walk.specs.Walks.{onto}
use Rattle.pfs_check_tickets.specs.declared.rising.LongTickets.{LongTickets}
use Rattle.pfs_check_tickets.specs.declared.rising.RowPut.{RowPut}
use Rattle.pfs_check_tickets.specs.RisingPuts.{AreFreedOf, ArePutsOf, AreTicketsOf, HasRelease, IsBelow, IsLastBelow, IsNextBelow, RisesAfter, change_cmp, is_put, is_same_put, put_cmp, put_in, row_put, ticketed_of}
use Rattle.pfs_check_tickets.proofs.CountFacts.{onto_sum}

-- one entry more
abbrev put_list : Option RowPut → List Ticketed
put_list None = []
put_list (Some put) = ticketed_of put ∷ []

ticketed_is : (entry : Entry) → ticketed_at entry ≡ put_list (put_in entry)
ticketed_is (says.Long row version ticket) = refl
ticketed_is _ = refl

some_or : (b : Bool) (n : ℕ) → nat_lt 0 (cond b 1 0 + n) ≡ cond b true (nat_lt 0 n)
some_or true n = grind (arith, nat_tests)
some_or false n = ap (nat_lt 0) (zero_plus n) where
  zero_plus : (n : ℕ) → 0 + n ≡ n
  zero_plus n = omega arith

eq_swap : (m n : ℕ) → (m == n) ≡ (n == m)
eq_swap m n = grind (arith, nat_tests)

pub puts_more : (old new : BTreeSet RowPut) (earlier : List Placed) (place : Placed) (put : RowPut) → put_in place.entry ≡ Some put
    → ((other : RowPut) → contains put_cmp new other ≡ cond (is_same_put put other) true (contains put_cmp old other))
    → ArePutsOf earlier old → ArePutsOf (place ∷ earlier) new
puts_more old new earlier place put e step h other =
    step other ∙ ap (cond (is_same_put put other) true) (h other)
    ∙ sym (some_or (is_same_put put other) (times (is_put other) (each_of ticketed_at earlier)))
    ∙ ap (λ z. nat_lt 0 (cond z 1 0 + times (is_put other) (each_of ticketed_at earlier))) swap
    ∙ ap (nat_lt 0) (sym (times_append (is_put other) (ticketed_of put ∷ []) (each_of ticketed_at earlier) ∙ flat))
    ∙ ap (λ z. nat_lt 0 (times (is_put other) (z ++ each_of ticketed_at earlier))) (sym (ticketed_is place.entry ∙ ap put_list e)) where
      swap : is_same_put put other ≡ is_put other (ticketed_of put)
      swap = rw (eq_swap put.row other.row, eq_swap put.version other.version, eq_swap put.ticket other.ticket) refl

      flat : times (is_put other) (ticketed_of put ∷ []) + times (is_put other) (each_of ticketed_at earlier)
          ≡ cond (is_put other (ticketed_of put)) 1 0 + times (is_put other) (each_of ticketed_at earlier)
      flat = ap (λ z. z + times (is_put other) (each_of ticketed_at earlier)) (plus (cond (is_put other (ticketed_of put)) 1 0)) where
        plus : (n : ℕ) → n + 0 ≡ n
        plus n = omega arith

pub puts_same : (puts : BTreeSet RowPut) (earlier : List Placed) (place : Placed) → put_in place.entry ≡ None → ArePutsOf earlier puts
    → ArePutsOf (place ∷ earlier) puts
puts_same puts earlier place e h other =
    h other ∙ ap (λ z. nat_lt 0 (times (is_put other) (z ++ each_of ticketed_at earlier))) (sym (ticketed_is place.entry ∙ ap put_list e))

pub freed_more : (old new : BTreeSet Change) (earlier : List Placed) (place : Placed) (release : Change)
    → release_of place.entry ≡ release ∷ []
    → ((other : Change) → contains change_cmp new other ≡ cond (is_that other release) true (contains change_cmp old other))
    → AreFreedOf earlier old → AreFreedOf (place ∷ earlier) new
freed_more old new earlier place release e step h other =
    step other ∙ ap (cond (is_that other release) true) (h other)
    ∙ sym (some_or (is_that other release) (times (is_that other) (each_of release_of earlier)))
    ∙ ap (nat_lt 0) (sym (times_append (is_that other) (release ∷ []) (each_of release_of earlier) ∙ flat))
    ∙ ap (λ z. nat_lt 0 (times (is_that other) (z ++ each_of release_of earlier))) (sym e) where
      flat : times (is_that other) (release ∷ []) + times (is_that other) (each_of release_of earlier)
          ≡ cond (is_that other release) 1 0 + times (is_that other) (each_of release_of earlier)
      flat = ap (λ z. z + times (is_that other) (each_of release_of earlier)) (plus (cond (is_that other release) 1 0)) where
        plus : (n : ℕ) → n + 0 ≡ n
        plus n = omega arith

pub freed_same : (releases : BTreeSet Change) (earlier : List Placed) (place : Placed) → release_of place.entry ≡ []
    → AreFreedOf earlier releases → AreFreedOf (place ∷ earlier) releases
freed_same releases earlier place e h other =
    h other ∙ ap (λ z. nat_lt 0 (times (is_that other) (z ++ each_of release_of earlier))) (sym e)

-- of all entries, in whichever order
each_onto : {A : Type 0} (given : Entry → List A) (test : A → Bool) (all : List Placed)
    → times test (each_of given (onto [] all)) ≡ times test (each_of given all)
each_onto given test all =
    onto_sum (λ ps. times test (each_of given ps)) (λ p. times test (given p.entry)) refl (λ p ps. times_append test (given p.entry) (each_of given ps)) [] all
    ∙ plus (times test (each_of given all)) where
      plus : (n : ℕ) → 0 + n ≡ n
      plus n = omega arith

pub tickets_all : (tickets : LongTickets) (all : List Placed) → AreTicketsOf (onto [] all) tickets → AreTicketsOf all tickets
tickets_all tickets all h = record {
  puts = λ put. h.puts put ∙ ap (nat_lt 0) (each_onto ticketed_at (is_put put) all);
  releases = λ release. h.releases release ∙ ap (nat_lt 0) (each_onto release_of (is_that release) all);
}

-- numbers
not_same : (a b : ℕ) → (a == b) ≡ false → a ≢ b
not_same a b e = grind arith

le_test : (m n : ℕ) → m ≤ n → nat_le m n ≡ true
le_test m n h = grind (arith, nat_tests)

-- the first of two comparisons
less_first : (m n : ℕ) (rest : Ordering) → ordering_then (nat_cmp m n) rest ≡ Less → (m < n) ⊎ ((m ≡ n) × (rest ≡ Less))
less_first m n rest = at (nat_lt m n) (m == n) refl refl where
  at : (x y : Bool) → nat_lt m n ≡ x → (m == n) ≡ y → ordering_then (cond x Less (cond y Equal Greater)) rest ≡ Less
      → (m < n) ⊎ ((m ≡ n) × (rest ≡ Less))
  at true y e f h = inl (ltb-true m n e)
  at false true e f h = inr (eqb-true m n f, h)
  at false false e f h = absurd (cc)

most_first : (m n : ℕ) (rest : Ordering) → is_gt (ordering_then (nat_cmp m n) rest) ≡ false
    → (m < n) ⊎ ((m ≡ n) × (is_gt rest ≡ false))
most_first m n rest = at (nat_lt m n) (m == n) refl refl where
  at : (x y : Bool) → nat_lt m n ≡ x → (m == n) ≡ y → is_gt (ordering_then (cond x Less (cond y Equal Greater)) rest) ≡ false
      → (m < n) ⊎ ((m ≡ n) × (is_gt rest ≡ false))
  at true y e f h = inl (ltb-true m n e)
  at false true e f h = inr (eqb-true m n f, h)
  at false false e f h = absurd (cc)

-- not less, so at or above
least_first : (m n : ℕ) (rest : Ordering) → is_lt (ordering_then (nat_cmp m n) rest) ≡ false
    → (n < m) ⊎ ((m ≡ n) × (is_lt rest ≡ false))
least_first m n rest = at (nat_lt m n) (m == n) refl refl where
  at : (x y : Bool) → nat_lt m n ≡ x → (m == n) ≡ y → is_lt (ordering_then (cond x Less (cond y Equal Greater)) rest) ≡ false
      → (n < m) ⊎ ((m ≡ n) × (is_lt rest ≡ false))
  at true y e f h = absurd (cc)
  at false true e f h = inr (eqb-true m n f, h)
  at false false e f h =
      let ne : m ≢ n = not_same m n f in
      inl (omega (arith, ltb-false m n e, ne))

less_is : (m n : ℕ) → nat_cmp m n ≡ Less → m < n
less_is m n = at (nat_lt m n) (m == n) refl where
  at : (x y : Bool) → nat_lt m n ≡ x → cond x Less (cond y Equal Greater) ≡ Less → m < n
  at true y e h = ltb-true m n e
  at false true e h = absurd (cc)
  at false false e h = absurd (cc)

most_is : (m n : ℕ) → is_gt (nat_cmp m n) ≡ false → m ≤ n
most_is m n = at (nat_lt m n) (m == n) refl refl where
  at : (x y : Bool) → nat_lt m n ≡ x → (m == n) ≡ y → is_gt (cond x Less (cond y Equal Greater)) ≡ false → m ≤ n
  at true y e f h = omega (arith, ltb-true m n e)
  at false true e f h = omega (arith, eqb-true m n f)
  at false false e f h = absurd (cc)

least_is : (m n : ℕ) → is_lt (nat_cmp m n) ≡ false → n ≤ m
least_is m n = at (nat_lt m n) (m == n) refl where
  at : (x y : Bool) → nat_lt m n ≡ x → is_lt (cond x Less (cond y Equal Greater)) ≡ false → n ≤ m
  at true y e h = absurd (cc)
  at false y e h = ltb-false m n e

not_below : (m : ℕ) → nat_lt m m ≡ false
not_below m = grind (arith, nat_tests)

eq_self : (n : ℕ) → (n == n) ≡ true
eq_self n = grind arith

up_to : (m n : ℕ) → m ≤ n → is_gt (nat_cmp m n) ≡ false
up_to m n h = at (nat_lt m n) (m == n) refl refl where
  at : (x y : Bool) → nat_lt m n ≡ x → (m == n) ≡ y → is_gt (cond x Less (cond y Equal Greater)) ≡ false
  at true y e f = refl
  at false true e f = refl
  at false false e f =
      let ne : m ≢ n = not_same m n f in
      absurd (omega (arith, ltb-false m n e, ne, h))

-- releases between two versions
abbrev freed_at : ℕ → ℕ → Change
freed_at row version = record { row = row; version = version }

record IsInside (row low high : ℕ) (k : Change) : Type 0 where
  row_is : k.row ≡ row
  from : low ≤ k.version
  below : k.version < high

inside : (row low high : ℕ) (k : Change) → is_gt (change_cmp (freed_at row low) k) ≡ false → change_cmp k (freed_at row high) ≡ Less
    → IsInside row low high k
inside row low high k a b = on (most_first row k.row (nat_cmp low k.version) a) (less_first k.row row (nat_cmp k.version high) b) where
  on : (row < k.row) ⊎ ((row ≡ k.row) × (is_gt (nat_cmp low k.version) ≡ false)) → (k.row < row) ⊎ ((k.row ≡ row) × (nat_cmp k.version high ≡ Less))
      → IsInside row low high k
  on (inl l) (inl m) = absurd (omega (arith, l, m))
  on (inl l) (inr m) = absurd (omega (arith, l, m.0))
  on (inr l) (inl m) = absurd (omega (arith, l.0, m))
  on (inr l) (inr m) = record { row_is = m.0; from = most_is low k.version l.1; below = less_is k.version high m.1 }

from_there : (row low version : ℕ) → low ≤ version → is_gt (change_cmp (freed_at row low) (freed_at row version)) ≡ false
from_there row low version h = rw (not_below row, eq_self row) (up_to low version h)

below_there : (row version high : ℕ) → version < high → change_cmp (freed_at row version) (freed_at row high) ≡ Less
below_there row version high h = rw (not_below row, eq_self row, lt-ltb version high h) refl

pub is_some_change : List Change → Bool
is_some_change [] = false
is_some_change (k ∷ ks) = true

pub release_tells : (releases : BTreeSet Change) (row low high : ℕ) (keys : List Change)
    → IsKeyRangeOf change_cmp (Included (freed_at row low)) (Excluded (freed_at row high)) releases keys
    → Tells (HasRelease releases row low high) (is_some_change keys)
unfolding is_some_change
release_tells releases row low high [] range = λ has. none has.0 has.1 has.2 has.3 where
  none : (version : ℕ) → low ≤ version → version < high → contains change_cmp releases (freed_at row version) ≡ true → ⊥
  none version a b there =
      let out : contains change_cmp releases (freed_at row version) ≡ false =
      range.5 refl (freed_at row version) (from_there row low version a, below_there row version high b) in
      absurd (cc)
release_tells releases row low high (k ∷ ks) range = found (inside row low high k range.1.0.0 range.1.0.1) range.1.1 where
  found : IsInside row low high k → contains change_cmp releases k ≡ true → HasRelease releases row low high
  found is there = (k.version, is.from, is.below, subst (λ z. contains change_cmp releases (freed_at z k.version) ≡ true) is.row_is there)

pub first_change : {A : Type 0} (shows : A → Change) (keys rest : List Change) (o : Option A)
    → MatchOption o ((keys ≡ []) × (rest ≡ [])) (λ x. keys ≡ shows x ∷ rest) → is_some_change keys ≡ is_some o
unfolding is_some_change
first_change shows keys rest None e = ap is_some_change e.0
first_change shows keys rest (Some x) e = ap is_some_change e

-- the puts of a row below a version
record IsUnder (row version : ℕ) (k : RowPut) : Type 0 where
  row_is : k.row ≡ row
  lower : k.version < version

under : (row version : ℕ) (k : RowPut) → is_gt (put_cmp (row_put row 0 0) k) ≡ false → put_cmp k (row_put row version 0) ≡ Less → IsUnder row version k
under row version k a b =
    on (most_first row k.row (ordering_then (nat_cmp 0 k.version) (nat_cmp 0 k.ticket)) a)
    (less_first k.row row (ordering_then (nat_cmp k.version version) (nat_cmp k.ticket 0)) b) where
      then_version : k.row ≡ row → (k.version < version) ⊎ ((k.version ≡ version) × (nat_cmp k.ticket 0 ≡ Less)) → IsUnder row version k
      then_version r (inl l) = record { row_is = r; lower = l }
      then_version r (inr l) = absurd (omega (arith, less_is k.ticket 0 l.1))

      on : (row < k.row) ⊎ ((row ≡ k.row) × (is_gt (ordering_then (nat_cmp 0 k.version) (nat_cmp 0 k.ticket)) ≡ false))
          → (k.row < row) ⊎ ((k.row ≡ row) × (ordering_then (nat_cmp k.version version) (nat_cmp k.ticket 0) ≡ Less)) → IsUnder row version k
      on (inl l) (inl m) = absurd (omega (arith, l, m))
      on (inl l) (inr m) = absurd (omega (arith, l, m.0))
      on (inr l) (inl m) = absurd (omega (arith, l.0, m))
      on (inr l) (inr m) = then_version m.0 (less_first k.version version (nat_cmp k.ticket 0) m.1)

behind_first : (row : ℕ) (k : RowPut) → k.row ≡ row → is_gt (put_cmp (row_put row 0 0) k) ≡ false
behind_first row k e = subst (λ z. is_gt (put_cmp (row_put z 0 0) k) ≡ false) e (rw (not_below k.row, eq_self k.row) (on (nat_lt 0 k.version) (0 == k.version) refl refl)) where
  on : (x y : Bool) → nat_lt 0 k.version ≡ x → (0 == k.version) ≡ y
      → is_gt (ordering_then (cond x Less (cond y Equal Greater)) (nat_cmp 0 k.ticket)) ≡ false
  on true y f g = refl
  on false true f g = up_to 0 k.ticket (omega arith)
  on false false f g =
      let ne : 0 ≢ k.version = not_same 0 k.version g in
      absurd (omega (arith, ltb-false 0 k.version f, ne))

before_last : (row version : ℕ) (k : RowPut) → k.row ≡ row → k.version < version → put_cmp k (row_put row version 0) ≡ Less
before_last row version k e l =
    subst (λ z. put_cmp k (row_put z version 0) ≡ Less) e (rw (not_below k.row, eq_self k.row, lt-ltb k.version version l) refl)

-- of two of a row, the one that isn't before the other is behind it
last_is : (k q : RowPut) → k.row ≡ q.row → is_lt (put_cmp k q) ≡ false → (q.version < k.version) ⊎ ((q.version ≡ k.version) × (q.ticket ≤ k.ticket))
last_is k q e h = on (least_first k.row q.row (ordering_then (nat_cmp k.version q.version) (nat_cmp k.ticket q.ticket)) h) where
  then_version : (q.version < k.version) ⊎ ((k.version ≡ q.version) × (is_lt (nat_cmp k.ticket q.ticket) ≡ false))
      → (q.version < k.version) ⊎ ((q.version ≡ k.version) × (q.ticket ≤ k.ticket))
  then_version (inl l) = inl l
  then_version (inr l) = inr (sym l.0, least_is k.ticket q.ticket l.1)

  on : (q.row < k.row) ⊎ ((k.row ≡ q.row) × (is_lt (ordering_then (nat_cmp k.version q.version) (nat_cmp k.ticket q.ticket)) ≡ false))
      → (q.version < k.version) ⊎ ((q.version ≡ k.version) × (q.ticket ≤ k.ticket))
  on (inl l) = absurd (omega (arith, l, e))
  on (inr l) = then_version (least_first k.version q.version (nat_cmp k.ticket q.ticket) l.1)

pub none_below : (puts : BTreeSet RowPut) (row version : ℕ) (keys : List RowPut)
    → IsKeyRangeOf put_cmp (Included (row_put row 0 0)) (Excluded (row_put row version 0)) puts keys → keys ≡ []
    → IsLastBelow puts row version None
none_below puts row version keys range e other b =
    let out : contains put_cmp puts other ≡ false =
    range.5 e other (behind_first row other b.row_is, before_last row version other b.row_is b.lower) in
    let there : contains put_cmp puts other ≡ true = b.there in
    absurd (cc)

pub last_below_is : (puts : BTreeSet RowPut) (row version : ℕ) (keys rest : List RowPut) (put : RowPut)
    → IsKeyRangeOf put_cmp (Included (row_put row 0 0)) (Excluded (row_put row version 0)) puts keys → keys ≡ rest ++ put ∷ []
    → IsLastBelow puts row version (Some put)
last_below_is puts row version keys rest put range e =
    let here : IsUnder row version put = under row version put (range.3 put rest e).0.0 (range.3 put rest e).0.1 in
    record {
      below = record { there = (range.3 put rest e).1; row_is = here.row_is; lower = here.lower };
      last = λ other b. last_is put other (here.row_is ∙ sym b.row_is)
          (range.4 put rest e other (behind_first row other b.row_is, before_last row version other b.row_is b.lower) b.there);
    }

pub below_zero : (puts : BTreeSet RowPut) (row version : ℕ) → version ≡ 0 → IsLastBelow puts row version None
below_zero puts row version e other b = let l : other.version < version = b.lower in omega (arith, l, e)

-- above the last one
pub above_none : (tickets : LongTickets) (put : RowPut) → IsLastBelow tickets.puts put.row put.version None → RisesAfter tickets put
above_none tickets put none last b most released = absurd (none last b)

pub above_some : (tickets : LongTickets) (put last : RowPut) (freed : Bool) → IsLastBelow tickets.puts put.row put.version (Some last)
    → Tells (HasRelease tickets.releases put.row last.version put.version) freed
    → Tells (RisesAfter tickets put) (nat_lt last.ticket put.ticket || freed)
above_some tickets put last freed is t = on (nat_lt last.ticket put.ticket) freed refl t where
  same : (other : RowPut) → IsBelow tickets.puts put.row put.version other → last.version ≤ other.version
      → (other.version ≡ last.version) × (other.ticket ≤ last.ticket)
  same other b low = at (is.last other b) where
    at : (other.version < last.version) ⊎ ((other.version ≡ last.version) × (other.ticket ≤ last.ticket))
        → (other.version ≡ last.version) × (other.ticket ≤ last.ticket)
    at (inl l) = absurd (omega (arith, l, low))
    at (inr l) = l

  most : (other : RowPut) → IsBelow tickets.puts put.row put.version other → other.version ≤ last.version
  most other b = at (is.last other b) where
    at : (other.version < last.version) ⊎ ((other.version ≡ last.version) × (other.ticket ≤ last.ticket)) → other.version ≤ last.version
    at (inl l) = omega (arith, l)
    at (inr l) = omega (arith, l.0)

  on : (a b : Bool) → nat_lt last.ticket put.ticket ≡ a → Tells (HasRelease tickets.releases put.row last.version put.version) b
      → Tells (RisesAfter tickets put) (a || b)
  on true b e h = λ other below greatest released.
      let low : last.ticket < put.ticket = ltb-true last.ticket put.ticket e in
      let up : other.ticket ≤ last.ticket = (same other below (greatest last is.below)).1 in
      omega (arith, low, up)
  on false true e h = λ other below greatest released.
      absurd (released (subst (λ z. HasRelease tickets.releases put.row z put.version) (sym (same other below (greatest last is.below)).0) h))
  on false false e h = λ rises.
      let low : last.ticket < put.ticket = rises last is.below most h in
      omega (arith, low, ltb-false last.ticket put.ticket e)

-- in the words of the model
among_put : (put : RowPut) (xs : List Ticketed) → nat_lt 0 (times (is_put put) xs) ≡ true → IsAmong (ticketed_of put) xs
among_put put [] h = absurd (cc)
among_put put (x ∷ xs) h = at (put.row == x.row) (put.version == x.version) (put.ticket == x.ticket) refl refl refl h (among_put put xs) where
  at : (a b c : Bool) → (put.row == x.row) ≡ a → (put.version == x.version) ≡ b → (put.ticket == x.ticket) ≡ c
      → nat_lt 0 (cond (a && (b && c)) 1 0 + times (is_put put) xs) ≡ true
      → (nat_lt 0 (times (is_put put) xs) ≡ true → IsAmong (ticketed_of put) xs) → IsAmong (ticketed_of put) (x ∷ xs)
  at true true true e f g h rest = inl (same (eqb-true put.row x.row e) (eqb-true put.version x.version f) (eqb-true put.ticket x.ticket g)) where
    same : put.row ≡ x.row → put.version ≡ x.version → put.ticket ≡ x.ticket → x ≡ ticketed_of put
    same r v t =
        sym (ap (λ z. ticketed_of (row_put z put.version put.ticket)) r ∙ ap (λ z. ticketed_of (row_put x.row z put.ticket)) v
        ∙ ap (λ z. ticketed_of (row_put x.row x.version z)) t)
  at true true false e f g h rest = inr (rest (sym (some_or false (times (is_put put) xs)) ∙ h))
  at true false c e f g h rest = inr (rest (sym (some_or false (times (is_put put) xs)) ∙ h))
  at false b c e f g h rest = inr (rest (sym (some_or false (times (is_put put) xs)) ∙ h))

put_among : (put : RowPut) (xs : List Ticketed) → IsAmong (ticketed_of put) xs → nat_lt 0 (times (is_put put) xs) ≡ true
put_among put [] i = absurd i
put_among put (x ∷ xs) (inl e) =
    some_or (is_put put x) (times (is_put put) xs)
    ∙ ap (λ z. cond z true (nat_lt 0 (times (is_put put) xs)))
    (ap (is_put put) e ∙ own) where
      own : is_put put (ticketed_of put) ≡ true
      own = rw (eq_self put.row, eq_self put.version, eq_self put.ticket) refl
put_among put (x ∷ xs) (inr i) =
    some_or (is_put put x) (times (is_put put) xs)
    ∙ ap (cond (is_put put x) true) (put_among put xs i) ∙ both (is_put put x) where
      both : (b : Bool) → cond b true true ≡ true
      both true = refl
      both false = refl

abbrev is_freed : ℕ → ℕ → ℕ → Change → Bool
is_freed row low high release = (release.row == row) && nat_le low release.version && nat_lt release.version high

-- released between two versions
released_one : (row low high : ℕ) (xs : List Change) → nat_lt 0 (times (is_freed row low high) xs) ≡ true
    → (version : ℕ) × (low ≤ version) × (version < high) × (nat_lt 0 (times (is_that (freed_at row version)) xs) ≡ true)
released_one row low high [] h = absurd (cc)
released_one row low high (x ∷ xs) h =
    at (x.row == row) (nat_le low x.version) (nat_lt x.version high) refl refl refl h (released_one row low high xs) where
      later : ((version : ℕ) × (low ≤ version) × (version < high) × (nat_lt 0 (times (is_that (freed_at row version)) xs) ≡ true))
          → (version : ℕ) × (low ≤ version) × (version < high) × (nat_lt 0 (times (is_that (freed_at row version)) (x ∷ xs)) ≡ true)
      later f = (
        f.0,
        f.1,
        f.2,
        some_or (is_that (freed_at row f.0) x) (times (is_that (freed_at row f.0)) xs)
            ∙ ap (cond (is_that (freed_at row f.0) x) true) f.3 ∙ both (is_that (freed_at row f.0) x),
      ) where
        both : (b : Bool) → cond b true true ≡ true
        both true = refl
        both false = refl

      at : (a b c : Bool) → (x.row == row) ≡ a → nat_le low x.version ≡ b → nat_lt x.version high ≡ c
          → nat_lt 0 (cond (a && b && c) 1 0 + times (is_freed row low high) xs) ≡ true
          → (nat_lt 0 (times (is_freed row low high) xs) ≡ true
          → (version : ℕ) × (low ≤ version) × (version < high) × (nat_lt 0 (times (is_that (freed_at row version)) xs) ≡ true))
          → (version : ℕ) × (low ≤ version) × (version < high) × (nat_lt 0 (times (is_that (freed_at row version)) (x ∷ xs)) ≡ true)
      at true true true e f g h rest = (
        x.version,
        leb-true low x.version f,
        ltb-true x.version high g,
        some_or (is_that (freed_at row x.version) x) (times (is_that (freed_at row x.version)) xs)
            ∙ ap (λ z. cond z true (nat_lt 0 (times (is_that (freed_at row x.version)) xs))) own,
      ) where
        own : is_that (freed_at row x.version) x ≡ true
        own = rw (e, eq_self x.version) refl
      at true true false e f g h rest = later (rest (sym (some_or false (times (is_freed row low high) xs)) ∙ h))
      at true false c e f g h rest = later (rest (sym (some_or false (times (is_freed row low high) xs)) ∙ h))
      at false b c e f g h rest = later (rest (sym (some_or false (times (is_freed row low high) xs)) ∙ h))

released_there : (row low high version : ℕ) (xs : List Change) → low ≤ version → version < high
    → nat_lt 0 (times (is_that (freed_at row version)) xs) ≡ true → nat_lt 0 (times (is_freed row low high) xs) ≡ true
released_there row low high version [] a b h = absurd (cc)
released_there row low high version (x ∷ xs) a b h =
    at (x.row == row) (x.version == version) refl refl h (released_there row low high version xs a b) where
      both : (b : Bool) → cond b true true ≡ true
      both true = refl
      both false = refl

      later : nat_lt 0 (times (is_freed row low high) xs) ≡ true → nat_lt 0 (times (is_freed row low high) (x ∷ xs)) ≡ true
      later f =
          some_or (is_freed row low high x) (times (is_freed row low high) xs)
          ∙ ap (cond (is_freed row low high x) true) f ∙ both (is_freed row low high x)

      at : (p q : Bool) → (x.row == row) ≡ p → (x.version == version) ≡ q
          → nat_lt 0 (cond (p && q) 1 0 + times (is_that (freed_at row version)) xs) ≡ true
          → (nat_lt 0 (times (is_that (freed_at row version)) xs) ≡ true → nat_lt 0 (times (is_freed row low high) xs) ≡ true)
          → nat_lt 0 (times (is_freed row low high) (x ∷ xs)) ≡ true
      at true true e f h rest =
          some_or (is_freed row low high x) (times (is_freed row low high) xs)
          ∙ ap (λ z. cond z true (nat_lt 0 (times (is_freed row low high) xs))) here where
            is : x.version ≡ version
            is = eqb-true x.version version f

            here : is_freed row low high x ≡ true
            here = rw (e, le_test low x.version (omega (arith, is, a)), lt-ltb x.version high (omega (arith, is, b))) refl
      at true false e f h rest = later (rest (sym (some_or false (times (is_that (freed_at row version)) xs)) ∙ h))
      at false q e f h rest = later (rest (sym (some_or false (times (is_that (freed_at row version)) xs)) ∙ h))

unreleased_is : (row low high : ℕ) (xs : List Change) → is_released_between xs row low high ≡ false → nat_lt 0 (times (is_freed row low high) xs) ≡ false
unreleased_is row low high xs = at (times (is_freed row low high) xs == 0) refl where
  at : (b : Bool) → (times (is_freed row low high) xs == 0) ≡ b → not b ≡ false → nat_lt 0 (times (is_freed row low high) xs) ≡ false
  at true e h = ap (nat_lt 0) (eqb-true (times (is_freed row low high) xs) 0 e)
  at false e h = absurd (cc)

is_unreleased : (row low high : ℕ) (xs : List Change) → (nat_lt 0 (times (is_freed row low high) xs) ≡ true → ⊥) → is_released_between xs row low high ≡ false
is_unreleased row low high xs none = at (times (is_freed row low high) xs == 0) refl where
  at : (b : Bool) → (times (is_freed row low high) xs == 0) ≡ b → not b ≡ false
  at true e = refl
  at false e =
      let ne : times (is_freed row low high) xs ≢ 0 = not_same (times (is_freed row low high) xs) 0 e in
      absurd (none (lt-ltb 0 (times (is_freed row low high) xs) (omega (arith, ne))))

-- whether an entry's ticket is above the one right before it, in the words of the model
rises_from : (all : List Placed) (tickets : LongTickets) (put : RowPut) → AreTicketsOf all tickets → RisesAfter tickets put
    → (first : Ticketed) → IsPutBefore all first (ticketed_of put) → first.ticket < put.ticket
rises_from all tickets put known rises first b = rises (row_put first.row first.version first.ticket) (record {
  there = known.puts (row_put first.row first.version first.ticket)
      ∙ put_among (row_put first.row first.version first.ticket) (each_of ticketed_at all) b.there;
  row_is = b.row;
  lower = b.lower;
}) (λ other o. at other o (nat_lt first.version other.version) refl) (λ released. clear released.0 released.1 released.2 released.3) where
  at : (other : RowPut) → IsBelow tickets.puts put.row put.version other → (p : Bool) → nat_lt first.version other.version ≡ p
      → other.version ≤ first.version
  at other o true e =
      absurd (b.none (ticketed_of other) (among_put other (each_of ticketed_at all) (sym (known.puts other) ∙ o.there)) o.row_is
      (ltb-true first.version other.version e) o.lower)
  at other o false e = ltb-false first.version other.version e

  clear : (version : ℕ) → first.version ≤ version → version < put.version → contains change_cmp tickets.releases (freed_at put.row version) ≡ true → ⊥
  clear version a c there =
      let some : nat_lt 0 (times (is_freed put.row first.version put.version) (each_of release_of all)) ≡ true =
      released_there put.row first.version put.version version (each_of release_of all) a c (sym (known.releases (freed_at put.row version)) ∙ there) in
      let none : nat_lt 0 (times (is_freed put.row first.version put.version) (each_of release_of all)) ≡ false =
      unreleased_is put.row first.version put.version (each_of release_of all)
      (subst (λ z. is_released_between (each_of release_of all) z first.version put.version ≡ false) b.row b.unreleased) in
      absurd (cc)

from_rises : (all : List Placed) (tickets : LongTickets) (put : RowPut) → AreTicketsOf all tickets
    → ((first : Ticketed) → IsPutBefore all first (ticketed_of put) → first.ticket < put.ticket) → RisesAfter tickets put
from_rises all tickets put known rises last below most released = rises (ticketed_of last) (record {
  there = among_put last (each_of ticketed_at all) (sym (known.puts last) ∙ below.there);
  row = below.row_is;
  lower = below.lower;
  none = λ other i same above lower.
      let high : other.version ≤ last.version = most (row_put other.row other.version other.ticket) (record {
        there = known.puts (row_put other.row other.version other.ticket)
            ∙ put_among (row_put other.row other.version other.ticket) (each_of ticketed_at all) i;
        row_is = same;
        lower = lower;
      }) in
      absurd (omega (arith, high, above));
  unreleased = is_unreleased last.row last.version put.version (each_of release_of all) (λ some.
      released (free (subst (λ z. nat_lt 0 (times (is_freed z last.version put.version) (each_of release_of all)) ≡ true) below.row_is some)));
}) where
  free : nat_lt 0 (times (is_freed put.row last.version put.version) (each_of release_of all)) ≡ true
      → HasRelease tickets.releases put.row last.version put.version
  free some = on (released_one put.row last.version put.version (each_of release_of all) some) where
    on : (version : ℕ) × (last.version ≤ version) × (version < put.version) × (nat_lt 0 (times (is_that (freed_at put.row version)) (each_of release_of all)) ≡ true)
        → HasRelease tickets.releases put.row last.version put.version
    on f = (f.0, f.1, f.2, known.releases (freed_at put.row f.0) ∙ f.3)

pub rises_some : (all earlier : List Placed) (place : Placed) (tickets : LongTickets) (put : RowPut) (b : Bool) → put_in place.entry ≡ Some put
    → AreTicketsOf all tickets → Tells (RisesAfter tickets put) b → Tells (LongRisesAt all earlier place) b
rises_some all earlier place tickets put b e known = on b where
  list : ticketed_at place.entry ≡ ticketed_of put ∷ []
  list = ticketed_is place.entry ∙ ap put_list e

  on : (b : Bool) → Tells (RisesAfter tickets put) b → Tells (LongRisesAt all earlier place) b
  on true h =
      subst (λ z. Each (λ next. (first : Ticketed) → IsPutBefore all first next → first.ticket < next.ticket) z) (sym list)
      (rises_from all tickets put known h, tt)
  on false h = λ rises. h (from_rises all tickets put known
      (subst (λ z. Each (λ next. (first : Ticketed) → IsPutBefore all first next → first.ticket < next.ticket) z) list rises).0)

pub rises_none : (all earlier : List Placed) (place : Placed) → put_in place.entry ≡ None → LongRisesAt all earlier place
rises_none all earlier place e =
    subst (λ z. Each (λ next. (first : Ticketed) → IsPutBefore all first next → first.ticket < next.ticket) z)
    (sym (ticketed_is place.entry ∙ ap put_list e)) tt
