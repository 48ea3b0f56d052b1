-- The changes of a session and a row in the order of all changes.
use Rattle.std.proofs.Common.{◌≡◌, refl, ℕ, ◌<◌, ◌≤◌, ◌==◌, Bool, true, false, cond, nat_lt, List, [], ◌∷◌, ap, subst, arith, Option, Some, None, inl, inr}
use Rattle.std.specs.Prelude.{IsTrue, MatchOption, is_some, ◌⊎◌}
use Rattle.std.specs.BTreeSet.{BTreeSet, IsKeyRangeOf, contains}
use Rattle.std.specs.Ordering.{is_gt, nat_cmp, ordering_then}
use Rattle.std.specs.declared.cmp.Ordering.{Ordering}
use Rattle.std.specs.declared.cmp.Ordering.TheVariants.{Less, Equal, Greater}
use Rattle.std.specs.declared.ops.Bound.TheVariants.{Excluded, Included}
use Rattle.std.proofs.lemmas.Bool.{eqb-true, lt-ltb, ltb-true}
use Rattle.std.proofs.lemmas.Bool.Decides.{nat_tests}
use Rattle.pfs_lemmas.proofs.Numbers.{eq_self}
use Rattle.pfs_check_floors.specs.KnownFloors.{Tells}
use Rattle.pfs_check_causes.specs.declared.own.OwnChange.{OwnChange}
use Rattle.pfs_check_causes.specs.OwnVersions.{HasBetween, own_at, own_cmp}

-- the first of two comparisons
less_first : (m n : ℕ) (rest : Ordering) → ordering_then (nat_cmp m n) rest ≡ Less → (m < n) ⊎ ((m ≡ n) × (rest ≡ Less))
less_first m n rest = at (nat_lt m n) (m == n) refl refl where
  at : (x y : Bool) → nat_lt m n ≡ x → (m == n) ≡ y → ordering_then (cond x Less (cond y Equal Greater)) rest ≡ Less
      → (m < n) ⊎ ((m ≡ n) × (rest ≡ Less))
  at true y e f h = inl (ltb-true m n e)
  at false true e f h = inr (eqb-true m n f, h)
  at false false e f h = absurd (cc)

most_first : (m n : ℕ) (rest : Ordering) → is_gt (ordering_then (nat_cmp m n) rest) ≡ false
    → (m < n) ⊎ ((m ≡ n) × (is_gt rest ≡ false))
most_first m n rest = at (nat_lt m n) (m == n) refl refl where
  at : (x y : Bool) → nat_lt m n ≡ x → (m == n) ≡ y → is_gt (ordering_then (cond x Less (cond y Equal Greater)) rest) ≡ false
      → (m < n) ⊎ ((m ≡ n) × (is_gt rest ≡ false))
  at true y e f h = inl (ltb-true m n e)
  at false true e f h = inr (eqb-true m n f, h)
  at false false e f h = absurd (cc)

less_is : (m n : ℕ) → nat_cmp m n ≡ Less → m < n
less_is m n = at (nat_lt m n) (m == n) refl where
  at : (x y : Bool) → nat_lt m n ≡ x → cond x Less (cond y Equal Greater) ≡ Less → m < n
  at true y e h = ltb-true m n e
  at false true e h = absurd (cc)
  at false false e h = absurd (cc)

most_is : (m n : ℕ) → is_gt (nat_cmp m n) ≡ false → m ≤ n
most_is m n = at (nat_lt m n) (m == n) refl refl where
  at : (x y : Bool) → nat_lt m n ≡ x → (m == n) ≡ y → is_gt (cond x Less (cond y Equal Greater)) ≡ false → m ≤ n
  at true y e f h = omega (arith, ltb-true m n e)
  at false true e f h = omega (arith, eqb-true m n f)
  at false false e f h = absurd (cc)

-- between two of a session and a row stand those of both alone
pub record IsInside (session row first last : ℕ) (k : OwnChange) : Type 0 where
  pub session_is : k.session ≡ session
  pub row_is : k.row ≡ row
  pub above : first < k.version
  pub within : k.version ≤ last

inside : (session row first last : ℕ) (k : OwnChange) → own_cmp (own_at session row first) k ≡ Less
    → is_gt (own_cmp k (own_at session row last)) ≡ false → IsInside session row first last k
inside session row first last k low high =
    on (less_first session k.session (ordering_then (nat_cmp row k.row) (nat_cmp first k.version)) low)
    (most_first k.session session (ordering_then (nat_cmp k.row row) (nat_cmp k.version last)) high) where
      then_row : k.session ≡ session → (row < k.row) ⊎ ((row ≡ k.row) × (nat_cmp first k.version ≡ Less))
          → (k.row < row) ⊎ ((k.row ≡ row) × (is_gt (nat_cmp k.version last) ≡ false)) → IsInside session row first last k
      then_row s (inl l) (inl m) = absurd (omega (arith, l, m))
      then_row s (inl l) (inr m) = absurd (omega (arith, l, m.0))
      then_row s (inr l) (inl m) = absurd (omega (arith, l.0, m))
      then_row s (inr l) (inr m) = record {
        session_is = s;
        row_is = m.0;
        above = less_is first k.version l.1;
        within = most_is k.version last m.1;
      }

      on : (session < k.session) ⊎ ((session ≡ k.session) × (ordering_then (nat_cmp row k.row) (nat_cmp first k.version) ≡ Less))
          → (k.session < session) ⊎ ((k.session ≡ session) × (is_gt (ordering_then (nat_cmp k.row row) (nat_cmp k.version last)) ≡ false))
          → IsInside session row first last k
      on (inl l) (inl m) = absurd (omega (arith, l, m))
      on (inl l) (inr m) = absurd (omega (arith, l, m.0))
      on (inr l) (inl m) = absurd (omega (arith, l.0, m))
      on (inr l) (inr m) =
          then_row m.0 (less_first row k.row (nat_cmp first k.version) l.1) (most_first k.row row (nat_cmp k.version last) m.1)

-- and all of both
not_below : (m : ℕ) → nat_lt m m ≡ false
not_below m = grind (arith, nat_tests)

behind : (session row first version : ℕ) → first < version → own_cmp (own_at session row first) (own_at session row version) ≡ Less
behind session row first version h =
    rw (not_below session, eq_self session, not_below row, eq_self row, lt-ltb first version h) refl

up_to : (session row version last : ℕ) → version ≤ last → is_gt (own_cmp (own_at session row version) (own_at session row last)) ≡ false
up_to session row version last h = rw (not_below session, eq_self session, not_below row, eq_self row) (at (nat_lt version last) (version == last) refl refl) where
  at : (x y : Bool) → nat_lt version last ≡ x → (version == last) ≡ y → is_gt (cond x Less (cond y Equal Greater)) ≡ false
  at true y e f = refl
  at false true e f = refl
  at false false e f = grind (arith, nat_tests)

pub is_some_key : List OwnChange → Bool
is_some_key [] = false
is_some_key (k ∷ ks) = true

pub range_tells : (made : BTreeSet OwnChange) (session row first last : ℕ) (keys : List OwnChange)
    → IsKeyRangeOf own_cmp (Excluded (own_at session row first)) (Included (own_at session row last)) made keys
    → Tells (HasBetween made session row first last) (is_some_key keys)
unfolding is_some_key
range_tells made session row first last [] range = λ has. none has.0 has.1 has.2 has.3 where
  none : (version : ℕ) → first < version → version ≤ last → IsTrue (contains own_cmp made (own_at session row version)) → ⊥
  none version low high there =
      let out : contains own_cmp made (own_at session row version) ≡ false =
      range.5 refl (own_at session row version) (behind session row first version low, up_to session row version last high) in
      absurd (cc)
range_tells made session row first last (k ∷ ks) range = found (inside session row first last k range.1.0.0 range.1.0.1) range.1.1 where
  found : IsInside session row first last k → contains own_cmp made k ≡ true → HasBetween made session row first last
  found is there = (
    k.version,
    is.above,
    is.within,
    subst (λ z. contains own_cmp made (own_at session z k.version) ≡ true) is.row_is
        (subst (λ z. contains own_cmp made (own_at z k.row k.version) ≡ true) is.session_is there),
  )

-- the first key of a range, taken out
pub first_key : {A : Type 0} (shows : A → OwnChange) (keys rest : List OwnChange) (o : Option A)
    → MatchOption o ((keys ≡ []) × (rest ≡ [])) (λ x. keys ≡ shows x ∷ rest) → is_some_key keys ≡ is_some o
unfolding is_some_key
first_key shows keys rest None e = ap is_some_key e.0
first_key shows keys rest (Some x) e = ap is_some_key e
