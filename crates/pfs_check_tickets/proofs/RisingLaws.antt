-- No greater ticket is replaced along a row, where each is above the one right before it.
use Rattle.std.proofs.Common.{◌≡◌, refl, ℕ, zero, suc, ◌+◌, ◌-◌, ◌<◌, ◌≤◌, ◌==◌, inl, inr, Bool, true, false, ◌&&◌, not, cond, nat_lt, nat_le, List, [], ◌∷◌, ◌++◌, sym, ◌∙◌, ap, subst, arith}
use Rattle.std.specs.Prelude.{◌⊎◌, ◌↔◌}
use Rattle.std.proofs.lemmas.Bool.{eqb-true, leb-false, leb-true, lt-ltb, ltb-false, ltb-true}
use Rattle.pfs_model.proofs.EachLists.{each_join}
use Rattle.pfs_model.specs.declared.changes.Change.{Change}
use Rattle.pfs_model.specs.Actions.{IsAmong}
use Rattle.pfs_model.specs.Chains.{Each, each_of, release_of, times}
use Rattle.pfs_model.specs.EntryPlaces.{Placed}
use Rattle.pfs_model.specs.Rings.{LongRises, Ticketed, is_released_between, ticketed_at}
use Rattle.pfs_check_faults.specs.ReportCases.{AllHave}
use Rattle.pfs_check_faults.specs.RingFaults.{IsPutBefore, LongRisesAt}

each_at : {A : Type 0} (fact : A → Type 0) (x : A) (xs : List A) → Each fact xs → IsAmong x xs → fact x
each_at fact x [] e i = absurd i
each_at fact x (y ∷ ys) e (inl s) = subst fact s e.0
each_at fact x (y ∷ ys) e (inr i) = each_at fact x ys e.1 i

abbrev IsAbove : List Placed → Ticketed → Type 0
IsAbove all next = (first : Ticketed) → IsPutBefore all first next → first.ticket < next.ticket

each_above : (all earlier ps : List Placed) → AllHave (LongRisesAt all) earlier ps → Each (IsAbove all) (each_of ticketed_at ps)
each_above all earlier [] h = tt
each_above all earlier (p ∷ ps) h =
    each_join (IsAbove all) (ticketed_at p.entry) (each_of ticketed_at ps) h.0 (each_above all (p ∷ earlier) ps h.1)

-- one that passes a test, or none does
some_or_none : {A : Type 0} (test : A → Bool) (xs : List A)
    → ((x : A) × IsAmong x xs × (test x ≡ true)) ⊎ ((x : A) → IsAmong x xs → test x ≡ true → ⊥)
some_or_none test [] = inr (λ x i e. i)
some_or_none {A} test (x ∷ xs) = at (test x) refl (some_or_none test xs) where
  at : (b : Bool) → test x ≡ b → ((y : A) × IsAmong y xs × (test y ≡ true)) ⊎ ((y : A) → IsAmong y xs → test y ≡ true → ⊥)
      → ((y : A) × IsAmong y (x ∷ xs) × (test y ≡ true)) ⊎ ((y : A) → IsAmong y (x ∷ xs) → test y ≡ true → ⊥)
  at true e rest = inl (x, inl refl, e)
  at false e (inl found) = inl (found.0, inr found.1, found.2)
  at false e (inr none) = inr (λ y i f. on y i f) where
    on : (y : A) → IsAmong y (x ∷ xs) → test y ≡ true → ⊥
    on y (inl s) f = absurd (other (test y) (ap test s) f) where
      other : (b : Bool) → test x ≡ b → b ≡ true → ⊥
      other b g h = absurd (cc)
    on y (inr i) f = none y i f

-- between two versions of a row
abbrev is_between : ℕ → ℕ → ℕ → Ticketed → Bool
is_between row low high other = (other.row == row) && (nat_lt low other.version && nat_lt other.version high)

record IsBetween (row low high : ℕ) (other : Ticketed) : Type 0 where
  row_is : other.row ≡ row
  above : low < other.version
  below : other.version < high

between_is : (row low high : ℕ) (other : Ticketed) → is_between row low high other ≡ true → IsBetween row low high other
between_is row low high other = at (other.row == row) (nat_lt low other.version) (nat_lt other.version high) refl refl refl where
  at : (a b c : Bool) → (other.row == row) ≡ a → nat_lt low other.version ≡ b → nat_lt other.version high ≡ c → (a && (b && c)) ≡ true
      → IsBetween row low high other
  at true true true e f g h = record {
    row_is = eqb-true other.row row e;
    above = ltb-true low other.version f;
    below = ltb-true other.version high g;
  }
  at true true false e f g h = absurd (cc)
  at true false c e f g h = absurd (cc)
  at false b c e f g h = absurd (cc)

eq_same : (a b : ℕ) → a ≡ b → (a == b) ≡ true
eq_same a b e = grind arith

between_holds : (row low high : ℕ) (other : Ticketed) → other.row ≡ row → low < other.version → other.version < high
    → is_between row low high other ≡ true
between_holds row low high other e f g =
    rw (eq_same other.row row e, lt-ltb low other.version f, lt-ltb other.version high g) refl

-- a part of what isn't released isn't
abbrev is_freed : ℕ → ℕ → ℕ → Change → Bool
is_freed row low high release = (release.row == row) && nat_le low release.version && nat_lt release.version high

none_test : (row low high : ℕ) (releases : List Change) → is_released_between releases row low high ≡ false
    → times (is_freed row low high) releases ≡ 0
none_test row low high releases = at (times (is_freed row low high) releases == 0) refl where
  at : (b : Bool) → (times (is_freed row low high) releases == 0) ≡ b → not b ≡ false → times (is_freed row low high) releases ≡ 0
  at true e h = eqb-true (times (is_freed row low high) releases) 0 e
  at false e h = absurd (cc)

test_none : (row low high : ℕ) (releases : List Change) → times (is_freed row low high) releases ≡ 0
    → is_released_between releases row low high ≡ false
test_none row low high releases e = rw (eq_same (times (is_freed row low high) releases) 0 e) refl

fewer : (row low high more less : ℕ) (releases : List Change) → low ≤ more → less ≤ high
    → times (is_freed row more less) releases ≤ times (is_freed row low high) releases
fewer row low high more less [] a b = omega arith
fewer row low high more less (r ∷ rs) a b =
    at (r.row == row) (nat_le more r.version) (nat_lt r.version less) (nat_le low r.version) (nat_lt r.version high) refl refl refl refl
    (fewer row low high more less rs a b) where
      at : (x y z v w : Bool) → nat_le more r.version ≡ y → nat_lt r.version less ≡ z → nat_le low r.version ≡ v → nat_lt r.version high ≡ w
          → times (is_freed row more less) rs ≤ times (is_freed row low high) rs
          → cond (x && y && z) 1 0 + times (is_freed row more less) rs ≤ cond (x && v && w) 1 0 + times (is_freed row low high) rs
      at false y z v w e f g h s = omega (arith, s)
      at true false z v w e f g h s = omega (arith, s)
      at true true false v w e f g h s = omega (arith, s)
      at true true true true true e f g h s = omega (arith, s)
      at true true true false w e f g h s = absurd (omega (arith, a, leb-true more r.version e, leb-false low r.version g))
      at true true true true false e f g h s = absurd (omega (arith, b, ltb-true r.version less f, ltb-false r.version high h))

within : (row low high more less : ℕ) (releases : List Change) → low ≤ more → less ≤ high
    → is_released_between releases row low high ≡ false → is_released_between releases row more less ≡ false
within row low high more less releases a b h =
    test_none row more less releases (omega (arith, fewer row low high more less releases a b, none_test row low high releases h))

-- so far apart by version
abbrev Step : List Placed → ℕ → Ticketed → Ticketed → Type 0
Step all n one other = one.row ≡ other.row → one.version < other.version → other.version ≤ one.version + n
    → is_released_between (each_of release_of all) one.row one.version other.version ≡ false → one.ticket < other.ticket

rise : (all : List Placed) → Each (IsAbove all) (each_of ticketed_at all) → (n : ℕ) (first next : Ticketed)
    → IsAmong first (each_of ticketed_at all) → IsAmong next (each_of ticketed_at all) → first.row ≡ next.row
    → first.version < next.version → next.version ≤ first.version + n
    → is_released_between (each_of release_of all) first.row first.version next.version ≡ false → first.ticket < next.ticket
rise all each zero first next i j row lower near free = absurd (omega (arith, lower, near))
rise all each (suc n) first next i j row lower near free =
    on (some_or_none (is_between next.row first.version next.version) (each_of ticketed_at all))
    (λ x k. rise all each n first x i k) (λ x k. rise all each n x next k j) where
      on : ((x : Ticketed) × IsAmong x (each_of ticketed_at all) × (is_between next.row first.version next.version x ≡ true))
          ⊎ ((x : Ticketed) → IsAmong x (each_of ticketed_at all) → is_between next.row first.version next.version x ≡ true → ⊥)
          → ((x : Ticketed) → IsAmong x (each_of ticketed_at all) → Step all n first x)
          → ((x : Ticketed) → IsAmong x (each_of ticketed_at all) → Step all n x next) → first.ticket < next.ticket
      on (inr none) up down = each_at (IsAbove all) next (each_of ticketed_at all) each j first (record {
        there = i;
        row = row;
        lower = lower;
        none = λ other k same above below. none other k (between_holds next.row first.version next.version other same above below);
        unreleased = free;
      })
      on (inl found) up down = at found.0 found.1 (between_is next.row first.version next.version found.0 found.2) where
        at : (x : Ticketed) → IsAmong x (each_of ticketed_at all) → IsBetween next.row first.version next.version x → first.ticket < next.ticket
        at x k b =
            let one : first.ticket < x.ticket =
            up x k (row ∙ sym b.row_is) b.above (omega (arith, b.below, near))
            (within first.row first.version next.version first.version x.version (each_of release_of all) (omega arith) (omega (arith, b.below)) free) in
            let two : x.ticket < next.ticket =
            down x k b.row_is b.below (omega (arith, b.above, near))
            (subst (λ z. is_released_between (each_of release_of all) z x.version next.version ≡ false) (row ∙ sym b.row_is)
            (within first.row first.version next.version x.version next.version (each_of release_of all) (omega (arith, b.above)) (omega arith) free)) in
            omega (arith, one, two)

pub rises_back : (all : List Placed) → AllHave (LongRisesAt all) [] all → LongRises all
rises_back all h first next i j row lower free =
    rise all (each_above all [] all h) next.version first next i j row lower (omega arith) free
