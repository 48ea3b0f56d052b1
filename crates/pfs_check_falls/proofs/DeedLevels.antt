-- Where deeds stand along their row, by levels.
use Rattle.std.proofs.Common.{◌≡◌, refl, ℕ, ◌+◌, ◌*◌, ◌<◌, ◌≤◌, ◌==◌, Bool, true, false, ◌&&◌, ◌||◌, cond, not, sym, ◌∙◌, ◌⊎◌, inl, inr, arith}
use Rattle.std.proofs.lemmas.Bool.{cases_lt, eqb-true}
use Rattle.std.proofs.lemmas.Bool.Decides.{nat_tests}
use Rattle.pfs_model.specs.Actions.{Deed}
use Rattle.pfs_check_faults.specs.ActionFaults.{Precedes}
use Rattle.pfs_check_falls.specs.DeedOrder.{AreAlike, Before, IsUpTo, alike_test, level_of}

-- a level tells the version, and whether it is a release
pub same_level : (v w : ℕ) (a b : Bool) → 2 * v + cond a 1 0 ≡ 2 * w + cond b 1 0 → (v ≡ w) × (a ≡ b)
same_level v w true true e = (omega (arith, e), refl)
same_level v w false false e = (omega (arith, e), refl)
same_level v w true false e = absurd (omega (arith, e))
same_level v w false true e = absurd (omega (arith, e))

pub releases_same : (one other : Deed) → level_of one ≡ level_of other → one.releases ≡ other.releases
releases_same one other e = (same_level one.version other.version one.releases other.releases e).1

level_above : (v w : ℕ) (a b : Bool) → v < w → 2 * v + cond a 1 0 < 2 * w + cond b 1 0
level_above v w true true l = omega (arith, l)
level_above v w true false l = omega (arith, l)
level_above v w false true l = omega (arith, l)
level_above v w false false l = omega (arith, l)

abbrev Stands : ℕ → ℕ → ℕ → ℕ → Bool → Bool → Type 0
Stands v w a b r s = (2 * v + cond r 1 0 < 2 * w + cond s 1 0) ⊎ ((2 * v + cond r 1 0 ≡ 2 * w + cond s 1 0) × (r ≡ true) × (a < b))

abbrev Comes : ℕ → ℕ → ℕ → ℕ → Bool → Bool → Type 0
Comes v w a b r s = (v < w) ⊎ ((v ≡ w) × (r ≡ false) × (s ≡ true)) ⊎ ((v ≡ w) × (r ≡ true) × (s ≡ true) × (a < b))

stands_of : (v w a b : ℕ) (r s : Bool) → Comes v w a b r s → Stands v w a b r s
stands_of v w a b r s (inl l) = inl (level_above v w r s l)
stands_of v w a b false true (inr (inl h)) = let e : v ≡ w = h.0 in inl (omega (arith, e))
stands_of v w a b true s (inr (inl h)) = let no : true ≡ false = h.1 in absurd (cc)
stands_of v w a b false false (inr (inl h)) = let no : false ≡ true = h.2 in absurd (cc)
stands_of v w a b true true (inr (inr h)) = let e : v ≡ w = h.0 in inr (omega (arith, e), refl, h.3)
stands_of v w a b false s (inr (inr h)) = let no : false ≡ true = h.1 in absurd (cc)
stands_of v w a b true false (inr (inr h)) = let no : false ≡ true = h.2 in absurd (cc)

comes_of : (v w a b : ℕ) (r s : Bool) → Stands v w a b r s → Comes v w a b r s
comes_of v w a b true true (inl l) = inl (omega (arith, l))
comes_of v w a b true false (inl l) = inl (omega (arith, l))
comes_of v w a b false false (inl l) = inl (omega (arith, l))
comes_of v w a b false true (inl l) = on (cases_lt v w) where
  on : (v < w) ⊎ (w ≤ v) → Comes v w a b false true
  on (inl less) = inl less
  on (inr most) = inr (inl (omega (arith, l, most), refl, refl))
comes_of v w a b true true (inr h) = let e : 2 * v + 1 ≡ 2 * w + 1 = h.0 in inr (inr (omega (arith, e), refl, refl, h.2))
comes_of v w a b true false (inr h) = let e : 2 * v + 1 ≡ 2 * w + 0 = h.0 in absurd (omega (arith, e))
comes_of v w a b false s (inr h) = let no : false ≡ true = h.1 in absurd (cc)

pub before_of : (one next : Deed) → Precedes one next → Before one next
before_of one next p = (p.0, stands_of one.version next.version one.action next.action one.releases next.releases p.1)

pub precedes_of : (one next : Deed) → Before one next → Precedes one next
precedes_of one next b = (b.0, comes_of one.version next.version one.action next.action one.releases next.releases b.1)

-- what is sorted before one isn't behind it
pub not_back : (one other : Deed) → IsUpTo other one → Before one other → ⊥
not_back one other up (row, inl low) = let l : level_of other ≤ level_of one = up.level (sym row) in omega (arith, l, low)
not_back one other up (row, inr h) =
    let l : other.action ≤ one.action = up.action (sym row) (sym h.0) in let less : one.action < other.action = h.2 in omega (arith, l, less)

pub never_both : (one other : Deed) → Before one other → Before other one → ⊥
never_both one other (row, inl low) (back, inl high) = omega (arith, low, high)
never_both one other (row, inl low) (back, inr h) = let e : level_of other ≡ level_of one = h.0 in omega (arith, low, e)
never_both one other (row, inr h) (back, inl high) = let e : level_of one ≡ level_of other = h.0 in omega (arith, high, e)
never_both one other (row, inr h) (back, inr k) = let l : one.action < other.action = h.2 in let m : other.action < one.action = k.2 in omega (arith, l, m)

pub not_alike_before : (one other : Deed) → AreAlike one other → Before other one → ⊥
not_alike_before one other a (row, inl low) = let e : level_of one ≡ level_of other = a.level in omega (arith, low, e)
not_alike_before one other a (row, inr h) =
    let e : one.action ≡ other.action = a.action (releases_same one other a.level ∙ h.1) in let l : other.action < one.action = h.2 in omega (arith, e, l)

pub alike_self : (one : Deed) → AreAlike one one
alike_self one = record { row = refl; level = refl; action = λ r. refl }

pub alike_back : (one other : Deed) → AreAlike one other → AreAlike other one
alike_back one other a = record { row = sym a.row; level = sym a.level; action = λ r. sym (a.action (releases_same one other a.level ∙ r)) }

pub before_alike : (one last next : Deed) → AreAlike last next → Before one last → Before one next
before_alike one last next a (row, inl low) = let e : level_of last ≡ level_of next = a.level in (row ∙ a.row, inl (omega (arith, low, e)))
before_alike one last next a (row, inr h) =
    let e : last.action ≡ next.action = a.action (sym (releases_same one last h.0) ∙ h.1) in
    let l : one.action < last.action = h.2 in
    (row ∙ a.row, inr (h.0 ∙ a.level, h.1, omega (arith, e, l)))

pub alike_before : (one last next : Deed) → AreAlike one last → Before last next → Before one next
alike_before one last next a (row, inl low) = let e : level_of one ≡ level_of last = a.level in (a.row ∙ row, inl (omega (arith, low, e)))
alike_before one last next a (row, inr h) =
    let r : one.releases ≡ true = releases_same one last a.level ∙ h.1 in
    let e : one.action ≡ last.action = a.action r in
    let l : last.action < next.action = h.2 in
    (a.row ∙ row, inr (a.level ∙ h.0, r, omega (arith, e, l)))

pub before_before : (one other next : Deed) → Before one other → Before other next → Before one next
before_before one other next (row, inl low) (more, inl high) = (row ∙ more, inl (omega (arith, low, high)))
before_before one other next (row, inl low) (more, inr h) = let e : level_of other ≡ level_of next = h.0 in (row ∙ more, inl (omega (arith, low, e)))
before_before one other next (row, inr h) (more, inl high) = let e : level_of one ≡ level_of other = h.0 in (row ∙ more, inl (omega (arith, high, e)))
before_before one other next (row, inr h) (more, inr k) =
    let l : one.action < other.action = h.2 in let m : other.action < next.action = k.2 in (row ∙ more, inr (h.0 ∙ k.0, h.1, omega (arith, l, m)))

-- of two in their order one is before the other, or they are alike
pub sorted_split : (one other : Deed) → IsUpTo one other → one.row ≡ other.row
    → Before one other ⊎ (AreAlike one other × (one.action ≤ other.action))
sorted_split one other up row = on (cases_lt (level_of one) (level_of other)) where
  level : level_of one ≤ level_of other
  level = up.level row

  even : level_of one ≡ level_of other → Bool → Before one other ⊎ (AreAlike one other × (one.action ≤ other.action))
  even e b = by one.releases refl (cases_lt one.action other.action) where
    low : one.action ≤ other.action
    low = up.action row e

    by : (r : Bool) → one.releases ≡ r → (one.action < other.action) ⊎ (other.action ≤ one.action) → Before one other ⊎ (AreAlike one other × (one.action ≤ other.action))
    by true q (inl less) = inl (row, inr (e, q, less))
    by true q (inr most) = inr (record { row = row; level = e; action = λ r. omega (arith, low, most) }, low)
    by false q c = inr (record { row = row; level = e; action = λ r. absurd (never_true one.releases q r) }, low) where
      never_true : (b : Bool) → b ≡ false → b ≡ true → ⊥
      never_true b p q = cc

  on : (level_of one < level_of other) ⊎ (level_of other ≤ level_of one) → Before one other ⊎ (AreAlike one other × (one.action ≤ other.action))
  on (inl less) = inl (row, inl less)
  on (inr most) = even (omega (arith, level, most)) true

-- what the test of two deeds of a row says
pub alike_is : (last next : Deed) → last.row ≡ next.row → alike_test last next ≡ true → AreAlike last next
alike_is last next row t = on (level_of last == level_of next) refl t where
  on : (b : Bool) → (level_of last == level_of next) ≡ b → (b && (not last.releases || (last.action == next.action))) ≡ true → AreAlike last next
  on false e h = absurd (cc)
  on true e h = record { row = row; level = eqb-true (level_of last) (level_of next) e; action = λ r. by last.releases r h } where
    by : (b : Bool) → b ≡ true → (not b || (last.action == next.action)) ≡ true → last.action ≡ next.action
    by true r h = eqb-true last.action next.action h
    by false r h = absurd (cc)

pub unlike_is : (last next : Deed) → IsUpTo last next → last.row ≡ next.row → alike_test last next ≡ false → Before last next
unlike_is last next up row t = on (sorted_split last next up row) where
  same_test : (m n : ℕ) → m ≡ n → (m == n) ≡ true
  same_test m n e = grind (arith, nat_tests)

  pass : AreAlike last next → alike_test last next ≡ true
  pass a = by (level_of last == level_of next) (same_test (level_of last) (level_of next) a.level) last.releases refl where
    by : (b : Bool) → b ≡ true → (r : Bool) → last.releases ≡ r → (b && (not r || (last.action == next.action))) ≡ true
    by false e r q = absurd (cc)
    by true e false q = refl
    by true e true q = same_test last.action next.action (a.action q)

  on : Before last next ⊎ (AreAlike last next × (last.action ≤ next.action)) → Before last next
  on (inl b) = b
  on (inr h) = absurd (two (alike_test last next) t (pass h.0)) where
    two : (b : Bool) → b ≡ false → b ≡ true → ⊥
    two b p q = cc
