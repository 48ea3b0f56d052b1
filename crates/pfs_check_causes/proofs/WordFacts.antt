-- The words of a line, and what they show.
use Rattle.std.proofs.Common.{◌≡◌, ◌≢◌, refl, ℕ, ◌+◌, ◌/◌, ◌%◌, ◌<◌, ◌≤◌, ◌==◌, Bool, true, false, not, ◌&&◌, ◌||◌, cond, nat_lt, nat_le, List, [], ◌∷◌, ◌++◌, sym, ◌∙◌, ap, subst, arith, Option, Some, None, inl, inr}
use Rattle.std.specs.Prelude.{if◌then◌else◌, ◌⊎◌}
use Rattle.std.specs.BTreeMap.{BTreeMap, get}
use Rattle.std.specs.BTreeSet.{BTreeSet, contains}
use Rattle.std.proofs.lemmas.Bool.{eqb-false, eqb-true, leb-false, leb-true, ltb-false, ltb-true}
use Rattle.std.proofs.lemmas.Bool.Decides.{nat_tests}
use Rattle.pfs_model.specs.declared.changes.Change.{Change}
use Rattle.pfs_model.specs.Actions.{IsAmong}
use Rattle.pfs_model.specs.Causes.{AreBusy, IsCaused, IsHeldByOther, IsOthers, IsReleased, IsWord}
use Rattle.pfs_model.specs.Chains.{AreChained, change_at, each_of, is_that, release_of, row_change, times}
use Rattle.pfs_model.specs.EntryPlaces.{Placed, before_phase, up_to_phase}
use Rattle.pfs_model.specs.Floors.{floor_of}
use Rattle.pfs_check_floors.proofs.GreatestFacts.{among_times, some_times, that_self}
use Rattle.pfs_check_floors.specs.KnownFloors.{Tells, had_by}
use Rattle.pfs_check_floors.specs.ReleasedRows.{AreFreed, change_cmp, freed_by}
use Rattle.pfs_check_causes.specs.declared.own.OwnChange.{OwnChange}
use Rattle.pfs_check_causes.specs.OwnVersions.{AreOwn, HasBetween, own_at, own_cmp, was_made}
use Rattle.pfs_check_causes.specs.WordTests.{busy_test, freed_up_to}
use Rattle.pfs_check_causes.proofs.OwnFacts.{by_another, made_none, made_own, not_own}

pub word_tells : (all earlier : List Placed) (place : Placed) (row word : ℕ) (seen b : Bool)
    → Tells ((floor_of all earlier place row ≤ word / 4) × (word / 4 ≤ had_by row_change all place.phase row)) seen
    → b ≡ (seen && nat_lt (word % 4) 3) → Tells (IsWord all earlier place row word) b
word_tells all earlier place row word seen b t is = subst (Tells (IsWord all earlier place row word)) (sym is) (at seen (nat_lt (word % 4) 3) refl t) where
  at : (x y : Bool) → nat_lt (word % 4) 3 ≡ y
      → Tells ((floor_of all earlier place row ≤ word / 4) × (word / 4 ≤ had_by row_change all place.phase row)) x
      → Tells (IsWord all earlier place row word) (x && y)
  at true true e both = record { state = ltb-true (word % 4) 3 e; floor = both.0; had = both.1 }
  at true false e both = λ w. omega (arith, w.state, ltb-false (word % 4) 3 e)
  at false y e none = λ w. none (w.floor, w.had)

pub busy_tells : (first second : ℕ) → Tells (AreBusy first second) (busy_test first second)
busy_tells first second = at (second == first) refl where
  one : second ≡ first → (b : Bool) → (first % 4 == 1) ≡ b → Tells (AreBusy first second) b
  one s true e = inl (eqb-true (first % 4) 1 e, s)
  one s false e = λ busy. none busy where
    none : AreBusy first second → ⊥
    none (inl p) = eqb-false (first % 4) 1 e p.0
    none (inr p) = p.0 s

  two : (second ≢ first) → (x y z : Bool) → nat_le (first / 4) (second / 4) ≡ x → (second / 4 == first / 4) ≡ y → (second % 4 == 2) ≡ z
      → Tells (AreBusy first second) (x && (not y || not z))
  two n false y z e f g = λ busy. none busy where
    none : AreBusy first second → ⊥
    none (inl p) = n p.1
    none (inr p) = omega (arith, p.1, leb-false (first / 4) (second / 4) e)
  two n true true true e f g = λ busy. none busy where
    none : AreBusy first second → ⊥
    none (inl p) = n p.1
    none (inr p) = p.2 (eqb-true (second / 4) (first / 4) f) (eqb-true (second % 4) 2 g)
  two n true true false e f g = inr (n, leb-true (first / 4) (second / 4) e, (λ s. eqb-false (second % 4) 2 g))
  two n true false z e f g = inr (n, leb-true (first / 4) (second / 4) e, (λ s. absurd (eqb-false (second / 4) (first / 4) f s)))

  at : (b : Bool) → (second == first) ≡ b
      → Tells (AreBusy first second)
      (if b then first % 4 == 1 else (nat_le (first / 4) (second / 4) && (not (second / 4 == first / 4) || not (second % 4 == 2))))
  at true e = one (eqb-true second first e) (first % 4 == 1) refl
  at false e = two (eqb-false second first e) (nat_le (first / 4) (second / 4)) (second / 4 == first / 4) (second % 4 == 2) refl refl refl

-- before the next phase is up to this one
behind_is : (phase : ℕ) (ps : List Placed) → before_phase (phase + 1) ps ≡ up_to_phase phase ps
behind_is phase [] = refl
behind_is phase (p ∷ ps) =
    ap (λ z. cond z (p ∷ []) [] ++ before_phase (phase + 1) ps) (same p.phase phase)
    ∙ ap (λ z. cond (nat_le p.phase phase) (p ∷ []) [] ++ z) (behind_is phase ps) where
      same : (m n : ℕ) → nat_lt m (n + 1) ≡ nat_le m n
      same m n = grind (arith, nat_tests)

pub released_tells : (all : List Placed) (place : Placed) (freed : BTreeMap Change ℕ) (row version phase : ℕ) (b : Bool) → AreFreed all freed
    → place.phase ≡ phase → b ≡ freed_up_to (get change_cmp freed (change_at row version)) phase
    → Tells (IsReleased all place row version) b
released_tells all place freed row version phase b known p is =
    let c : Change = change_at row version in
    subst (λ z. Tells (IsAmong (change_at row version) (each_of release_of (up_to_phase z all))) b) (sym p)
    (at b (is ∙ later (get change_cmp freed c) phase ∙ known c (phase + 1)
    ∙ ap (λ z. nat_lt 0 (times (is_that c) (each_of release_of z))) (behind_is phase all))) where
      later : (o : Option ℕ) (n : ℕ) → freed_up_to o n ≡ freed_by o (n + 1)
      later None n = refl
      later (Some first) n = grind (arith, nat_tests)

      at : (x : Bool) → x ≡ nat_lt 0 (times (is_that (change_at row version)) (each_of release_of (up_to_phase phase all)))
          → Tells (IsAmong (change_at row version) (each_of release_of (up_to_phase phase all))) x
      at true e =
          among_times (change_at row version) (each_of release_of (up_to_phase phase all))
          (ltb-true 0 (times (is_that (change_at row version)) (each_of release_of (up_to_phase phase all))) (sym e))
      at false e = λ among.
          let some : 0 < times (is_that (change_at row version)) (each_of release_of (up_to_phase phase all)) =
          some_times (is_that (change_at row version)) (change_at row version) (each_of release_of (up_to_phase phase all)) among
          (that_self (change_at row version)) in
          omega (arith, some, ltb-false 0 (times (is_that (change_at row version)) (each_of release_of (up_to_phase phase all))) (sym e))

pub held_tells : (all : List Placed) (place : Placed) (row word : ℕ) (others released b : Bool) → Tells (IsOthers all place row (word / 4 + 1)) others
    → Tells (IsReleased all place row (word / 4)) released → b ≡ (not (word % 4 == 1) || (others || released))
    → Tells (IsHeldByOther all place row word) b
held_tells all place row word others released b t u is =
    subst (Tells (IsHeldByOther all place row word)) (sym is) (at (word % 4 == 1) others released refl t u) where
      none : (IsOthers all place row (word / 4 + 1) → ⊥) → (IsReleased all place row (word / 4) → ⊥)
          → (IsOthers all place row (word / 4 + 1) ⊎ IsReleased all place row (word / 4)) → ⊥
      none n m (inl p) = n p
      none n m (inr p) = m p

      at : (x y z : Bool) → (word % 4 == 1) ≡ x → Tells (IsOthers all place row (word / 4 + 1)) y → Tells (IsReleased all place row (word / 4)) z
          → Tells (IsHeldByOther all place row word) (not x || (y || z))
      at false y z e t u = λ dirty. absurd (eqb-false (word % 4) 1 e dirty)
      at true true z e t u = λ dirty. inl t
      at true false true e t u = λ dirty. inr u
      at true false false e t u = λ held. none t u (held (eqb-true (word % 4) 1 e))

pub freed_tells : (all : List Placed) (place : Placed) (row word : ℕ) (released b : Bool) → Tells (IsReleased all place row (word / 4)) released
    → b ≡ (not (word % 4 == 0) || released) → Tells (word % 4 ≡ 0 → IsReleased all place row (word / 4)) b
freed_tells all place row word released b t is =
    subst (Tells (word % 4 ≡ 0 → IsReleased all place row (word / 4))) (sym is) (at (word % 4 == 0) released refl t) where
      at : (x y : Bool) → (word % 4 == 0) ≡ x → Tells (IsReleased all place row (word / 4)) y
          → Tells (word % 4 ≡ 0 → IsReleased all place row (word / 4)) (not x || y)
      at false y e t = λ free. absurd (eqb-false (word % 4) 0 e free)
      at true true e t = λ free. t
      at true false e t = λ freed. t (freed (eqb-true (word % 4) 0 e))

-- the versions between two words
abbrev pub AreOthers : List Placed → Placed → ℕ → ℕ → ℕ → Type 0
AreOthers all place row first last =
    (version : ℕ) → first < version → version ≤ last → IsOthers all place row version

pub between_tells : (all : List Placed) (place : Placed) (made : BTreeSet OwnChange) (row first last : ℕ) (own : Bool)
    → AreChained row_change all → AreOwn all made → last ≤ had_by row_change all place.phase row
    → Tells (HasBetween made place.session row first last) own → Tells (AreOthers all place row first last) (not own)
between_tells all place made row first last true chained known had some =
    λ others. not_own all place row some.0 chained (made_own all place row some.0 true (sym some.3 ∙ known (own_at place.session row some.0)) refl)
    (others some.0 some.1 some.2)
between_tells all place made row first last false chained known had none =
    λ version low high.
    by_another all place row version chained (omega (arith, low)) (omega (arith, high, had))
    (made_none all place row version false (on version low high) refl) where
      on : (version : ℕ) → first < version → version ≤ last → false ≡ was_made all (own_at place.session row version)
      on version low high = sym (off (contains own_cmp made (own_at place.session row version)) refl) ∙ known (own_at place.session row version) where
        off : (b : Bool) → contains own_cmp made (own_at place.session row version) ≡ b → b ≡ false
        off true e = absurd (none (version, low, high, e))
        off false e = refl

pub caused_tells : (all earlier : List Placed) (place : Placed) (made : BTreeSet OwnChange) (row first second : ℕ)
    (one two busy own words first_held second_held freed b : Bool) → AreChained row_change all → AreOwn all made
    → Tells (IsWord all earlier place row first) one → Tells (IsWord all earlier place row second) two → Tells (AreBusy first second) busy
    → Tells (HasBetween made place.session row (first / 4) (second / 4)) own → words ≡ (one && (two && (busy && not own)))
    → Tells (IsHeldByOther all place row first) first_held → Tells (IsHeldByOther all place row second) second_held
    → Tells (second % 4 ≡ 0 → IsReleased all place row (second / 4)) freed → b ≡ (words && (first_held && (second_held && freed)))
    → Tells (IsCaused all earlier place row first second) b
caused_tells all earlier place made row first second one two busy own words first_held second_held freed b chained known t1 t2 tb to wis h1 h2 fr is =
    subst (Tells (IsCaused all earlier place row first second)) (sym (is ∙ ap (λ z. z && (first_held && (second_held && freed))) wis))
    (at one two busy own first_held second_held freed t1 t2 tb to h1 h2 fr) where
      at : (a b c d e f g : Bool) → Tells (IsWord all earlier place row first) a → Tells (IsWord all earlier place row second) b
          → Tells (AreBusy first second) c → Tells (HasBetween made place.session row (first / 4) (second / 4)) d
          → Tells (IsHeldByOther all place row first) e → Tells (IsHeldByOther all place row second) f
          → Tells (second % 4 ≡ 0 → IsReleased all place row (second / 4)) g
          → Tells (IsCaused all earlier place row first second) ((a && (b && (c && not d))) && (e && (f && g)))
      at false b c d e f g p q r s u v w = λ caused. p caused.first_is
      at true false c d e f g p q r s u v w = λ caused. q caused.second_is
      at true true false d e f g p q r s u v w = λ caused. r caused.words
      at true true true true e f g p q r s u v w = λ caused.
          between_tells all place made row (first / 4) (second / 4) true chained known q.had s caused.between
      at true true true false false f g p q r s u v w = λ caused. u caused.first_held
      at true true true false true false g p q r s u v w = λ caused. v caused.second_held
      at true true true false true true false p q r s u v w = λ caused. w caused.freed
      at true true true false true true true p q r s u v w = record {
        first_is = p;
        second_is = q;
        words = r;
        between = between_tells all place made row (first / 4) (second / 4) false chained known q.had s;
        first_held = u;
        second_held = v;
        freed = w;
      }
