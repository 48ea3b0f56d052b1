-- What stands right before a deed, from one deed to the next in their order.
use Rattle.std.proofs.Common.{◌≡◌, refl, ℕ, ◌+◌, ◌-◌, ◌<◌, ◌≤◌, ◌==◌, Bool, true, false, cond, List, sym, ◌∙◌, ◌⊎◌, inl, inr, arith, Option, Some, None}
use Rattle.std.specs.Prelude.{slice_get}
use Rattle.std.proofs.lemmas.Bool.{cases_lt, eqb-false, eqb-true}
use Rattle.pfs_check_falls.specs.declared.falls.PlacedDeed.{PlacedDeed}
use Rattle.pfs_check_falls.specs.DeedOrder.{AreAlike, AreInOrder, Before, IsFloor, IsUpTo, alike_test, floor_behind, floor_next}
use Rattle.pfs_check_falls.specs.FallenDeeds.{deed_of}
use Rattle.pfs_check_falls.proofs.DeedLevels.{alike_back, alike_is, before_alike, not_back, sorted_split, unlike_is}

pub stands_below : (deeds : List PlacedDeed) (i k : ℕ) (one next : PlacedDeed) → AreInOrder deeds → slice_get deeds i ≡ Some one → slice_get deeds k ≡ Some next
    → Before (deed_of one) (deed_of next) → i < k
stands_below deeds i k one next order g h before = on (cases_lt i k) where
  on : (i < k) ⊎ (k ≤ i) → i < k
  on (inl l) = l
  on (inr l) = absurd (not_back (deed_of one) (deed_of next) (order k i next one l h g) before)

first_floor : (deeds : List PlacedDeed) (k : ℕ) (next : PlacedDeed) → AreInOrder deeds → k ≡ 0 → slice_get deeds k ≡ Some next → IsFloor deeds (deed_of next) None
first_floor deeds k next order e h i other g b = let l : i < k = stands_below deeds i k other next order g h b in absurd (omega (arith, l, e))

floor_step : (deeds : List PlacedDeed) (j k : ℕ) (floor : Option PlacedDeed) (last next : PlacedDeed) → AreInOrder deeds → k ≡ j + 1 → slice_get deeds j ≡ Some last → slice_get deeds k ≡ Some next
    → IsFloor deeds (deed_of last) floor → IsFloor deeds (deed_of next) (floor_next floor last next)
floor_step deeds j k floor last next order e g h was = on (last.row == next.row) refl where
  up : IsUpTo (deed_of last) (deed_of next)
  up = order j k last next (omega (arith, e)) g h

  -- what is before the next one is sorted up to the last one
  old : (i : ℕ) (other : PlacedDeed) → slice_get deeds i ≡ Some other → Before (deed_of other) (deed_of next) → IsUpTo (deed_of other) (deed_of last)
  old i other p b = let l : i < k = stands_below deeds i k other next order p h b in order i j other last (omega (arith, l, e)) p g

  none : (last.row ≡ next.row → ⊥) → IsFloor deeds (deed_of next) None
  none apart i other p b =
      let u : IsUpTo (deed_of other) (deed_of last) = old i other p b in
      let r : other.row ≡ next.row = b.0 in
      apart (omega (arith, u.row, up.row, r))

  same : (f : Option PlacedDeed) → AreAlike (deed_of last) (deed_of next) → IsFloor deeds (deed_of last) f → IsFloor deeds (deed_of next) f
  same None a w = λ i other p b. w i other p (before_alike (deed_of other) (deed_of next) (deed_of last) (alike_back (deed_of last) (deed_of next) a) b)
  same (Some high) a w = record {
    at = w.at;
    there = w.there;
    before = before_alike (deed_of high) (deed_of last) (deed_of next) a w.before;
    others = λ i other p b. w.others i other p (before_alike (deed_of other) (deed_of next) (deed_of last) (alike_back (deed_of last) (deed_of next) a) b);
  }

  last_is : Before (deed_of last) (deed_of next) → IsFloor deeds (deed_of next) (Some last)
  last_is b = record { at = j; there = g; before = b; others = λ i other p c. sorted_split (deed_of other) (deed_of last) (old i other p c) (c.0 ∙ sym b.0) }

  on : (t : Bool) → (last.row == next.row) ≡ t → IsFloor deeds (deed_of next) (cond t (cond (alike_test (deed_of last) (deed_of next)) floor (Some last)) None)
  on false q = none (eqb-false last.row next.row q)
  on true q = by (alike_test (deed_of last) (deed_of next)) refl where
    by : (u : Bool) → alike_test (deed_of last) (deed_of next) ≡ u → IsFloor deeds (deed_of next) (cond u floor (Some last))
    by true f = same floor (alike_is (deed_of last) (deed_of next) (eqb-true last.row next.row q) f) was
    by false f = last_is (unlike_is (deed_of last) (deed_of next) up (eqb-true last.row next.row q) f)

-- the last deed of those before a place, and what stands right before it
abbrev pub IsLast : List PlacedDeed → ℕ → Option PlacedDeed → Option PlacedDeed → Type 0
IsLast deeds k None floor = k ≡ 0
IsLast deeds k (Some last) floor = (0 < k) × (slice_get deeds (k - 1) ≡ Some last) × IsFloor deeds (deed_of last) floor

pub floor_is : (deeds : List PlacedDeed) (k : ℕ) (floor last : Option PlacedDeed) (next : PlacedDeed) → AreInOrder deeds → slice_get deeds k ≡ Some next
    → IsLast deeds k last floor → IsFloor deeds (deed_of next) (floor_behind floor last next)
floor_is deeds k floor None next order h e = first_floor deeds k next order e h
floor_is deeds k floor (Some last) next order h was =
    let some : 0 < k = was.0 in floor_step deeds (k - 1) k floor last next order (omega (arith, some)) was.1 h was.2
