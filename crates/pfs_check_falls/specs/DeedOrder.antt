-- The order in which deeds are sorted, and what is found as they are gone through in it.
use Rattle.std.specs.Prelude.{ℕ, ◌≡◌, ◌+◌, ◌*◌, ◌<◌, ◌≤◌, ◌⊎◌, ◌==◌, nat_lt, not, Bool, true, cond, ◌&&◌, ◌||◌, min, List, slice_get, Option, Some, None}
use Rattle.pfs_model.specs.Actions.{Deed}
use Rattle.pfs_check_falls.specs.declared.falls.PlacedDeed.{PlacedDeed}
use Rattle.pfs_check_falls.specs.FallenDeeds.{deed_of}

-- the place of a deed along its row: a version's change stands before its release
abbrev pub level_of : Deed → ℕ
level_of one = 2 * one.version + cond one.releases 1 0

-- one stands before another of its row: at a lower level, or as that one of two releases whose action is lower
abbrev pub Before : Deed → Deed → Type 0
Before one next =
    (one.row ≡ next.row)
    × ((level_of one < level_of next)
    ⊎ ((level_of one ≡ level_of next) × (one.releases ≡ true) × (one.action < next.action)))

-- two stand at the same place: neither is before the other
pub record AreAlike (one other : Deed) : Type 0 where
  pub row : one.row ≡ other.row
  pub level : level_of one ≡ level_of other
  pub action : one.releases ≡ true → one.action ≡ other.action

-- one is sorted before another, or with it
pub record IsUpTo (one other : Deed) : Type 0 where
  pub row : one.row ≤ other.row
  pub level : one.row ≡ other.row → level_of one ≤ level_of other
  pub action : one.row ≡ other.row → level_of one ≡ level_of other → one.action ≤ other.action

abbrev pub AreInOrder : List PlacedDeed → Type 0
AreInOrder deeds = (i j : ℕ) (one other : PlacedDeed) → i ≤ j → slice_get deeds i ≡ Some one
    → slice_get deeds j ≡ Some other → IsUpTo (deed_of one) (deed_of other)

-- the test of two deeds of a row, one sorted before the other
abbrev pub alike_test : Deed → Deed → Bool
alike_test last next = (level_of last == level_of next) && (not last.releases || (last.action == next.action))

-- what stands right before the next one, by what stood right before the last one
abbrev pub floor_next : Option PlacedDeed → PlacedDeed → PlacedDeed → Option PlacedDeed
floor_next floor last next =
    cond (last.row == next.row) (cond (alike_test (deed_of last) (deed_of next)) floor (Some last)) None

abbrev pub floor_behind : Option PlacedDeed → Option PlacedDeed → PlacedDeed → Option PlacedDeed
floor_behind floor None next = None
floor_behind floor (Some last) next = floor_next floor last next

-- Of those that stand before a deed this one does too, and the others stand before it, or with it and by no greater
-- action.
pub record IsHighest (deeds : List PlacedDeed) (one : Deed) (high : PlacedDeed) : Type 0 where
  pub at : ℕ
  pub there : slice_get deeds at ≡ Some high
  pub before : Before (deed_of high) one
  pub others : (i : ℕ) (other : PlacedDeed) → slice_get deeds i ≡ Some other → Before (deed_of other) one
      → Before (deed_of other) (deed_of high) ⊎ (AreAlike (deed_of other) (deed_of high) × (other.action ≤ high.action))

abbrev pub IsFloor : List PlacedDeed → Deed → Option PlacedDeed → Type 0
IsFloor deeds one None = (i : ℕ) (other : PlacedDeed) → slice_get deeds i ≡ Some other
    → Before (deed_of other) one → ⊥
IsFloor deeds one (Some high) = IsHighest deeds one high

-- the lesser of the places so far, where the next deed falls
abbrev pub lesser_place : Option ℕ → ℕ → Option ℕ
lesser_place None place = Some place
lesser_place (Some least) place = Some (min least place)

abbrev pub with_fall : Option ℕ → Option PlacedDeed → PlacedDeed → Option ℕ
with_fall least None next = least
with_fall least (Some high) next = cond (nat_lt next.action high.action) (lesser_place least next.place) least
