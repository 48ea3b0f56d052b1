-- Changes that can be replayed: in the order of their actions, and each action's in that of their places.
use Rattle.std.specs.Prelude.{ℕ, ◌≡◌, ◌+◌, ◌<◌, ◌⊎◌, List, slice_get, Some}
use Rattle.pfs_check_contents.specs.declared.changes.Effect.{Effect}
use Rattle.pfs_check_contents.specs.declared.changes.Effect.TheVariants as effects
use Rattle.pfs_check_contents.specs.declared.changes.RowChange.{RowChange}
use Rattle.pfs_check_contents.specs.ChangeReplays.{change_of}

-- the change stands at this place
abbrev pub StandsAt : List RowChange → ℕ → RowChange → Type 0
StandsAt changes place one = slice_get changes place ≡ Some one

-- one place and action come before another: by a lower action, or by the same at a lower place
abbrev pub ComesBefore : ℕ → ℕ → ℕ → ℕ → Type 0
ComesBefore action place other next = (action < other) ⊎ ((action ≡ other) × (place < next))

-- the change right before one in its row
pub record HasBefore (changes : List RowChange) (one : RowChange) : Type 0 where
  pub place : ℕ
  pub before : RowChange
  pub there : StandsAt changes place before
  pub row_is : before.row ≡ one.row
  pub version_is : before.version + 1 ≡ one.version

-- what is given was changed at that version by an action that comes before
pub record HasTaken (changes : List RowChange) (from version action at : ℕ) : Type 0 where
  pub place : ℕ
  pub source : RowChange
  pub there : StandsAt changes place source
  pub row_is : source.row ≡ from
  pub version_is : source.version ≡ version
  pub acted : 0 < source.action
  pub comes : ComesBefore source.action place action at

-- Each row has each version from 1 on once; along a row the changes by actions rise, with the actions and in each of
-- them; and what a give gives was taken before it.
pub record AreOrderly (changes : List RowChange) : Type 0 where
  pub positive : (place : ℕ) (one : RowChange) → StandsAt changes place one → 0 < one.version
  pub single : (place other : ℕ) (one next : RowChange) → StandsAt changes place one → StandsAt changes other next
      → change_of one ≡ change_of next → place ≡ other
  pub chained : (place : ℕ) (one : RowChange) → StandsAt changes place one → 1 < one.version → HasBefore changes one
  pub rises : (place other : ℕ) (one next : RowChange) → StandsAt changes place one → StandsAt changes other next
      → one.row ≡ next.row → one.version < next.version → 0 < one.action → 0 < next.action
      → ComesBefore one.action place next.action other
  pub sourced : (place : ℕ) (one : RowChange) (from version : ℕ) → StandsAt changes place one
      → one.effect ≡ effects.Give from version → HasTaken changes from version one.action place
