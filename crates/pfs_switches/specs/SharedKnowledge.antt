-- What a seat and the writer know together, when they meet and at the end.
use Rattle.std.specs.Prelude.{◌≡◌, ℕ, ◌+◌, ◌<◌, ◌≤◌, List, length, slice_index, slice_index_or}
use Rattle.pfs_switches.specs.declared.view.View.{View}
use Rattle.pfs_switches.specs.History.{Each, version, flags_at, IsChain}
use Rattle.pfs_switches.specs.LoadOrder.{IsRising, IsAbove}
use Rattle.pfs_switches.specs.Rule.{IsLoad, IsMeet}

-- The writer's sets number each word's versions, and it has seen the present ones. Each load of the seat's has the
-- flags of its version, and is not below an older load or an earlier meet under its number. No load or meet has a
-- version that the word never had, and no meet one below what its seat had seen.
pub record IsTold (start : List ℕ) (v w : View) : Type 0 where
  pub chain : IsChain w.sets
  pub counts : (r : ℕ) → r < length start → slice_index w.seen r ≡ version w.sets r
  pub loads : Each (IsLoad start w.sets (version w.sets)) v.loads
  pub rising : IsRising v.loads
  pub above : Each (IsAbove v.meets) v.loads
  pub meets : Each (IsMeet start w.sets (version w.sets)) v.meets
  pub seen : (r : ℕ) → slice_index v.seen r ≤ version w.sets r

-- At the end each word is left at its last version, with the flags that were set then.
pub record IsClosed (start : List ℕ) (v w : View) (rows : List (ℕ × ℕ)) : Type 0 where
  pub told : IsTold start v w
  pub rows_are : (r : ℕ) → r + 1 < length start
      → slice_index_or rows r (0, 0) ≡ (version w.sets r, flags_at start w.sets r (version w.sets r))
