-- The rules by which the changes of a report can be replayed.
use Rattle.std.specs.Prelude.{ℕ, List}
use Rattle.pfs_model.specs.Actions.{AreRising, NeverFall, deeds_of, numbers_by}
use Rattle.pfs_model.specs.Chains.{AreChained, action_change, row_change}
use Rattle.pfs_model.specs.Contents.{Given}
use Rattle.pfs_model.specs.EntryPlaces.{Block, IsShaped, places}
use Rattle.pfs_model.specs.Floors.{AreFloored}
use Rattle.pfs_check_contents.specs.declared.changes.RowChange.{RowChange}
use Rattle.pfs_check_contents.specs.OrderlyChanges.{AreOrderly}
use Rattle.pfs_check_contents.specs.PlacedChanges.{AreMadeOf}

-- The journals have the right shape; the numbers of the actions are those from 1 on, each once, and rise along each
-- session; each row has its versions from 1 on once; each entry keeps above its floor; and along a row the numbers of
-- the actions never fall.
pub record AreRuled (blocks : List Block) : Type 0 where
  pub shaped : IsShaped blocks
  pub numbers : AreChained action_change (places blocks)
  pub rising : (session : ℕ) → AreRising (numbers_by session (places blocks))
  pub rows : AreChained row_change (places blocks)
  pub floored : AreFloored (places blocks)
  pub deeds : NeverFall (deeds_of (places blocks))

-- So their changes are orderly.
abbrev pub OrderlyLaw : Type 0
OrderlyLaw = (given : Given) (blocks : List Block) (changes : List RowChange) → AreRuled blocks
    → AreMadeOf given (places blocks) changes → AreOrderly changes
