-- The entries of an action: its sets stand behind its other changes.
use Rattle.std.specs.Prelude.{ℕ, ◌≡◌, ◌<◌, List, [], ◌++◌}
use Rattle.pfs_model.specs.ActionAsks.{did, of_action}
use Rattle.pfs_model.specs.Chains.{AreChained, action_change, change_at, each_of, is_that, times}
use Rattle.pfs_model.specs.EntryPlaces.{Block, IsShaped, places}
use Rattle.pfs_check_faults.specs.ActionFaults.{flagging_at, moving_at}

-- Journals of the right shape, in which each number of an action stands once.
abbrev pub ActedLaw : Type 0
ActedLaw = (blocks : List Block) (number : ℕ) → IsShaped blocks → AreChained action_change (places blocks) → 0 < number
    → each_of did (of_action number (places blocks))
    ≡ each_of moving_at (of_action number (places blocks)) ++ each_of flagging_at (of_action number (places blocks))

-- And where no entry says its number, an action has no entries.
abbrev pub IdleLaw : Type 0
IdleLaw = (blocks : List Block) (number : ℕ) → IsShaped blocks → 0 < number
    → times (is_that (change_at 0 number)) (each_of action_change (places blocks)) ≡ 0
    → of_action number (places blocks) ≡ []
