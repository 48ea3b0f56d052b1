-- The least and the greatest wait of events, as a row shows them.
use Rattle.std.specs.Prelude.{ℕ, ◌≡◌, ◌≤◌, cond, List, [], ◌∷◌, ◌++◌, Contains}
use Rattle.pfs_model.specs.Contents.{Given}
use Rattle.pfs_model.specs.SetupFlags.{is_timed}
use Rattle.pfs_stat.specs.declared.Stat.{Stat}
use Rattle.pfs_summaries.specs.RowValues.{timed_number}
use Rattle.pfs_law_conservation.specs.RunEvents.{Ended}

-- the waits of those events that were timed
abbrev pub timed_waits : Given → List Ended → List ℕ
timed_waits given [] = []
timed_waits given (one ∷ others) =
    cond (is_timed given.flags (given.slots one.session) one.event)
    ((given.facts one.session one.event.index).duration ∷ []) []
    ++ timed_waits given others

-- A row shows 0 as the least and the greatest where none of its events was timed. Else both are waits of timed events,
-- and each wait lies between them.
pub record AreExtremes (waits : List ℕ) (stat : Stat) : Type 0 where
  pub none : waits ≡ [] → (timed_number stat stat.min ≡ 0) × (timed_number stat stat.max ≡ 0)
  pub some : (wait : ℕ) → Contains waits wait
      → Contains waits (timed_number stat stat.min) × Contains waits (timed_number stat stat.max)
      × (timed_number stat stat.min ≤ wait) × (wait ≤ timed_number stat stat.max)
