-- What an action that is under way asks of the administration, of its store and of its log.
use Rattle.std.specs.Prelude.{ℕ, ◌≡◌, ◌<◌, ◌^◌, Some, None}
use Rattle.pfs_admin.specs.AdministrationStates.{State}
use Rattle.pfs_event.specs.Logs.{Journal}
use Rattle.pfs_levels.specs.Views.{Store, Affords}

-- there were fewer actions than there may be, no row but row 0 is in hand, the store has the words that the administration
-- has, and so many publications and entries are there to be used
pub record MayWork (spent entries : ℕ) (admin : State) (store : Store) (log : Journal) : Type 0 where
  pub few : admin.actions < 2 ^ 47
  pub alone : (r : ℕ) → 0 < r → store.hand r ≡ None
  pub lent : store.words ≡ Some admin.words
  pub affords : Affords spent 0 entries store log
