-- What an action asks of its actor, of the log beside it, and of a session that connects.
use Rattle.std.specs.Prelude.{ℕ, ◌≡◌, ◌<◌, List, [], length}
use Rattle.pfs_classes.specs.declared.setting.Setting.{Setting}
use Rattle.pfs_event.specs.Logs.{Journal}
use Rattle.pfs_levels.specs.Calls.{Call, Opening}
use Rattle.pfs_levels.specs.Views.{Store, Affords}
use Rattle.pfs_session.specs.SessionStates.{State, no_place}

-- some calls led here, and so many publications and entries are there to be used. That there were fewer actions than
-- there may be needs no premise: each is a publication
pub record MayAct (spent entries : ℕ) (store : Store) (log : Journal) : Type 0 where
  pub begun : (start : Opening) × (calls : List Call) × store.reached start calls
  pub affords : Affords spent 0 entries store log

-- a session that may connect with these names, by their ids: it has had no action, has no place, and has nothing open
pub record MayConnect (s : State) (setting : Setting) (user host : ℕ) : Type 0 where
  pub first : s.actions ≡ 0
  pub unplaced : s.place ≡ no_place
  pub closed : s.opened.events ≡ []
  pub user_named : user < length setting.names
  pub host_named : host < length setting.names
